-- Why operands request nothing, and what is below that.
use Rattle.bz_command_line.proofs.Words.{[], ◌++◌, ◌∙◌, ◌∷◌, ◌≡◌, ap, append-nil, append_assoc, AppendsUnlessFailed, Bytes, codes, concat, decimal, escaped_text, IfSome, in_line, None, Option, option_map, Some, subst, Usage, usage_line, ℕ}

-- of operands among the words nothing
pub nothing_below : (found : Option Usage) (f g : ℕ) (old new : Option Bytes)
    → IfSome found (λ usage. AppendsUnlessFailed f g old new (usage_line [] usage ++ [])) → IfSome found (λ usage. AppendsUnlessFailed f g old new (usage_line [] usage))
nothing_below None f g old new holds = tt
nothing_below (Some usage) f g old new holds = subst (AppendsUnlessFailed f g old new) (append-nil (usage_line [] usage)) holds

-- of a line its place
pub in_its_place : (found : Option Usage) (line : ℕ) (file place : Bytes) (f g : ℕ) (old new : Option Bytes) → place ≡ codes ":" ++ decimal line ++ codes ": refused\n"
    → IfSome found (λ usage. AppendsUnlessFailed f g old new (concat (usage_line file usage ∷ escaped_text file ∷ place ∷ [])))
    → IfSome (option_map (in_line line) found) (λ usage. AppendsUnlessFailed f g old new (usage_line file usage))
in_its_place None line file place f g old new is holds = tt
in_its_place (Some usage) line file place f g old new is holds =
    subst (λ (it : Bytes). AppendsUnlessFailed f g old new (usage_line file usage ++ (escaped_text file ++ it))) (append-nil place ∙ is) holds

-- a line of three pieces, and a line below it
pub three_pieces : (a b c d : Bytes) → (a ++ (b ++ c)) ++ d ≡ a ++ (b ++ (c ++ d))
three_pieces a b c d = append_assoc a (b ++ c) d ∙ ap (λ (it : Bytes). a ++ it) (append_assoc b c d)
