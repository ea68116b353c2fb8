-- There are no comments between the statements of a line.
use Rattle.bz_hosts.proofs.Words.{[], ◌∙◌, ◌∷◌, ◌≡◌, after_part, all_in, AllByRecursion, Along, along, ap, as_list, AtLeaves, AtParts, AtRow, Begins, Bytes, Class, Class as c, done, end_of-Part, false, first_seen_gap, Fits, GapStands, has_token, inl, inner_nonterminal, inr, IsGap, IsNonterminal, items-the_row-Part, LegalPart, LegalRow, LegalRowBy, line_shape, List, list, Listed, more_of-Part, no_such, Node', not, onward, Part, Part as p, refl, Row_of-Part, seen, seen_row, Spot, Stands, subst, Terminal, tok, true}
use Rattle.bz_grammar.specs.Shapes as s
use Rattle.bz_hosts.proofs.Alternating.{Alternating}
use Rattle.bz_hosts.proofs.Cuts.{listed_alternating}
use Rattle.bz_hosts.proofs.InnerParts.{ends_line, is_inner, InLine, in_line, inner_row, every_part, token_inner, nonterminal_inner, inner_parts, nonterminal_goes, token_goes}
use Rattle.bz_hosts.proofs.RowParts.{on_twice}

pub along_silent : (gap : Bytes) → IsGap false false gap → all_in gap ≡ []
along_silent gap h = let w = along false gap h in w.2 ∙ ap as_list (w.3 refl)

gap_silent : (class : Class) (gap : Bytes) → not (ends_line class) ≡ true → GapStands class Along gap → all_in gap ≡ []
gap_silent c.Newline gap e h = no_such e
gap_silent c.End gap e h = no_such e
gap_silent _ gap e h = along_silent gap h

-- no comment is before the part if it is along a line
abbrev pub Silent : Part → Type 0
Silent x = is_inner x ≡ true → AtLeaves Stands Along x → all_in (seen x).gap ≡ []

mutual
  pub part_silent : (x : Part) → LegalPart x → Silent x
  part_silent (p.Leaf l) g i h = gap_silent l.class l.gap i h
  part_silent (Node' kind n r) g i h = row_silent _ r (inner_parts kind i (items-the_row-Part _ r) g.0) g.1 h

  row_silent : (m : _) (r : Row_of-Part m) → AllByRecursion (λ x. is_inner x ≡ true) (items-the_row-Part m r) → LegalRow r → AtRow Stands Along Along r → all_in (first_seen_gap (seen_row r)) ≡ []
  row_silent m end_of-Part i g h = refl
  row_silent m (more_of-Part x rest) i g h = part_silent x g.0 i.0 h.0

-- statement, semicolon, statement, .. Newline: before semicolons and before each statement but the first
abbrev pub Quiet : List Part → Type 0
Quiet [] = Unit {0}
Quiet (x ∷ []) = Unit {0}
Quiet (x ∷ y ∷ []) = Unit {0}
Quiet (x ∷ y ∷ z ∷ []) = all_in (seen y).gap ≡ []
Quiet (x ∷ y ∷ z ∷ u ∷ xs) = (all_in (seen y).gap ≡ []) × (all_in (seen z).gap ≡ []) × Quiet (z ∷ u ∷ xs)

abbrev pub Statements : List Part → Type 0
Statements xs = Listed (IsNonterminal s.small) s.semicolon true (Fits IsNonterminal (tok s.newline done)) xs

token_in_line : (ts : List Terminal) (x : Part) → true ≡ true → has_token ts x ≡ true → InLine x
token_in_line ts (p.Leaf l) h i = tt
token_in_line ts (Node' kind n r) h i = no_such i

-- each part of a line is a token or may be inside a line
pub in_statements : (xs : List Part) → Statements xs → AllByRecursion InLine xs
in_statements xs h = every_part InLine (λ ts. true) inner_nonterminal token_in_line (λ a x b i. in_line x (nonterminal_inner a x b i)) (list s.small s.semicolon true (tok s.newline done)) refl xs h

pub legal_statements : (m : _) (r : Row_of-Part m) → Statements (items-the_row-Part m r) → LegalRow r → LegalRowBy line_shape r
legal_statements m r h g = inner_row m r (in_statements _ h) g

pub line_alternating : (xs : List Part) → Statements xs → Alternating s.semicolon xs
line_alternating xs h = listed_alternating s.semicolon s.newline refl refl refl s.small refl xs h

pub statements_quiet : (outer here : Spot) (xs : List Part) → onward here ≡ onward Begins → Statements xs → AllByRecursion Silent xs → AtParts Stands outer here xs → Quiet xs
statements_quiet outer here [] e h g at_ = tt
statements_quiet outer here (x ∷ []) e h g at_ = tt
statements_quiet outer here (x ∷ y ∷ []) e h g at_ = tt
statements_quiet outer here (x ∷ y ∷ z ∷ []) e (h, inl j) g at_ = absurd j.1
statements_quiet outer here (x ∷ y ∷ z ∷ []) e (h, inr w) g at_ =
    let there : after_part outer here x ≡ Along = nonterminal_goes s.small x refl h outer here ∙ e in
    g.1.0 (token_inner s.semicolon y refl w.0) (subst (λ q. AtLeaves Stands q y) there at_.1.0)
statements_quiet outer here (x ∷ y ∷ z ∷ u ∷ xs) e (h, inl j) g at_ = absurd j.1
statements_quiet outer here (x ∷ y ∷ z ∷ u ∷ xs) e (h, inr (m, inr j)) g at_ = absurd j.1.1
statements_quiet outer here (x ∷ y ∷ z ∷ u ∷ xs) e (h, inr (m, inl j)) g at_ =
    let first : after_part outer here x ≡ onward here = nonterminal_goes s.small x refl h outer here in
    let there : after_part outer (after_part outer here x) y ≡ onward here = token_goes s.semicolon y refl m outer (after_part outer here x) ∙ (ap onward first ∙ on_twice here) in (
      g.1.0 (token_inner s.semicolon y refl m) (subst (λ q. AtLeaves Stands q y) (first ∙ e) at_.1.0),
      g.1.1.0 (nonterminal_inner s.small z refl j.0) (subst (λ q. AtLeaves Stands q z) (there ∙ e) at_.1.1.0),
      statements_quiet outer (onward here) (z ∷ u ∷ xs) (on_twice here ∙ e) j g.1.1 (subst (λ q. AtParts Stands outer q (z ∷ u ∷ xs)) there at_.1.1),
    )
