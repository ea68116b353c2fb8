-- Legal by nodes and legal by the list of leaves are the same.
use Rattle.bz_grammar.proofs.Words.{[], ◌++◌, ◌↔◌, ◌∷◌, ◌≡◌, ◌⊎◌, after_newline, after_token, Along, AreLeaves, AreTokens, AtParts, Begins, Bool, Class, Class as c, deeper, end, end_at_once, false, Fresh, GapStands, if◌then◌else◌, inl, inner, inr, Inside, is_closing, is_opening, IsFile, IsGap, IsLegalByLeaves, IsToken, Last, later, Leaf, leaves_of, Legal, List, May, newline, next, no_newline, Node, not_over, nothing, Over, Place, refl, same_depth, shallower, spell_leaves, Stand, Stands, subst, suc, sym, token_holds, TokenStands, true, Within, zero, ℕ}
use Rattle.bz_lex.specs.{declared.place.Place.TheVariants.After, Places.first}
use Rattle.bz_grammar.proofs.{Flat.spot_of, Flat.after, Flat.Flat, Balance.file_at}

-- ---- from the list

first_gap : (class : Class) (gap token rest : List ℕ) → IsToken class token rest → IsGap true false gap → GapStands class Begins gap
first_gap c.Newline gap token rest t g = absurd t.lexeme
first_gap c.End gap token rest t g = absurd t.lexeme
first_gap _ gap token rest t g = g

later_gap : (class : Class) (gap token rest : List ℕ) → IsToken class token rest → IsGap false false gap → GapStands class Along gap
later_gap c.Newline gap token rest t g = absurd t.lexeme
later_gap c.End gap token rest t g = absurd t.lexeme
later_gap _ gap token rest t g = g

inner_gap : (class : Class) (gap token rest : List ℕ) → IsToken class token rest → IsGap true false gap → GapStands class Within gap
inner_gap c.Newline gap token rest t g = absurd t.lexeme
inner_gap c.End gap token rest t g = absurd t.lexeme
inner_gap _ gap token rest t g = g

-- a token before a text
abbrev TokenText : Class → List ℕ → List ℕ → Type 0
TokenText c.Newline token rest = (token ≡ 10 ∷ []) ⊎ ((token ≡ []) × (rest ≡ []))
TokenText c.End token rest = token ≡ []
TokenText class token rest = IsToken class token rest

some_token : (class : Class) (token rest : List ℕ) → IsToken class token rest → TokenText class token rest
some_token c.Newline token rest t = absurd t.lexeme
some_token c.End token rest t = absurd t.lexeme
some_token _ token rest t = t

from_may : (p : Place) (l : Leaf) (rest : List ℕ) → May IsToken p l rest → Stands (spot_of p) l × TokenText l.class l.token rest
from_may p l rest (first g t) = (first_gap l.class l.gap l.token rest t g, some_token l.class l.token rest t)
from_may p l rest (later g t) = (later_gap l.class l.gap l.token rest t g, some_token l.class l.token rest t)
from_may p l rest (inner g t) = (inner_gap l.class l.gap l.token rest t g, some_token l.class l.token rest t)
from_may p l rest (newline unclosed g) = ((unclosed, g), inl refl)
from_may p l rest (no_newline unclosed g) = ((unclosed, g), inr (refl, refl))
from_may p l rest (end unclosed g) = ((unclosed, g), refl)
from_may p l rest end_at_once = ((false, nothing refl), refl)

nothing_over : (ls : List Leaf) → Stand (May IsToken) Over ls → ls ≡ []
nothing_over [] h = refl
nothing_over (l ∷ ls) h = absurd (not_over l (spell_leaves ls) h.0)

token_stands : (class : Class) (token : List ℕ) (ls : List Leaf) (p : Place) → TokenText class token (spell_leaves ls) → Stand (May IsToken) (after_token class token p) ls → TokenStands class token ls
token_stands c.Newline token ls p t h = t
token_stands c.End token ls p t h = (t, nothing_over ls h)
token_stands _ token ls p t h = t

gaps_of : (p : Place) (ls : List Leaf) → Stand (May IsToken) p ls → Flat Stands p ls
gaps_of p [] h = tt
gaps_of p (l ∷ ls) h = ((from_may p l (spell_leaves ls) h.0).0, gaps_of (next p l) ls h.1)

tokens_of : (p : Place) (ls : List Leaf) → Stand (May IsToken) p ls → AreTokens ls
tokens_of p [] h = tt
tokens_of p (l ∷ ls) h = (token_stands l.class l.token ls p (from_may p l (spell_leaves ls) h.0).1 h.1, tokens_of (next p l) ls h.1)

-- ---- to the list

-- at the end of a text nothing is left to spell, after the end no leaf
abbrev Left : Place → List Leaf → Type 0
Left Last ls = spell_leaves ls ≡ []
Left Over ls = ls ≡ []
Left _ ls = Unit {0}

left_same : (p : Place) (ls : List Leaf) → Left (same_depth p) ls
left_same (Inside n) ls = tt
left_same _ ls = tt

left_deeper : (p : Place) (ls : List Leaf) → Left (deeper p) ls
left_deeper (Inside n) ls = tt
left_deeper _ ls = tt

left_shallower : (p : Place) (ls : List Leaf) → Left (shallower p) ls
left_shallower (Inside zero) ls = tt
left_shallower (Inside (suc n)) ls = tt
left_shallower _ ls = tt

left_mark : (a b : Bool) (p : Place) (ls : List Leaf) → Left (if a then deeper p else (if b then shallower p else same_depth p)) ls
left_mark true b p ls = left_deeper p ls
left_mark false true p ls = left_shallower p ls
left_mark false false p ls = left_same p ls

left_following : (class : Class) (token : List ℕ) (p : Place) (ls : List Leaf) → TokenStands class token ls → Left (after_token class token p) ls
left_following c.Mark token p ls t = left_mark (is_opening token) (is_closing token) p ls
left_following c.Newline token p ls (inl e) = subst (λ z. Left (after_newline z) ls) (sym e) tt
left_following c.Newline token p ls (inr e) = subst (λ z. Left (after_newline z) ls) (sym e.0) e.1
left_following c.End token p ls t = t.1
left_following _ token p ls t = left_same p ls

abbrev Made : Place → Class → List ℕ → List ℕ → List ℕ → Type 0
Made p class gap token rest = May IsToken p (record { class = class; gap = gap; token = token }) rest

made_first : (class : Class) (gap token : List ℕ) (ls : List Leaf) → GapStands class Begins gap → TokenStands class token ls → Made Fresh class gap token (spell_leaves ls)
made_first c.Newline gap token ls g t = absurd g
made_first c.End gap token ls g t = subst (λ z. Made Fresh c.End gap z (spell_leaves ls)) (sym t.0) (subst (λ z. Made Fresh c.End gap [] (spell_leaves z)) (sym t.1) (end g.0 g.1))
made_first _ gap token ls g t = first g t

made_later : (class : Class) (gap token : List ℕ) (ls : List Leaf) → GapStands class Along gap → TokenStands class token ls → Made After class gap token (spell_leaves ls)
made_later c.Newline gap token ls g (inl e) = subst (λ z. Made After c.Newline gap z (spell_leaves ls)) (sym e) (newline g.0 g.1)
made_later c.Newline gap token ls g (inr e) = subst (λ z. Made After c.Newline gap z (spell_leaves ls)) (sym e.0) (subst (λ z. Made After c.Newline gap [] z) (sym e.1) (no_newline g.0 g.1))
made_later c.End gap token ls g t = absurd g
made_later _ gap token ls g t = later g t

made_inner : (n : ℕ) (class : Class) (gap token : List ℕ) (ls : List Leaf) → GapStands class Within gap → TokenStands class token ls → Made (Inside n) class gap token (spell_leaves ls)
made_inner n c.Newline gap token ls g t = absurd g
made_inner n c.End gap token ls g t = absurd g
made_inner n _ gap token ls g t = inner g t

after_nothing : (class : Class) (token : List ℕ) (ls : List Leaf) → IsToken class token (spell_leaves ls) → token ++ spell_leaves ls ≡ [] → ⊥
after_nothing class token ls t e = token_holds class token (spell_leaves ls) t e

front_nothing : (a b : List ℕ) → a ++ b ≡ [] → (a ≡ []) × (b ≡ [])
front_nothing [] b e = (refl, e)
front_nothing (x ∷ a) b e = absurd cc

made_last : (class : Class) (gap token : List ℕ) (ls : List Leaf) → GapStands class Begins gap → TokenStands class token ls → gap ++ (token ++ spell_leaves ls) ≡ [] → Made Last class gap token (spell_leaves ls)
made_last c.Newline gap token ls g t e = absurd g
made_last c.End gap token ls g t e =
    subst (λ z. Made Last c.End z token (spell_leaves ls)) (sym (front_nothing gap _ e).0)
    (subst (λ z. Made Last c.End [] z (spell_leaves ls)) (sym t.0) (subst (λ z. Made Last c.End [] [] (spell_leaves z)) (sym t.1) end_at_once))
made_last c.Name gap token ls g t e = absurd (after_nothing c.Name token ls t (front_nothing gap _ e).1)
made_last c.Keyword gap token ls g t e = absurd (after_nothing c.Keyword token ls t (front_nothing gap _ e).1)
made_last c.Number gap token ls g t e = absurd (after_nothing c.Number token ls t (front_nothing gap _ e).1)
made_last c.String gap token ls g t e = absurd (after_nothing c.String token ls t (front_nothing gap _ e).1)
made_last c.Mark gap token ls g t e = absurd (after_nothing c.Mark token ls t (front_nothing gap _ e).1)

to_may : (p : Place) (l : Leaf) (ls : List Leaf) → Left p (l ∷ ls) → Stands (spot_of p) l → TokenStands l.class l.token ls → May IsToken p l (spell_leaves ls)
to_may Fresh l ls e g t = made_first l.class l.gap l.token ls g t
to_may After l ls e g t = made_later l.class l.gap l.token ls g t
to_may (Inside n) l ls e g t = made_inner n l.class l.gap l.token ls g t
to_may Last l ls e g t = made_last l.class l.gap l.token ls g t e
to_may Over l ls e g t = absurd cc

stand_of : (p : Place) (ls : List Leaf) → Left p ls → after p ls ≡ Over → Flat Stands p ls → AreTokens ls → Stand (May IsToken) p ls
stand_of p [] e i g t = i
stand_of p (l ∷ ls) e i g t = (to_may p l ls e g.0 t.0, stand_of (next p l) ls (left_following l.class l.token p ls t.0) i g.1 t.1)

-- ---- both ways

pub gaps_by_nodes : (n : Node) → IsFile n → (AtParts Stands Begins Begins n.parts × AreTokens (leaves_of n)) ↔ AreLeaves (leaves_of n)
gaps_by_nodes n h =
    let w = file_at Stands n h in (
      (λ g. stand_of Fresh (leaves_of n) tt w.0 (w.1.0 g.0) g.1),
      (λ k. (w.1.1 (gaps_of Fresh (leaves_of n) k), tokens_of Fresh (leaves_of n) k)),
    )

-- the leaves of a legal tree are those of its spelling
pub leaves_bzl_legal : (n : Node) → Legal n → AreLeaves (leaves_of n)
leaves_bzl_legal n h = (gaps_by_nodes n h.file).0 (h.gaps, h.tokens)

-- a file of the leaves of a text has legal gaps and tokens
pub legal_leaves : (n : Node) → IsFile n → AreLeaves (leaves_of n) → AtParts Stands Begins Begins n.parts × AreTokens (leaves_of n)
legal_leaves n h = (gaps_by_nodes n h).1

pub legal_by_nodes : (n : Node) → Legal n ↔ IsLegalByLeaves n
legal_by_nodes n = (
  (λ h. record { file = h.file; indents = h.indents; leaves = leaves_bzl_legal n h; coded = h.coded; depth = h.depth }),
  (λ h. let w = legal_leaves n h.file h.leaves in record { file = h.file; gaps = w.0; indents = h.indents; tokens = w.1; coded = h.coded; depth = h.depth }),
)
