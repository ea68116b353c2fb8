-- Whole lines before a file.
use Rattle.bz_grammar.proofs.Words.{[], ◌++◌, ◌∙◌, ◌∷◌, ◌≡◌, ◌≤◌, AllByRecursion, ap, append-nil, append_assoc, AreCoded, AreIndented, AreLeaves, AreWholeLines, arith, bzl_shape, BzlLinesJoin, Class, Class as c, deepest, depth_limit, end, end_at_once, file_with, Fits, flat_map, Fresh, Indented, inl, inner, inr, IsBuild, IsBuildPart, IsCodedLeaf, IsFile, IsLegalByLeaves, IsNonterminal, IsToken, last_token, later, Leaf, leaves_of, leaves_part, Legal, LegalPart, LinesJoin, List, May, newline, next, no_newline, Node, Node', or_cases, Part, Place, refl, Several, spell_leaves, spell_node, spell_part, Stand, subst, suc, sym, token_no_newline, ℕ}
use Rattle.std.proofs.lemmas.Grind.{flat_map-append}
use Rattle.bz_lex.specs.Places.{first}
use Rattle.bz_grammar.specs.declared.tree.Part as p
use Rattle.bz_grammar.specs.Shapes as s
use Rattle.bz_grammar.proofs.{Balance.no_such, Balance.same_class, Both.legal_by_nodes, Spells.spell_leaves-append, Extended.not_open, Extended.may_extend}

-- ---- leaves

-- what whole lines spell ends in a line feed
last_byte : (l : Leaf) (ls : List Leaf) → last_token (l ∷ ls) ≡ 10 ∷ [] → (r : List ℕ) × (spell_leaves (l ∷ ls) ≡ r ++ 10 ∷ [])
last_byte l [] e = (l.gap, ap (λ (t : List ℕ). l.gap ++ t) (append-nil l.token ∙ e))
last_byte l (m ∷ ls) e =
    let w = last_byte m ls e in
    (l.gap ++ (l.token ++ w.0), ap (λ (t : List ℕ). l.gap ++ (l.token ++ t)) w.1 ∙ sym (append_assoc l.gap (l.token ++ w.0) (10 ∷ []) ∙ ap (λ (t : List ℕ). l.gap ++ t) (append_assoc l.token w.0 (10 ∷ []))))

no_line_token : (class : Class) (token s : List ℕ) → IsToken class token s → token ≡ 10 ∷ [] → ⊥
no_line_token class token s t e = token_no_newline class token s s t (ap (λ (z : List ℕ). z ++ s) e)

-- a line feed is before any text, and a line begins after it
last_line : (p : Place) (l : Leaf) (s more : List ℕ) → May IsToken p l s → l.token ≡ 10 ∷ [] → May IsToken p l more × (next p l ≡ Fresh)
last_line p l s more (first g t) e = absurd (no_line_token l.class l.token s t e)
last_line p l s more (later g t) e = absurd (no_line_token l.class l.token s t e)
last_line p l s more (inner g t) e = absurd (no_line_token l.class l.token s t e)
last_line p l s more (newline u g) e = (newline u g, refl)
last_line p l s more (no_newline u g) e = absurd cc
last_line p l s more (end u g) e = absurd cc
last_line p l s more end_at_once e = absurd cc

leaves_before : (p : Place) (l : Leaf) (ls : List Leaf) (e : Leaf) (ms : List Leaf) → Stand (May IsToken) p (l ∷ (ls ++ e ∷ [])) → spell_leaves (e ∷ []) ≡ [] → last_token (l ∷ ls) ≡ 10 ∷ [] → AreLeaves ms
    → Stand (May IsToken) p (l ∷ (ls ++ ms))
leaves_before p l [] e ms h n t k = let w = last_line p l _ (spell_leaves ms) h.0 t in (w.0, subst (λ z. Stand (May IsToken) z ms) (sym w.1) k)
leaves_before p l (m ∷ ls) e ms h n t k =
    let r = last_byte m ls t in
    let whole : spell_leaves ((m ∷ ls) ++ e ∷ []) ≡ r.0 ++ 10 ∷ [] = spell_leaves-append (m ∷ ls) (e ∷ []) ∙ (ap (λ (z : List ℕ). spell_leaves (m ∷ ls) ++ z) n ∙ (append-nil (spell_leaves (m ∷ ls)) ∙ r.1)) in
    let more : spell_leaves ((m ∷ ls) ++ e ∷ []) ++ spell_leaves ms ≡ spell_leaves ((m ∷ ls) ++ ms) =
    ap (λ (z : List ℕ). z ++ spell_leaves ms) (spell_leaves-append (m ∷ ls) (e ∷ []) ∙ (ap (λ (z : List ℕ). spell_leaves (m ∷ ls) ++ z) n ∙ append-nil (spell_leaves (m ∷ ls)))) ∙ sym (spell_leaves-append (m ∷ ls) ms) in (
      subst (May IsToken p l) more (may_extend p l (spell_leaves ((m ∷ ls) ++ e ∷ [])) r.0 (spell_leaves ms) whole (λ z o. not_open l.class l.token (next p l) ((m ∷ ls) ++ e ∷ []) z h.1 o) h.0),
      leaves_before (next p l) m ls e ms h.1 n t k,
    )

leaves_joined : (ls : List Leaf) (e : Leaf) (ms : List Leaf) → AreLeaves (ls ++ e ∷ []) → spell_leaves (e ∷ []) ≡ [] → last_token ls ≡ 10 ∷ [] → AreLeaves ms → AreLeaves (ls ++ ms)
leaves_joined [] e ms h n t k = k
leaves_joined (l ∷ ls) e ms h n t k = leaves_before Fresh l ls e ms h n t k

no_end : (class : Class) (token s : List ℕ) → IsToken class token s → class ≡ c.End → ⊥
no_end class token s t i = (subst (λ (z : Class). IsToken z token s) i t).lexeme

-- the end is nothing
end_nothing : (p : Place) (e : Leaf) (s : List ℕ) → May IsToken p e s → e.class ≡ c.End → e.token ≡ []
end_nothing p e s (first g t) i = absurd (no_end e.class e.token s t i)
end_nothing p e s (later g t) i = absurd (no_end e.class e.token s t i)
end_nothing p e s (inner g t) i = absurd (no_end e.class e.token s t i)
end_nothing p e s (newline u g) i = absurd cc
end_nothing p e s (no_newline u g) i = refl
end_nothing p e s (end u g) i = refl
end_nothing p e s end_at_once i = refl

-- ---- lists of parts

abbrev Ending : List Part → Type 0
Ending xs = Several (IsNonterminal s.stmt) (Fits IsNonterminal (s.tok s.end s.done)) xs

fits_joined : (xs : List Part) (e : Part) (ys : List Part) → Ending (xs ++ e ∷ []) → Ending ys → Ending (xs ++ ys)
fits_joined [] e ys h k = k
fits_joined (x ∷ []) e ys (inl h) k = absurd h.1
fits_joined (x ∷ y ∷ xs) e ys (inl h) k = absurd h.1
fits_joined (x ∷ xs) e ys (inr h) k = inr (h.0, fits_joined xs e ys h.1 k)

end_class : (xs : List Part) (e : Leaf) → Ending (xs ++ p.Leaf e ∷ []) → e.class ≡ c.End
end_class [] e (inl h) = elim (or_cases _ _ h.0) [ inl i ↦ same_class e.class c.End i | inr i ↦ no_such i ]
end_class [] e (inr h) = no_such h.0
end_class (x ∷ []) e (inl h) = absurd h.1
end_class (x ∷ y ∷ xs) e (inl h) = absurd h.1
end_class (x ∷ xs) e (inr h) = end_class xs e h.1

all_joined : {X : Type 0} (P : X → Type 0) (xs : List X) (e : X) (ys : List X) → AllByRecursion P (xs ++ e ∷ []) → AllByRecursion P ys → AllByRecursion P (xs ++ ys)
all_joined P [] e ys h k = k
all_joined P (x ∷ xs) e ys h k = (h.0, all_joined P xs e ys h.1 k)

depth_joined : (d : ℕ) (xs : List Part) (e : Part) (ys : List Part) → suc (deepest (xs ++ e ∷ [])) ≤ d → suc (deepest ys) ≤ d → suc (deepest (xs ++ ys)) ≤ d
depth_joined d [] e ys h k = k
depth_joined d (x ∷ xs) e ys h k = let w = depth_joined d xs e ys (omega arith) k in omega (arith, h, w)

-- ---- trees

file_fits : (n : Node) → IsFile n → Ending n.parts
file_fits n h = subst (λ kd. Fits IsNonterminal (bzl_shape kd) n.parts) h.root h.shapes.0

module _ (n m : Node) (xs : List Part) (e : Leaf) (is : n.parts ≡ xs ++ p.Leaf e ∷ []) (whole : AreWholeLines xs) (none : e.gap ≡ []) where
  abbrev both : Node
  both = file_with (xs ++ m.parts)

  abbrev ls : List Leaf
  ls = flat_map leaves_part xs

  module _ (h : IsLegalByLeaves n) where
    fits : Ending (xs ++ p.Leaf e ∷ [])
    fits = subst Ending is (file_fits n h.file)

    one : leaves_of n ≡ ls ++ e ∷ []
    one = ap (flat_map leaves_part) is ∙ flat_map-append leaves_part xs (p.Leaf e ∷ [])

    there : AreLeaves (ls ++ e ∷ [])
    there = subst AreLeaves one h.leaves

    last_at : (q : Place) (ms : List Leaf) → Stand (May IsToken) q (ms ++ e ∷ []) → (r : Place) × May IsToken r e []
    last_at q [] g = (q, g.0)
    last_at q (l ∷ ms) g = last_at (next q l) ms g.1

    no_token : e.token ≡ []
    no_token = let w = last_at Fresh ls there in end_nothing w.0 e [] w.1 (end_class xs e fits)

    nothing_there : spell_leaves (e ∷ []) ≡ []
    nothing_there = ap (λ (t : List ℕ). t ++ (e.token ++ [])) none ∙ ap (λ (t : List ℕ). t ++ []) no_token

    alone : spell_node n ≡ flat_map spell_part xs
    alone =
        ap (flat_map spell_part) is ∙
        (flat_map-append spell_part xs (p.Leaf e ∷ []) ∙
        (ap (λ (t : List ℕ). flat_map spell_part xs ++ ((t ++ e.token) ++ [])) none ∙
        (ap (λ (t : List ℕ). flat_map spell_part xs ++ (t ++ [])) no_token ∙ append-nil (flat_map spell_part xs))))

    spelled_both : spell_node both ≡ spell_node n ++ spell_node m
    spelled_both = flat_map-append spell_part xs m.parts ∙ ap (λ (t : List ℕ). t ++ spell_node m) (sym alone)

    two : leaves_of both ≡ ls ++ leaves_of m
    two = flat_map-append leaves_part xs m.parts

    -- by leaves
    legal_both : IsLegalByLeaves m → IsLegalByLeaves both
    legal_both k = record {
      file = record { root = refl; shapes = (fits_joined xs (p.Leaf e) m.parts fits (file_fits m k.file), all_joined LegalPart xs (p.Leaf e) m.parts (subst (AllByRecursion LegalPart) is h.file.shapes.1) k.file.shapes.1) };
      indents = all_joined (Indented []) xs (p.Leaf e) m.parts (subst (AreIndented []) is h.indents) k.indents;
      leaves = subst AreLeaves (sym two) (leaves_joined ls e (leaves_of m) there nothing_there whole k.leaves);
      coded = subst AreCoded (sym two) (all_joined IsCodedLeaf ls e (leaves_of m) (subst AreCoded one h.coded) k.coded);
      depth = depth_joined depth_limit xs (p.Leaf e) m.parts (subst (λ ps. suc (deepest ps) ≤ depth_limit) is h.depth) k.depth;
    }

  legal_bzl_both : Legal n → Legal m → Legal both
  legal_bzl_both h k = (legal_by_nodes both).1 (legal_both ((legal_by_nodes n).0 h) ((legal_by_nodes m).0 k))

  spell_both : Legal n → spell_node both ≡ spell_node n ++ spell_node m
  spell_both h = spelled_both ((legal_by_nodes n).0 h)

  build_both : IsBuild n → IsBuild m → IsBuild both
  build_both h k = all_joined IsBuildPart xs (p.Leaf e) m.parts (subst (AllByRecursion IsBuildPart) is h) k

texts_both : (a b s t : List ℕ) → a ≡ s → b ≡ t → a ++ b ≡ s ++ t
texts_both a b s t e f = rw (e, f) refl

pub bzl_lines_join : BzlLinesJoin
bzl_lines_join s t n m xs e is whole none h k le =
    (legal_bzl_both n m xs e is whole none h.0 k.0, spell_both n m xs e is whole none h.0 ∙ texts_both _ _ s t h.1 k.1, le)

pub lines_join : LinesJoin
lines_join s t n m xs e is whole none h k le = (
  record { legal = legal_bzl_both n m xs e is whole none h.0.legal k.0.legal; build = build_both n m xs e is whole none h.0.build k.0.build },
  spell_both n m xs e is whole none h.0.legal ∙ texts_both _ _ s t h.1 k.1,
  le,
)
