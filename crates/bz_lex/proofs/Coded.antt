-- Leaves and texts of characters: one leaf of such a text after another is cut off.
use Rattle.bz_lex.proofs.Words.{[], ◌++◌, ◌∷◌, append-nil, AreCoded, AreLeaves, arith, Bool, boundary, Class, CodedLeaves, drop_at, end, end_at_once, false, first, Fresh, get_or-append_seam, inner, IsCharBoundary, IsCharBoundary-after_ascii, IsCharBoundary-before_ascii, IsCodedLeaf, IsGap, IsToken, IsUtf8, IsUtf8-append, IsUtf8-drop, IsUtf8-nil, IsUtf8-take, later, Leaf, length, length-append, List, May, newline, next, no_newline, Place, refl, spell_leaves, Stand, subst, take_at, true, ℕ}
use Rattle.bz_lex.proofs.Characters.{cut, gap_sealed}

-- both parts of a text that is cut where a character ends
parts : (a b : List ℕ) → IsUtf8 (a ++ b) → IsCharBoundary (a ++ b) (length a) → IsUtf8 a × IsUtf8 b
parts a b u c = (subst IsUtf8 (take_at a b (length a) refl) (IsUtf8-take (a ++ b) (length a) u c), subst IsUtf8 (drop_at a b (length a) refl) (IsUtf8-drop (a ++ b) (length a) u c))

-- texts of characters: a leaf's gap and token, and the text after it
abbrev Parted : Leaf → List ℕ → Type 0
Parted l s = IsCodedLeaf l × IsUtf8 s

-- after a gap that ends between two pieces, a token
by_token : (n : Bool) (k : Class) (g t s : List ℕ) → IsGap n false g → IsToken k t s → IsUtf8 (g ++ (t ++ s)) → (IsUtf8 g × IsUtf8 t) × IsUtf8 s
by_token n k g t s h i u =
    let x = parts g (t ++ s) u (cut (g ++ (t ++ s)) g (t ++ s) u refl (gap_sealed n g h)) in
    let y = parts t s x.1 (boundary k t s i x.1) in
    ((x.0, y.0), y.1)

-- A gap with an unclosed comment may end within a line; before a newline a character ends all the same.
by_newline : (g s : List ℕ) → IsUtf8 (g ++ (10 ∷ s)) → (IsUtf8 g × IsUtf8 (10 ∷ [])) × IsUtf8 s
by_newline g s u =
    let x = parts g (10 ∷ s) u (IsCharBoundary-before_ascii (g ++ (10 ∷ s)) (length g) (omega (arith, length-append g (10 ∷ s))) (omega (arith, get_or-append_seam g 10 s 0))) in
    let y = parts (10 ∷ []) s x.1 (IsCharBoundary-after_ascii (10 ∷ s) 0 x.1 (omega arith) (omega arith)) in
    ((x.0, y.0), y.1)

-- one leaf of such a text
parted : (p : Place) (l : Leaf) (s : List ℕ) → May IsToken p l s → IsUtf8 (l.gap ++ (l.token ++ s)) → Parted l s
parted p l s (first g t) u = by_token true l.class l.gap l.token s g t u
parted p l s (later g t) u = by_token false l.class l.gap l.token s g t u
parted p l s (inner g t) u = by_token true l.class l.gap l.token s g t u
parted p l s (newline {gap = g} b h) u = by_newline g s u
parted p l s (no_newline {gap = g} b h) u = ((rw append-nil at u, IsUtf8-nil), IsUtf8-nil)
parted p l s (end {gap = g} b h) u = ((rw append-nil at u, IsUtf8-nil), IsUtf8-nil)
parted p l s end_at_once u = ((IsUtf8-nil, IsUtf8-nil), IsUtf8-nil)

-- the same from any place on
coded_from : (p : Place) (ls : List Leaf) → Stand (May IsToken) p ls → IsUtf8 (spell_leaves ls) → AreCoded ls
coded_from p [] h u = tt
coded_from p (l ∷ ls) h u = let x = parted p l (spell_leaves ls) h.0 u in (x.0, coded_from (next p l) ls h.1 x.1)

-- the leaves of a text of characters are such texts
pub leaves_coded : (leaves : List Leaf) → AreLeaves leaves → IsUtf8 (spell_leaves leaves) → AreCoded leaves
leaves_coded leaves h u = coded_from Fresh leaves h u

-- leaves that are such texts spell one
pub coded_spelled : (leaves : List Leaf) → AreCoded leaves → IsUtf8 (spell_leaves leaves)
coded_spelled [] h = IsUtf8-nil
coded_spelled (l ∷ ls) h = IsUtf8-append l.gap (l.token ++ spell_leaves ls) h.0.0 (IsUtf8-append l.token (spell_leaves ls) h.0.1 (coded_spelled ls h.1))

pub coded_leaves : CodedLeaves
coded_leaves = (leaves_coded, coded_spelled)
