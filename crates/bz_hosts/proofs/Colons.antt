-- Which parts are no colon, and the parts of a header, up to its colon.
use Rattle.bz_hosts.proofs.Words.{[], ◌&&◌, ◌++◌, ◌+◌, ◌-◌, ◌<◌, ◌||◌, ◌∙◌, ◌∷◌, ◌≡◌, ◌≤◌, AllByRecursion, ap, append-nil, append_assoc, arith, Bool, branches, Bytes, bytes_eq, Class, Class as c, codes, cond-false, cond-true, drop, drop_more, false, GapLine, get_or, get_or-drop, has_token, is_one_of, IsNonterminal, Kind, Leaf, leaves_at, length, length-drop, List, list_all, map, map-append, Node', Nonterminal, not, not-true, Part, Part as p, refl, Seen, seen, Stated, stated, subst, suc, sym, take, take-suc, Terminal, true, with_suite, ℕ}
use Rattle.bz_hosts.proofs.{InnerParts.of_terminals, InnerParts.is_inner, Stated.stated_part}
use Rattle.bz_grammar.specs.Shapes as s

-- ---- no colon

abbrev pub NoColon : Part → Type 0
NoColon x = (stated x).is_colon ≡ false

-- whether a leaf of this class with this token is a colon
abbrev colon_of : Class → Bytes → Bool
colon_of class token = (s.is_class class c.Mark && bytes_eq token (codes ":")) || false

abbrev no_colon : Terminal → Bool
no_colon (s.any class) = not (s.is_class class c.Mark)
no_colon (s.this class token) = not (colon_of class token)

abbrev pub no_colons : List Terminal → Bool
no_colons ts = list_all no_colon ts

class_plain : (class : Class) (token : List ℕ) → not (s.is_class class c.Mark) ≡ true → colon_of class token ≡ false
class_plain class token h = ap (λ b. (b && bytes_eq token (codes ":")) || false) (not-true (s.is_class class c.Mark) h)

leaf_plain : (xs : List Terminal) (l : Leaf) → no_colons xs ≡ true → is_one_of xs l ≡ true → colon_of l.class l.token ≡ false
leaf_plain xs l h i = of_terminals (λ class token. colon_of class token ≡ false) no_colon class_plain (λ class token e. not-true (colon_of class token) e) xs l h i

pub token_plain : (ts : List Terminal) (x : Part) → no_colons ts ≡ true → has_token ts x ≡ true → NoColon x
token_plain ts (p.Leaf l) h i = leaf_plain ts l h i
token_plain ts (Node' kind n r) h i = refl

leaves_plain : (a : Nonterminal) → no_colons (leaves_at a) ≡ true
leaves_plain (s.level n) = refl
leaves_plain _ = refl

pub nonterminal_plain : (a : Nonterminal) (x : Part) → IsNonterminal a x → NoColon x
nonterminal_plain a (p.Leaf l) i = leaf_plain (leaves_at a) l (leaves_plain a) i
nonterminal_plain a (Node' kind n r) i = refl

-- ---- the parts of a header

-- no colon, and neither the end of a line nor a line
abbrev pub InHeader : Part → Type 0
InHeader x = NoColon x × (is_inner x ≡ true)

-- the part with an index, and those after it
pub part_here : (ps : List Part) (at : ℕ) (y : Part) → at < length ps → y ≡ get_or ps at y → drop at ps ≡ y ∷ drop (at + 1) ps
part_here ps at y l e = drop_more ps at y l ∙ ap (λ z. z ∷ drop (at + 1) ps) (sym e)

taken_more : (ps : List Part) (n : ℕ) (y : Part) → n < length ps → y ≡ get_or ps n y → map seen (take n ps) ++ seen y ∷ [] ≡ map seen (take (suc n) ps)
taken_more ps n y l e = ap (λ z. map seen (take n ps) ++ seen z ∷ []) e ∙ sym (ap (map seen) (take-suc ps n y l) ∙ map-append seen (take n ps) (get_or ps n y ∷ []))

got_after : (ps : List Part) (from n at : ℕ) (d : Part) → from + n ≡ at → get_or ps at d ≡ get_or (drop from ps) n d
got_after ps from n at d e = ap (λ k. get_or ps k d) (sym e) ∙ sym (get_or-drop from ps n d)

-- a part that is no colon belongs to the header
one_more : (first : Bool) (kind : Kind) (parts : List Seen) (above : List Bytes) (left after : List GapLine) (y : Part) (xs : List Stated) → (stated y).is_colon ≡ false
    → branches first kind parts above left (stated y ∷ xs) after ≡ branches first kind (parts ++ seen y ∷ []) above left xs after
one_more first kind parts above left after y xs e =
    cond-false (stated y).is_colon _ _ e
    ∙ ap (λ s. branches first kind (parts ++ s ∷ []) above left xs after) (stated_part y)

skipped : (first : Bool) (kind : Kind) (ps : List Seen) (above : List Bytes) (left after : List GapLine) (hs : List Part) (ys : List Stated) → AllByRecursion InHeader hs → branches first kind ps above left (map stated hs ++ ys) after ≡ branches first kind (ps ++ map seen hs) above left ys after
skipped first kind ps above left after [] ys h = ap (λ t. branches first kind t above left ys after) (sym (append-nil ps))
skipped first kind ps above left after (x ∷ hs) ys h =
    one_more first kind ps above left after x (map stated hs ++ ys) h.0.0
    ∙ (skipped first kind (ps ++ seen x ∷ []) above left after hs ys h.1 ∙ ap (λ t. branches first kind t above left ys after) (append_assoc ps (seen x ∷ []) (map seen hs)))

-- the parts of a header, and its colon
pub header_ends : (first : Bool) (kind : Kind) (above : List Bytes) (left : List GapLine) (hs : List Part) (mark own : Part) (back : List Part) (after : List GapLine) → AllByRecursion InHeader hs → (stated mark).is_colon ≡ true
    → branches first kind [] above left (map stated (hs ++ mark ∷ own ∷ back)) after ≡ with_suite first kind (map seen hs) above left (stated own ∷ map stated back) after
header_ends first kind above left hs mark own back after h i =
    ap (λ t. branches first kind [] above left t after) (map-append stated hs (mark ∷ own ∷ back))
    ∙ (skipped first kind [] above left after hs (stated mark ∷ stated own ∷ map stated back) h ∙ cond-true (stated mark).is_colon _ _ i)

pub no_colon_at : (ps : List Part) (from at : ℕ) (y : Part) (is first : Bool) (kind : Kind) (above : List Bytes) (left after : List GapLine) → from ≤ at → at < length ps
    → y ≡ get_or ps at y → is ≡ (stated y).is_colon → is ≡ false
    → branches first kind [] above left (map stated (drop from ps)) after ≡ branches first kind (map seen (take (at - from) (drop from ps))) above left (map stated (drop at ps)) after
    → branches first kind [] above left (map stated (drop from ps)) after ≡ branches first kind (map seen (take (at + 1 - from) (drop from ps))) above left (map stated (drop (at + 1) ps)) after
no_colon_at ps from at y is first kind above left after le lt here colon fails h =
    let n : ℕ = at - from in
    let sum : from + n ≡ at = omega (arith, le) in
    let short : n < length (drop from ps) = subst (λ k. n < k) (sym (length-drop from ps)) (let o : n < length ps - from = omega (arith, le, lt) in o) in
    let got : y ≡ get_or (drop from ps) n y = here ∙ got_after ps from n at y sum in
    let up : suc n ≡ at + 1 - from = omega (arith, le) in
    h ∙ (ap (λ t. branches first kind (map seen (take n (drop from ps))) above left (map stated t) after) (part_here ps at y lt here)
    ∙ (one_more first kind (map seen (take n (drop from ps))) above left after y (map stated (drop (at + 1) ps)) (sym colon ∙ fails)
    ∙ (ap (λ t. branches first kind t above left (map stated (drop (at + 1) ps)) after) (taken_more (drop from ps) n y short got)
    ∙ ap (λ k. branches first kind (map seen (take k (drop from ps))) above left (map stated (drop (at + 1) ps)) after) up)))
