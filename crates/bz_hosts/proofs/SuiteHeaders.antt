-- Where a header and its suite are among the parts of a statement.
use Rattle.bz_hosts.proofs.Words.{[], ◌++◌, ◌+◌, ◌∙◌, ◌∷◌, ◌≡◌, AllByRecursion, ap, append-nil, append_assoc, arith, cond-false, false, flat_map, frame, has_token, header, in_compound, in_node, Kind, leaves_part, length, length-append, List, map, map-append, Measured, measured, Node', Part, Part as p, refl, sizes, stated, suc, suite_there, sym, true, ℕ}
use Rattle.bz_hosts.proofs.{Parts.size, Parts.size_leaves, Parts.measured_part, KeptGaps.colon_is, Colons.InHeader}
use Rattle.bz_grammar.specs.Shapes as s

-- ---- the parts of a header, up to its colon

pub measured_leaves : (xs : List Part) → sizes (map measured xs) ≡ length (flat_map leaves_part xs)
measured_leaves [] = refl
measured_leaves (x ∷ xs) = let e = size_leaves x in let e' = measured_leaves xs in let len = length-append (leaves_part x) (flat_map leaves_part xs) in omega arith

stated_colon : (x : Part) → (stated x).is_colon ≡ has_token s.colon_mark (measured x).part
stated_colon (p.Leaf l) = refl
stated_colon (Node' kind n r) = refl

-- a part that is no colon is one of the header
next_part : (kind : Kind) (n : ℕ) (ms : List Measured) (x own : Part) (ys : List Measured) → (stated x).is_colon ≡ false → in_compound kind n ms (measured x ∷ measured own ∷ ys) ≡ in_compound kind n (ms ++ measured x ∷ []) (measured own ∷ ys)
next_part kind n ms x own ys h = cond-false _ _ _ (sym (stated_colon x) ∙ h)

over_parts : (kind : Kind) (n : ℕ) (ms : List Measured) (hs : List Part) (mark : Part) (ys : List Measured) → AllByRecursion InHeader hs → in_compound kind n ms (map measured hs ++ measured mark ∷ ys) ≡ in_compound kind n (ms ++ map measured hs) (measured mark ∷ ys)
over_parts kind n ms [] mark ys h = ap (λ (z : List Measured). in_compound kind n z (measured mark ∷ ys)) (sym (append-nil ms))
over_parts kind n ms (x ∷ []) mark ys h = next_part kind n ms x mark ys h.0.0
over_parts kind n ms (x ∷ y ∷ hs) mark ys h =
    next_part kind n ms x y (map measured hs ++ measured mark ∷ ys) h.0.0
    ∙ (over_parts kind n (ms ++ measured x ∷ []) (y ∷ hs) mark ys h.1 ∙ ap (λ (z : List Measured). in_compound kind n z (measured mark ∷ ys)) (append_assoc ms (measured x ∷ []) (map measured (y ∷ hs))))

pub header_placed : (kind : Kind) (n f : ℕ) (hs : List Part) (mark own : Part) (back : List Part) → f ≡ suc (n + sizes (map measured hs)) → AllByRecursion InHeader hs → has_token s.colon_mark mark ≡ true
    → in_compound kind n [] (map measured (hs ++ mark ∷ own ∷ back)) ≡ header n f (in_node (frame kind) kind n (map measured hs)) (suite_there f (f + size own) own) ∷ ((measured own).stretches f ++ in_compound kind (f + size own) [] (map measured back))
header_placed kind n f hs mark own back e h i =
    ap (in_compound kind n []) (map-append measured hs (mark ∷ own ∷ back)) ∙ (over_parts kind n [] hs mark (map measured (own ∷ back)) h ∙ rw (sym (stated_colon mark) ∙ colon_is mark i, e, measured_part own) refl)
