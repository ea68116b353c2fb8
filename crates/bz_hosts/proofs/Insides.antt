-- The hosts and sequences in an expression, stated for lists.
use Rattle.bz_hosts.proofs.Words.{[], ◌&&◌, ◌++◌, ◌||◌, ◌∙◌, ◌∷◌, ◌≡◌, ap, begins_seen_operator, Bool, by_frame, comments_of, end_of-Expr, Expr, first_seen_gap, flat_map, flat_map-map, Form, frame, has_newline, HostComments, Hosted, hosted_by, if◌then◌else◌, inside_expr, inside_row, is_operator, items-the_row-Expr, items_hidden-the_row-Expr-0, List, map, more_of-Expr, no_comments, Node', not, Part, Part as p, parts_in, plain, refl, row_exprs, Row_of-Expr, seen}
use Rattle.bz_value.specs.declared.value.Expr.TheVariants as e
use Rattle.bz_value.proofs.FormParts.{items_in}

-- what an expression is as a host, and what is in it
abbrev pub within : Expr → Hosted × List Hosted
within x = (hosted_by (comments_of x), inside_expr x)

-- the items of a sequence, each with what is in it
abbrev pub inside_list : List Expr → List Hosted
inside_list xs = flat_map (λ x. hosted_by (comments_of x) ∷ inside_expr x) xs

inside_rows : (m : _) (r : Row_of-Expr m) → inside_row r ≡ map within (items-the_row-Expr m r)
inside_rows m end_of-Expr = refl
inside_rows m (more_of-Expr x rest) = ap (λ (t : List (Hosted × List Hosted)). within x ∷ t) (inside_rows _ rest)

pub form_inside : (f : Form) → inside_expr (e.Form f) ≡ by_frame (frame f.kind) (map within f.parts) (map within f.seq.items) f.seq.end
form_inside f =
    let ps = parts_in (e.Form f) in
    let qs = items_in (e.Form f) in
    ap (λ (z : List (Hosted × List Hosted)). by_frame (frame f.kind) z (inside_row qs.1) f.seq.end) (inside_rows ps.0 ps.1 ∙ ap (map within) (items_hidden-the_row-Expr-0 f.parts))
    ∙ ap (λ (z : List (Hosted × List Hosted)). by_frame (frame f.kind) (map within f.parts) z f.seq.end) (inside_rows qs.0 qs.1 ∙ ap (map within) (items_hidden-the_row-Expr-0 f.seq.items))

-- what is in parts, and in items
pub parts_inside : (xs : List Expr) → flat_map (λ x. x.1) (map within xs) ≡ flat_map inside_expr xs
parts_inside xs = flat_map-map (λ x. x.1) within xs

pub items_inside : (xs : List Expr) → flat_map (λ x. x.0 ∷ x.1) (map within xs) ≡ inside_list xs
items_inside xs = flat_map-map (λ x. x.0 ∷ x.1) within xs

-- ---- what is made of a part has the same in it for any comments and break

pub inside_made : (x : Part) (cs : HostComments) (b : Bool) → inside_expr ((seen x).make cs b) ≡ inside_expr (plain (seen x))
inside_made (p.Leaf l) cs b = refl
inside_made (Node' kind n r) cs b = refl

abbrev pub insides : List Part → List Hosted
insides [] = []
insides (x ∷ xs) = inside_expr (plain (seen x)) ++ insides xs

pub row_insides : (binary inside newline : Bool) (xs : List Part) → flat_map inside_expr (row_exprs binary inside newline (map seen xs)) ≡ insides xs
row_insides binary inside newline [] = refl
row_insides binary inside newline (x ∷ xs) =
    let operator : Bool = binary && is_operator (plain (seen x)) in
    let before : Bool = if inside then newline else has_newline (seen x).gap in
    let b : Bool = (operator && not (begins_seen_operator (map seen xs))) && (before || has_newline (first_seen_gap (map seen xs))) in
    ap (λ (z : List Hosted). z ++ flat_map inside_expr (row_exprs binary operator before (map seen xs))) (inside_made x no_comments b)
    ∙ ap (λ (z : List Hosted). inside_expr (plain (seen x)) ++ z) (row_insides binary operator before xs)

pub head_insides : (xs : List Part) → flat_map inside_expr (map plain (map seen xs)) ≡ insides xs
head_insides [] = refl
head_insides (x ∷ xs) = ap (λ (z : List Hosted). inside_expr (plain (seen x)) ++ z) (head_insides xs)
