-- What BUILD files say has none of the newer kinds.
use Rattle.bz_hosts.proofs.Words.{[], ◌++◌, ◌<◌, ◌∷◌, ◌≡◌, All-from_recursion, all_but_last, all_in, all_joined, AllByRecursion, arith, blocks, Bool, branches, BuildViews, Bytes, drop, end_of-Expr, end_of-Part, Expr, exprs_in, false, first_seen_gap, Form, form_of_frame, Frame, frame, GapLine, groups_of, held_in, HostComments, if◌then◌else◌, indented_lines_before, is_binary, is_header, is_kind, IsBuildPart, IsBuildRow, Item as i, items-the_row-Expr, items_from, items_hidden-the_row-Expr-0, items_in, Kind, Kind as k, last_group, lead, line_read, List, map, more_of-Expr, more_of-Part, no_comments, Node', others_in, Part, Part as p, parts_in, plain, ReadStatements, refl, row_exprs, Row_of-Expr, Row_of-Part, Seen, seen, seen_row, sequence, Stated, stated, stated_row, statement_read, statements_in, subst, suc, sym, take, true}
use Rattle.bz_hosts.proofs.{SeenParts.all_cut, Stated.row_parts}
use Rattle.bz_grammar.specs.Kinds.{kind_number}
use Rattle.bz_value.specs.BuildValues.{AreBuildExprs, IsBuildExpr, IsBuildItem}
use Rattle.bz_value.proofs.FormParts.{items_in as value_items}
use Rattle.bz_value.specs.declared.value.Expr.TheVariants as e

-- ---- forms, by lists

abbrev AreBuildList : List Expr → Type 0
AreBuildList xs = AllByRecursion IsBuildExpr xs

rows_build : (m : _) (r : Row_of-Expr m) → AreBuildList (items-the_row-Expr m r) → AreBuildExprs r
rows_build m end_of-Expr h = tt
rows_build m (more_of-Expr x rest) h = (h.0, rows_build _ rest h.1)

form_build : (f : Form) → kind_number f.kind < kind_number k.Def → AreBuildList f.parts → AreBuildList f.seq.items → IsBuildExpr (e.Form f)
form_build f lt a b =
    let ps = parts_in (e.Form f) in
    let qs = value_items (e.Form f) in
    (lt, rows_build ps.0 ps.1 (subst AreBuildList (sym (items_hidden-the_row-Expr-0 f.parts)) a), rows_build qs.0 qs.1 (subst AreBuildList (sym (items_hidden-the_row-Expr-0 f.seq.items)) b))

-- ---- parts that are seen

abbrev IsBuildSeen : Seen → Type 0
IsBuildSeen s = (comments : HostComments) (break : Bool) → IsBuildExpr (s.make comments break)

abbrev AreBuildSeen : List Seen → Type 0
AreBuildSeen ss = AllByRecursion IsBuildSeen ss

plain_build : (ss : List Seen) → AreBuildSeen ss → AreBuildList (map plain ss)
plain_build [] h = tt
plain_build (s ∷ ss) h = (h.0 no_comments false, plain_build ss h.1)

row_build : (binary : Bool) (ss : List Seen) → AreBuildSeen ss → (inside newline : Bool) → AreBuildList (row_exprs binary inside newline ss)
row_build binary [] h inside newline = tt
row_build binary (s ∷ ss) h inside newline = (h.0 no_comments _, row_build binary ss h.1 _ _)

items_build : (above : List Bytes) (ss : List Seen) → AreBuildSeen ss → AreBuildList (items_in above ss).0
items_build above [] h = tt
items_build above (s ∷ []) h = tt
items_build above (s ∷ mark ∷ []) h = (h.0 _ false, tt)
items_build above (s ∷ mark ∷ t ∷ ss) h = (h.0 _ false, items_build (all_in mark.gap ++ others_in t.gap) (t ∷ ss) h.1.1)

held_build : (f : Frame) (kind : Kind) (ss : List Seen) → AreBuildSeen ss → AreBuildList (held_in f kind ss).0 × AreBuildList (held_in f kind ss).1.items
held_build (sequence opener closer) kind ss h =
    let body : List Seen = drop (suc (lead kind)) ss in
    (plain_build (take (lead kind) ss) (all_cut IsBuildSeen (lead kind) ss h).0, items_build (all_in (first_seen_gap body)) body (all_cut IsBuildSeen (suc (lead kind)) ss h).1)
held_build _ kind ss h = (row_build (is_binary kind) ss h false false, tt)

mutual
  seen_build : (x : Part) → IsBuildPart x → IsBuildSeen (seen x)
  seen_build (p.Leaf l) h comments break = tt
  seen_build (Node' kind size row) h comments break =
      let w = held_build (frame kind) kind (seen_row row) (row_seen _ row h.1) in
      form_build (form_of_frame (frame kind) kind (seen_row row) comments) h.0 w.0 w.1

  row_seen : (m : _) (r : Row_of-Part m) → IsBuildRow r → AreBuildSeen (seen_row r)
  row_seen m end_of-Part h = tt
  row_seen m (more_of-Part x rest) h = (seen_build x h.0, row_seen _ rest h.1)

-- ---- statements

statements_build : (above : List Bytes) (ss : List Seen) → AreBuildSeen ss → AreBuildList (exprs_in (statements_in above ss))
statements_build above [] h = tt
statements_build above (s ∷ []) h = tt
statements_build above (s ∷ mark ∷ []) h = (h.0 _ false, tt)
statements_build above (s ∷ mark ∷ t ∷ []) h = (h.0 _ false, tt)
statements_build above (s ∷ mark ∷ t ∷ u ∷ ss) h = (h.0 _ false, statements_build [] (t ∷ u ∷ ss) h.1.1)

-- of these kinds none is that of a header
no_header : (kind : Kind) → kind_number kind < kind_number k.Def → is_header kind ≡ false
no_header k.Def lt = absurd (omega (arith, lt))
no_header k.IfStmt lt = absurd (omega (arith, lt))
no_header k.ForStmt lt = absurd (omega (arith, lt))
no_header _ lt = refl

if_either : {X : Type 0} (P : X → Type 0) (b : Bool) (x y : X) → P x → P y → P (if b then x else y)
if_either P true x y a c = a
if_either P false x y a c = c

statement_build : (kind : Kind) (m : _) (row : Row_of-Part m) → (kind_number kind < kind_number k.Def) × IsBuildRow row → (above : List Bytes) (after : List GapLine) → AreBuildList (statement_read kind (stated_row row) above after).0
statement_build kind m row h above after =
    let xs : List Stated = stated_row row in
    let ss : List Seen = map (λ x. x.part) xs in
    let line : AreBuildList (line_read ss above after).0 = statements_build above ss (subst AreBuildSeen (row_parts _ row) (row_seen _ row h.1)) in
    if_either (λ (z : ReadStatements (List Expr)). AreBuildList z.0) (is_kind kind k.Line) _ _ line
    (subst (λ b. AreBuildList (if b then branches true kind [] above after xs after else ([], after)).0) (sym (no_header kind h.0)) tt)

-- ---- the file

blocks_build : (groups : List (List Bytes)) → AllByRecursion IsBuildItem (blocks groups)
blocks_build [] = tt
blocks_build ([] ∷ groups) = blocks_build groups
blocks_build ((text ∷ group) ∷ groups) = (tt, blocks_build groups)

as_items : (xs : List Expr) → AreBuildList xs → AllByRecursion IsBuildItem (map i.Stmt xs)
as_items [] h = tt
as_items (x ∷ xs) h = (h.0, as_items xs h.1)

from_build : (lines : List GapLine) (xs : List Part) → AllByRecursion IsBuildPart xs → AllByRecursion IsBuildItem (items_from lines xs)
from_build lines [] h = tt
from_build lines (p.Leaf l ∷ xs) h = all_joined IsBuildItem (blocks (groups_of lines)) (items_from [] xs) (blocks_build (groups_of lines)) (from_build [] xs h.1)
from_build lines (Node' kind size row ∷ xs) h =
    let above : List Bytes = last_group (groups_of lines) in
    let read = (stated (Node' kind size row)).statement above (indented_lines_before (map stated xs) []) in
    all_joined IsBuildItem (blocks (all_but_last (groups_of lines))) (map i.Stmt read.0 ++ items_from read.1 xs) (blocks_build (all_but_last (groups_of lines)))
    (all_joined IsBuildItem (map i.Stmt read.0) (items_from read.1 xs) (as_items read.0 (statement_build kind _ row h.0 above (indented_lines_before (map stated xs) []))) (from_build read.1 xs h.1))

pub build_views : BuildViews
build_views n h = All-from_recursion IsBuildItem _ (from_build _ n.parts h)
