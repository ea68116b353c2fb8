-- What the tree of a file says: its statements without gaps, each comment at its host.
use Rattle.std.specs.Prelude.{List, [], ◌∷◌, ◌++◌, map}
use Rattle.bz_hosts.specs.Words.{Node, Part, Node', Expr, Item, GapLine, groups_of, all_but_last, last_group, Bytes}
use Rattle.bz_grammar.specs.declared.tree.Part.TheVariants as p
use Rattle.bz_value.specs.declared.value.Item.TheVariants as i
use Rattle.bz_hosts.specs.Seen.{blocks}
use Rattle.bz_hosts.specs.Suites.{ReadStatements, stated, indented_lines_before}

-- Comment lines that follow each other form a group. A group whose last line is followed by a line without token and
-- comment, or by no token at all, is a Block of its own; otherwise it is above the next statement.
-- lines: those before the first of these parts
abbrev pub items_from : List GapLine → List Part → List Item
items_from lines [] = []
items_from lines (p.Leaf l ∷ xs) = blocks (groups_of lines) ++ items_from [] xs
items_from lines (Node' kind size row ∷ xs) =
    let groups : List (List Bytes) = groups_of lines in
    let own : ReadStatements (List Expr) = (stated (Node' kind size row)).statement (last_group groups) (indented_lines_before (map stated xs) []) in
    blocks (all_but_last groups) ++ (map i.Stmt own.0 ++ items_from own.1 xs)

-- what the tree of a file says
abbrev pub view_of : Node → List Item
view_of n = items_from (indented_lines_before (map stated n.parts) []) n.parts
