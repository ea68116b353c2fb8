-- What the parts of lines are seen as: expressions and statements without gaps, each comment at its host.
use Rattle.std.specs.Prelude.{suc, Bool, false, not, ◌&&◌, ◌||◌, List, [], ◌∷◌, ◌++◌, Option, None, map, take, drop, if◌then◌else◌}
use Rattle.bz_hosts.specs.Words.{Leaf, Kind, Part, Row_of-Part, end_of-Part, more_of-Part, Node', Expr, Form, Seq, Item, HostComments, no_comments, Frame, sequence, frame, lead, is_binary, is_comprehension, Bytes, suffix_in, others_in, all_in, has_newline, is_operator}
use Rattle.bz_grammar.specs.declared.tree.Part.TheVariants as p
use Rattle.bz_value.specs.declared.value.Expr.TheVariants as e
use Rattle.bz_value.specs.declared.value.Item.TheVariants as i

-- A part that was read: the expression that it is for given comments and break, which only what is around it knows;
-- the gap before its first token; and the comments inside it that are in no host or sequence inside it.
pub record Seen : Type 0 where
  pub make : HostComments → Bool → Expr
  pub gap : Bytes
  pub loose : List Bytes

abbrev pub plain : Seen → Expr
plain s = s.make no_comments false

-- the gap before a row is the one before its first part
abbrev pub first_seen_gap : List Seen → Bytes
first_seen_gap [] = []
first_seen_gap (s ∷ ss) = s.gap

abbrev pub begins_seen_operator : List Seen → Bool
begins_seen_operator [] = false
begins_seen_operator (s ∷ ss) = is_operator (plain s)

-- ---- comments of what is no host: they go up to the innermost host or sequence around it

-- after the first part, the gaps between parts and what is loose in the parts
abbrev pub loose_after : List Seen → List Bytes
loose_after [] = []
loose_after (s ∷ ss) = all_in s.gap ++ s.loose ++ loose_after ss

-- the gap before the first part is outside
abbrev pub loose_in : List Seen → List Bytes
loose_in [] = []
loose_in (s ∷ ss) = s.loose ++ loose_after ss

-- ---- rows

-- The parts of a row. A binary operator breaks where an unescaped newline is before it or before the operand after
-- it; the flag is set at its last token (`not in` has two). inside: after a token of an operator; newline: whether one
-- is before that operator.
abbrev pub row_exprs : Bool → Bool → Bool → List Seen → List Expr
row_exprs binary inside newline [] = []
row_exprs binary inside newline (s ∷ ss) =
    let operator : Bool = binary && is_operator (plain s) in
    let before : Bool = if inside then newline else has_newline s.gap in
    s.make no_comments ((operator && not (begins_seen_operator ss)) && (before || has_newline (first_seen_gap ss))) ∷ row_exprs binary operator before ss

-- ---- sequences

-- The items of a sequence and its end comments, after the opening bracket: item, comma, item, .., closing bracket.
-- above: the comments so far that are above the next item.
abbrev mutual
  pub items_in : List Bytes → List Seen → List Expr × List Bytes
  items_in above [] = ([], above)
  items_in above (s ∷ ss) = item_in above s ss

  pub item_in : List Bytes → Seen → List Seen → List Expr × List Bytes
  item_in above s [] = ([], above)
  item_in above s (mark ∷ ss) = item_before above s mark ss

  -- An item before a mark: before its comma, whose suffix is in the gap after the comma; or before the closing
  -- bracket. A comment between an item and its comma belongs to what follows.
  pub item_before : List Bytes → Seen → Seen → List Seen → List Expr × List Bytes
  item_before above s mark [] = (s.make (record { before = above ++ s.loose; suffix = suffix_in mark.gap }) false ∷ [], others_in mark.gap)
  item_before above s mark (t ∷ ss) =
      let more : List Expr × List Bytes = item_in (all_in mark.gap ++ others_in t.gap) t ss in
      (s.make (record { before = above ++ s.loose; suffix = suffix_in t.gap }) false ∷ more.0, more.1)

-- A sequence is split where an unescaped newline is before an item, a comma of it or its closing bracket.
abbrev pub is_split : List Seen → Bool
is_split [] = false
is_split (s ∷ ss) = has_newline s.gap || is_split ss

-- ---- nodes

-- right after the bracket of a comprehension, its first part, is an unescaped newline
abbrev pub is_open : List Seen → Bool
is_open [] = false
is_open (s ∷ ss) = has_newline (first_seen_gap ss)

-- a sequence, from the end of its opening bracket on
abbrev pub seq_in : List Seen → Seq
seq_in body =
    let found : List Expr × List Bytes = items_in (all_in (first_seen_gap body)) body in
    record { items = found.0; end = found.1; split = is_split body }

abbrev pub sequence_form : Kind → List Seen → List Seen → HostComments → Expr
sequence_form kind head body comments = e.Form (record { kind = kind; parts = map plain head; seq = seq_in body; open_break = false; comments = comments })

-- A node without gaps: its parts, its sequence, and whether it is open. Of a sequence stay what is before the bracket and the items;
-- brackets and commas are gone. Every other node keeps the row of its parts.
abbrev pub held_in : Frame → Kind → List Seen → List Expr × Seq × Bool
held_in (sequence opener closer) kind ss = (map plain (take (lead kind) ss), seq_in (drop (suc (lead kind)) ss), false)
held_in _ kind ss = (row_exprs (is_binary kind) false false ss, seq_in [], is_comprehension kind && is_open ss)

abbrev pub form_of_frame : Frame → Kind → List Seen → HostComments → Form
form_of_frame f kind ss comments =
    let held : List Expr × Seq × Bool = held_in f kind ss in
    record { kind = kind; parts = held.0; seq = held.1; open_break = held.2; comments = comments }

-- the comments of a node that are in no host or sequence inside it
abbrev pub loose_of : Frame → Kind → List Seen → List Bytes
loose_of (sequence opener closer) kind ss = loose_in (take (suc (lead kind)) ss)
loose_of _ kind ss = loose_in ss

abbrev pub seen_node : Frame → Kind → List Seen → Seen
seen_node f kind ss = record { make = λ comments break. e.Form (form_of_frame f kind ss comments); gap = first_seen_gap ss; loose = loose_of f kind ss }

abbrev pub leaf_seen : Leaf → Seen
leaf_seen l = record { make = λ comments break. e.Token (record { class = l.class; text = l.token; line_break = break; comments = comments }); gap = l.gap; loose = [] }

abbrev mutual
  pub seen : Part → Seen
  seen (p.Leaf l) = leaf_seen l
  seen (Node' kind _ parts) = seen_node (frame kind) kind (seen_row parts)

  pub seen_row : {m : _} → Row_of-Part m → List Seen
  seen_row end_of-Part = []
  seen_row (more_of-Part x rest) = seen x ∷ seen_row rest

-- ---- lines

-- comment lines on their own; an empty group is none
abbrev pub blocks : List (List Bytes) → List Item
blocks [] = []
blocks ([] ∷ groups) = blocks groups
blocks ((text ∷ group) ∷ groups) = i.Block (text ∷ group) ∷ blocks groups

abbrev pub statement : List Bytes → Option Bytes → Seen → Item
statement above suffix s = i.Stmt (s.make (record { before = above ++ s.loose; suffix = suffix }) false)

-- The statements of a line: statement, semicolon, statement, .., perhaps a semicolon, Newline. The comment after the
-- last one, or after its semicolon, is its suffix. above: the comments right above the line.
abbrev mutual
  pub statements_in : List Bytes → List Seen → List Item
  statements_in above [] = []
  statements_in above (s ∷ ss) = statement_in above s ss

  pub statement_in : List Bytes → Seen → List Seen → List Item
  statement_in above s [] = []
  statement_in above s (mark ∷ ss) = statement_before above s mark ss

  pub statement_before : List Bytes → Seen → Seen → List Seen → List Item
  statement_before above s mark [] = statement above (suffix_in mark.gap) s ∷ []
  statement_before above s mark (t ∷ []) = statement above (suffix_in t.gap) s ∷ []
  statement_before above s mark (t ∷ u ∷ ss) = statement above None s ∷ statement_before [] t u ss

-- the gap of the last part: of a line, its Newline's
abbrev pub last_gap : List Seen → Bytes
last_gap [] = []
last_gap (s ∷ []) = s.gap
last_gap (s ∷ t ∷ ss) = last_gap (t ∷ ss)
