-- Hosts of comments by their places in the whole text. The leaves of a tree are numbered from 0, in the order of the text.
-- A host is a statement, an item of a sequence, or a header up to its colon; a sequence is what is between the brackets of a
-- Call, List, Dict, Tuple or Load, or of the parameters of a function. All are given by the numbers of their leaves alone,
-- a suite by these and its margin.
use Rattle.std.specs.Prelude.{ℕ, zero, suc, ◌+◌, Bool, true, false, not, ◌&&◌, List, [], ◌∷◌, ◌++◌, Option, Some, None, length, map, take, drop, get_or, nat_eq, nat_lt, nat_le, if◌then◌else◌}
use Rattle.std.specs.List.{filter, flat_map, list_any}
use Rattle.std.specs.Option.{option_map_or}
use Rattle.bz_hosts.specs.Words.{Class, Leaf, Kind, Node, Part, Row_of-Part, end_of-Part, more_of-Part, Node', first_indent, leaves_row, leaves_of, Terminal, has_token, Expr, Token, Form', Row_of-Expr, end_of-Expr, more_of-Expr, Item, HostComments, is_empty, Frame, row, sequence, compound, frame, lead, Bytes, GapLine, lines_of, as_list, after_first_line, all_in, comments_in, first_comment, comments_of}
use Rattle.bz_token.specs.declared.class.Class.TheVariants as c
use Rattle.bz_grammar.specs.declared.kind.Kind.TheVariants as k
use Rattle.bz_grammar.specs.declared.tree.Part.TheVariants as p
use Rattle.bz_grammar.specs.Shapes as s
use Rattle.bz_value.specs.declared.value.Item.TheVariants as i
use Rattle.bz_hosts.specs.Suites.{end_comments, after_end}

-- ---- comments

-- a comment in the gap of a leaf; on_line: only blanks are before it in that gap
pub record Comment : Type 0 where
  pub leaf : ℕ
  pub on_line : Bool
  pub text : Bytes

abbrev pub comments_at : ℕ → Bytes → List Comment
comments_at n gap =
    map (λ text. record { leaf = n; on_line = true; text = text }) (as_list (first_comment (lines_of gap)))
    ++ map (λ text. record { leaf = n; on_line = false; text = text }) (comments_in (after_first_line (lines_of gap)))

-- the comments of leaves, the first of which has this number
abbrev pub comments_from : ℕ → List Leaf → List Comment
comments_from n [] = []
comments_from n (leaf ∷ leaves) = comments_at n leaf.gap ++ comments_from (suc n) leaves

-- ---- hosts, sequences and suites

-- A host: the numbers of its first leaf, of the leaf after its last one, and of the leaf after its end, which is its own
-- comma or semicolon where it has one. A sequence: the number of its opening bracket, and of the leaf after the closing one.
pub data Region : Type 0 where
  host : ℕ → ℕ → ℕ → Region
  between : ℕ → ℕ → Region

-- a suite: the numbers of the first leaf of its first statement and of the leaf after its last one, and how far the first one
-- is indented
pub record Suite : Type 0 where
  pub first : ℕ
  pub following : ℕ
  pub margin : ℕ

-- What is in a file, in the order of the text, each with the hosts and sequences in it: a line of simple statements, by its
-- first leaf; a header, by its first leaf and the one after its colon, and with its suite, if that is no line.
pub data Stretch : Type 0 where
  simple_line : ℕ → List Region → Stretch
  header : ℕ → ℕ → List Region → List Suite → Stretch

-- A part: how many leaves it has, and where its first leaf has a number what is in it as a part of a line, and as a statement.
pub record Measured : Type 0 where
  pub part : Part
  pub size : ℕ
  pub inside : ℕ → List Region
  pub stretches : ℕ → List Stretch

abbrev pub sizes : List Measured → ℕ
sizes [] = 0
sizes (x ∷ xs) = x.size + sizes xs

-- a node, a name, a number or a string: no comma, bracket, semicolon or newline
abbrev pub is_word_class : Class → Bool
is_word_class c.Name = true
is_word_class c.Number = true
is_word_class c.String = true
is_word_class _ = false

abbrev pub is_item_part : Part → Bool
is_item_part (p.Leaf l) = is_word_class l.class
is_item_part (Node' kind _ r) = true

abbrev pub begins_with_token : List Terminal → List Measured → Bool
begins_with_token terminals [] = false
begins_with_token terminals (x ∷ xs) = has_token terminals x.part

-- what is in the parts of a row
abbrev pub in_row : ℕ → List Measured → List Region
in_row n [] = []
in_row n (x ∷ xs) = x.inside n ++ in_row (n + x.size) xs

-- parts with separators: each item is a host, whose end is the separator after it where there is one
abbrev pub hosts_from : List Terminal → ℕ → List Measured → List Region
hosts_from separators n [] = []
hosts_from separators n (x ∷ xs) =
    let following : ℕ = n + x.size in
    (if is_item_part x.part then host n following (if begins_with_token separators xs then suc following else following) ∷ x.inside n else []) ++ hosts_from separators following xs

-- a node by its frame; of a sequence what is before its bracket, the sequence itself and its items
abbrev pub in_node : Frame → Kind → ℕ → List Measured → List Region
in_node (sequence opener closer) kind n xs =
    let opening : ℕ = n + sizes (take (lead kind) xs) in
    in_row n (take (lead kind) xs) ++ between opening (n + sizes xs) ∷ hosts_from s.comma_mark (suc opening) (drop (suc (lead kind)) xs)
in_node _ kind n xs = in_row n xs

-- the part after a colon as a suite, whose newline has this number
abbrev pub suite_there : ℕ → ℕ → Part → List Suite
suite_there n following (Node' k.Suite size parts) = record { first = suc n; following = following; margin = length (first_indent (drop 1 (leaves_row parts))) } ∷ []
suite_there n following _ = []

-- Headers, each with the part after its colon. A header is a node of the statement's kind that ends before the colon. n: its first
-- leaf; front: its parts so far.
abbrev pub in_compound : Kind → ℕ → List Measured → List Measured → List Stretch
in_compound kind n front [] = []
in_compound kind n front (x ∷ []) = []
in_compound kind n front (x ∷ own ∷ xs) =
    let following : ℕ = suc (n + sizes front) in
    if has_token s.colon_mark x.part
    then header n following (in_node (frame kind) kind n front) (suite_there following (following + own.size) own.part) ∷ (own.stretches following ++ in_compound kind (following + own.size) [] xs)
    else in_compound kind n (front ++ x ∷ []) (own ∷ xs)

-- statements
abbrev pub one_by_one : ℕ → List Measured → List Stretch
one_by_one n [] = []
one_by_one n (x ∷ xs) = x.stretches n ++ one_by_one (n + x.size) xs

abbrev pub in_statement : Kind → ℕ → List Measured → List Stretch
in_statement k.Line n xs = simple_line n (hosts_from s.semicolon n xs) ∷ []
in_statement k.Suite n xs = one_by_one n xs
in_statement k.Def n xs = in_compound k.Def n [] xs
in_statement k.IfStmt n xs = in_compound k.IfStmt n [] xs
in_statement k.ForStmt n xs = in_compound k.ForStmt n [] xs
in_statement _ n xs = []

abbrev mutual
  pub measured : Part → Measured
  measured (p.Leaf l) = record { part = p.Leaf l; size = 1; inside = λ n. []; stretches = λ n. [] }
  measured (Node' kind z r) =
      let xs : List Measured = measured_row r in
      record { part = Node' kind z r; size = sizes xs; inside = λ n. in_node (frame kind) kind n xs; stretches = λ n. in_statement kind n xs }

  pub measured_row : {m : _} → Row_of-Part m → List Measured
  measured_row end_of-Part = []
  measured_row (more_of-Part x rest) = measured x ∷ measured_row rest

abbrev pub regions_in : Stretch → List Region
regions_in (simple_line n rs) = rs
regions_in (header n following rs own) = host n following following ∷ rs

abbrev pub suites_in : Stretch → List Suite
suites_in (simple_line n rs) = []
suites_in (header n following rs own) = own

abbrev pub first_leaf : Stretch → ℕ
first_leaf (simple_line n rs) = n
first_leaf (header n following rs own) = n

-- the leaves of a text, its hosts and sequences, and its suites, inner ones after outer ones
pub record Page : Type 0 where
  pub leaves : List Leaf
  pub regions : List Region
  pub suites : List Suite

-- ---- places

-- A comment is the suffix of the host, is above the host, or at the end of the sequence, that begins with this leaf; or
-- it is in none of them.
pub data CommentPlace : Type 0 where
  suffix_of above end_of : ℕ → CommentPlace
  outside : CommentPlace

-- the host at whose end the comment is
abbrev pub ending_at : ℕ → List Region → Option ℕ
ending_at leaf [] = None
ending_at leaf (host first following next ∷ rs) = if nat_eq next leaf then Some first else ending_at leaf rs
ending_at leaf (between opening following ∷ rs) = ending_at leaf rs

-- the item that begins next in a sequence
abbrev pub beginning_in : ℕ → ℕ → List Region → Option ℕ
beginning_in leaf following [] = None
beginning_in leaf following (host first b next ∷ rs) = if nat_le leaf first && nat_lt first following then Some first else beginning_in leaf following rs
beginning_in leaf following (between opening b ∷ rs) = beginning_in leaf following rs

-- the gap of the leaf is in the region
abbrev pub holds_gap : ℕ → Region → Bool
holds_gap leaf (host first following next) = nat_lt first leaf && nat_lt leaf following
holds_gap leaf (between opening following) = nat_lt opening leaf && nat_lt leaf following

-- Regions are inside one another or apart, in the order in which they begin: the innermost around a gap is the last that
-- holds it.
abbrev pub innermost : ℕ → Option Region → List Region → Option Region
innermost leaf found [] = found
innermost leaf found (r ∷ rs) = innermost leaf (if holds_gap leaf r then Some r else found) rs

-- In a host: above it. In a sequence: above the item that begins next, or at its end where none does.
abbrev pub place_in : ℕ → List Region → Option Region → CommentPlace
place_in leaf rs None = outside
place_in leaf rs (Some (host first following next)) = above first
place_in leaf rs (Some (between opening following)) = option_map_or above (beginning_in leaf following rs) (end_of opening)

-- A comment that follows a host's end with only blanks between is its suffix. Any other belongs to the innermost host or
-- sequence that it is in.
abbrev pub comment_place : List Region → Comment → CommentPlace
comment_place rs c = option_map_or suffix_of (if c.on_line then ending_at c.leaf rs else None) (place_in c.leaf rs (innermost c.leaf None rs))

abbrev pub same_place : CommentPlace → CommentPlace → Bool
same_place (suffix_of n) (suffix_of m) = nat_eq n m
same_place (above n) (above m) = nat_eq n m
same_place (end_of n) (end_of m) = nat_eq n m
same_place outside outside = true
same_place _ _ = false

-- the texts of the comments that have this place, in the order of the text
abbrev pub texts_at : List Region → CommentPlace → List Comment → List Bytes
texts_at rs place [] = []
texts_at rs place (c ∷ cs) = if same_place (comment_place rs c) place then c.text ∷ texts_at rs place cs else texts_at rs place cs

-- ---- comment lines between statements, by the numbers of leaves and lines

abbrev pub leaf_gap : List Leaf → ℕ → Bytes
leaf_gap leaves n = get_or (map (λ l. l.gap) leaves) n []

-- The lines before the leaf of this number, which begins a line of statements or is the end: those of its gap, and before
-- them those in the gap of the leaf before it, a Newline, but for that gap's first, on which the statements before end. They
-- are numbered from 0, and the line of the leaf's token is the next.
abbrev pub lines_before : List Leaf → ℕ → List GapLine
lines_before leaves zero = lines_of (leaf_gap leaves zero)
lines_before leaves (suc n) = after_first_line (lines_of (leaf_gap leaves n)) ++ lines_of (leaf_gap leaves (suc n))

-- The comment lines that follow each other right above the line of this number: the line before it, if it has a comment, and
-- those right above that one.
abbrev pub right_above : List GapLine → ℕ → List Bytes
right_above lines zero = []
right_above lines (suc n) = option_map_or (λ text. right_above lines n ++ text ∷ []) (get_or (map (λ line. line.comment) lines) n None) []

-- the numbers of the lines without token and comment; the first line has this number
abbrev pub bare_lines : ℕ → List GapLine → List ℕ
bare_lines n [] = []
bare_lines n (line ∷ lines) = option_map_or (λ text. []) line.comment (n ∷ []) ++ bare_lines (suc n) lines

-- The lines before a leaf that are left by the suites that end there and begin after another one: the innermost takes those up
-- to the first comment line that is indented less than its margin; the next one takes of what is left; and so on.
abbrev pub left_by : ℕ → ℕ → List Suite → List GapLine → List GapLine
left_by after n [] lines = lines
left_by after n (own ∷ suites) lines =
    let left : List GapLine = left_by after n suites lines in
    if nat_lt after own.first && nat_eq own.following n then after_end own.margin left else left

-- the end comments of a suite: what it takes of what the suites in it leave
abbrev pub suite_end : Page → Suite → List Bytes
suite_end page own = end_comments own.margin (left_by own.first own.following page.suites (lines_before page.leaves own.following))

-- the lines before a leaf that are left by all suites that end there
abbrev pub left_above : Page → ℕ → List GapLine
left_above page n = left_by 0 n page.suites (lines_before page.leaves n)

-- The comment lines above a statement in a suite or a header: all that are left; above the first statement of a suite those of
-- its gap, since what is in the gap of the newline before it is the header's.
abbrev pub lines_of_leaf : Page → ℕ → List Bytes
lines_of_leaf page n = if list_any (λ own. nat_eq own.first n) page.suites then all_in (leaf_gap page.leaves n) else comments_in (left_above page n)

-- ---- the comments of each host, sequence and suite

-- comment lines on their own, or the end comments of a suite; the comments above a host and its suffix; the end comments of a
-- sequence
pub data Hosted : Type 0 where
  block : List Bytes → Hosted
  hosted : List Bytes → List Bytes → Hosted
  ended : List Bytes → Hosted

abbrev pub hosted_at : List Region → List Comment → Region → Hosted
hosted_at rs cs (host first following next) = hosted (texts_at rs (above first) cs) (texts_at rs (suffix_of first) cs)
hosted_at rs cs (between opening following) = ended (texts_at rs (end_of opening) cs)

-- groups on their own; an empty one is none
abbrev pub hosts_alone : List (List Bytes) → List Hosted
hosts_alone groups = map block (filter (λ group. not (is_empty group)) groups)

-- the group right above a line is above its first statement
abbrev pub with_group : List Bytes → List Hosted → List Hosted
with_group group (hosted before suffix ∷ hs) = hosted (group ++ before) suffix ∷ hs
with_group group hs = hs

-- those of statements and headers, and a block for the end comments of a suite; group: the comment lines above
abbrev pub stretch_hosts : Page → List Bytes → Stretch → List Hosted
stretch_hosts page group (simple_line n rs) = with_group group (map (hosted_at page.regions (comments_from 0 page.leaves)) rs)
stretch_hosts page group (header n following rs own) =
    let cs : List Comment = comments_from 0 page.leaves in
    hosted (group ++ texts_at page.regions (above n) cs) (all_in (leaf_gap page.leaves following))
    ∷ (map (hosted_at page.regions cs) rs ++ block (flat_map (suite_end page) own) ∷ [])

-- a statement of the file, with the comment lines above it
abbrev pub statement_hosts : Page → List Bytes → List Stretch → List Hosted
statement_hosts page group [] = []
statement_hosts page group (st ∷ sts) = stretch_hosts page group st ++ flat_map (λ (x : Stretch). stretch_hosts page (lines_of_leaf page (first_leaf x)) x) sts

-- Of the file itself: of the lines that are left, comment lines that follow each other form a group. A group
-- whose last line is followed by a line without token and comment, or by no token at all, is on its own.
abbrev pub hosted_from : Page → ℕ → List Part → List Hosted
hosted_from page n [] = []
hosted_from page n (p.Leaf l ∷ xs) =
    let lines : List GapLine = left_above page n in
    hosts_alone (map (right_above lines) (bare_lines 0 lines ++ length lines ∷ [])) ++ hosted_from page (suc n) xs
hosted_from page n (Node' kind z r ∷ xs) =
    let lines : List GapLine = left_above page n in
    let x : Measured = measured (Node' kind z r) in
    hosts_alone (map (right_above lines) (bare_lines 0 lines))
    ++ statement_hosts page (right_above lines (length lines)) (x.stretches n)
    ++ hosted_from page (n + x.size) xs

-- The comments of a tree with their hosts, in the order in which these begin.
abbrev pub hosted_in : Node → List Hosted
hosted_in n =
    let sts : List Stretch = one_by_one 0 (map measured n.parts) in
    hosted_from (record { leaves = leaves_of n; regions = flat_map regions_in sts; suites = flat_map suites_in sts }) 0 n.parts

-- ---- the comments in a file value, in the same order

abbrev pub hosted_by : HostComments → Hosted
hosted_by comments = hosted comments.before (as_list comments.suffix)

-- By what each part and each item is as a host, and what is in it. Of a suite: what is in its header, its end comments, its
-- statements, and its alternatives.
abbrev pub by_frame : Frame → List (Hosted × List Hosted) → List (Hosted × List Hosted) → List Bytes → List Hosted
by_frame row parts items end = flat_map (λ x. x.1) parts
by_frame (sequence opener closer) parts items end = flat_map (λ x. x.1) parts ++ ended end ∷ flat_map (λ x. x.0 ∷ x.1) items
by_frame compound parts items end = flat_map (λ x. x.1) (take 1 parts) ++ block end ∷ flat_map (λ x. x.0 ∷ x.1) (items ++ drop 1 parts)

abbrev mutual
  pub inside_expr : Expr → List Hosted
  inside_expr (Token t) = []
  inside_expr (Form' kind _ parts _ items end split open_break comments) = by_frame (frame kind) (inside_row parts) (inside_row items) end

  pub inside_row : {m : _} → Row_of-Expr m → List (Hosted × List Hosted)
  inside_row end_of-Expr = []
  inside_row (more_of-Expr x rest) = (hosted_by (comments_of x), inside_expr x) ∷ inside_row rest

abbrev pub inside_item : Item → List Hosted
inside_item (i.Block lines) = block lines ∷ []
inside_item (i.Stmt x) = hosted_by (comments_of x) ∷ inside_expr x
