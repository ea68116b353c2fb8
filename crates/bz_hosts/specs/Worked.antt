-- Worked rows: a text, its tree, and the file value that it says, or its comments with their hosts.
use Prim.Native.String.{String}
use Rattle.std.specs.Prelude.{◌≡◌, Bool, true, false, List, [], ◌∷◌, ◌++◌, Option, Some, None, map, codes}
use Rattle.std.specs.List.{flat_map}
use Rattle.std.specs.Option.{option_map}
use Rattle.bz_hosts.specs.Words.{Class, Kind, Node, Part, spell_node, Expr, Item, HostComments, no_comments, times}
use Rattle.bz_token.specs.declared.class.Class.TheVariants as c
use Rattle.bz_grammar.specs.declared.kind.Kind.TheVariants as k
use Rattle.bz_grammar.specs.declared.tree.Part.TheVariants as p
use Rattle.bz_value.specs.declared.value.Expr.TheVariants as e
use Rattle.bz_value.specs.declared.value.Item.TheVariants as i
use Rattle.bz_hosts.specs.Hosts.{Hosted, block, hosted, ended, inside_item, hosted_in}
use Rattle.bz_hosts.specs.Kept.{comments_of_tree, occurrences}
use Rattle.bz_hosts.specs.View.{view_of}

-- ---- trees: each leaf with the gap before it

abbrev a_leaf : Class → String → String → Part
a_leaf class gap token = p.Leaf (record { class = class; gap = codes gap; token = codes token })

abbrev a_name : String → String → Part
a_name gap token = a_leaf c.Name gap token

abbrev a_mark : String → String → Part
a_mark gap token = a_leaf c.Mark gap token

abbrev a_word : String → String → Part
a_word gap token = a_leaf c.Keyword gap token

abbrev a_node : Kind → List Part → Part
a_node kind parts = p.Node (record { kind = kind; parts = parts })

-- a name, an equals sign with the gap before it, and a value
abbrev a_pair : Kind → String → String → String → Part → Part
a_pair kind gap named before value = a_node kind (a_name gap named ∷ a_mark before "=" ∷ value ∷ [])

-- what is between two marks, of which each has the gap before it
abbrev between : Kind → List Part → String → String → List Part → String → String → Part
between kind front gap opener parts before closer = a_node kind (front ++ a_mark gap opener ∷ (parts ++ a_mark before closer ∷ []))

abbrev a_call : String → String → List Part → String → Part
a_call gap named arguments before = between k.Call (a_name gap named ∷ []) "" "(" arguments before ")"

abbrev a_list : String → List Part → String → Part
a_list gap items before = between k.List [] gap "[" items before "]"

abbrev in_paren : String → Part → String → Part
in_paren gap part before = between k.Paren [] gap "(" (part ∷ []) before ")"

-- statements and semicolons, and the gap of the Newline after them
abbrev a_line : List Part → String → Part
a_line parts gap = a_node k.Line (parts ++ a_leaf c.Newline gap "\n" ∷ [])

-- a line of one bare expression, and the gap of its Newline
abbrev a_bare : Part → String → Part
a_bare part gap = a_line (a_node k.Bare (part ∷ []) ∷ []) gap

-- `pass`, in the place of a suite
abbrev a_pass : Part
a_pass = a_line (a_node k.Flow (a_word " " "pass" ∷ []) ∷ []) ""

-- the gap of a suite's newline, and its statements
abbrev a_suite : String → List Part → Part
a_suite gap statements = a_node k.Suite (a_leaf c.Newline gap "\n" ∷ statements)

-- a header of a name, with its suite
abbrev if_named : String → String → String → Part → List Part
if_named gap keyword named suite = a_word gap keyword ∷ a_name " " named ∷ a_mark "" ":" ∷ suite ∷ []

abbrev an_if : String → String → Part → Part
an_if gap named suite = a_node k.IfStmt (if_named gap "if" named suite)

-- a function, its parameters with their commas, the gap of the closing bracket, and its suite
abbrev a_function : String → String → List Part → String → Part → Part
a_function gap named parameters before suite =
    a_node k.Def (a_word gap "def" ∷ a_name " " named ∷ a_mark "" "(" ∷ (parameters ++ a_mark before ")" ∷ a_mark "" ":" ∷ suite ∷ []))

-- the lines of a file, and the gap at its end
abbrev a_file : List Part → String → Node
a_file lines gap = record { kind = k.File; parts = lines ++ a_leaf c.End gap "" ∷ [] }

-- ---- values

abbrev pub with : List String → Option String → HostComments
with before suffix = record { before = map (λ text. codes text) before; suffix = option_map (λ text. codes text) suffix }

-- its comments, and whether a new line begins after it, as the last token of an operator
abbrev pub token : HostComments → Bool → Class → String → Expr
token comments line_break class text = e.Token (record { class = class; text = codes text; line_break = line_break; comments = comments })

abbrev pub name : String → Expr
name text = token no_comments false c.Name text

abbrev pub number : String → Expr
number text = token no_comments false c.Number text

abbrev pub string : String → Expr
string text = token no_comments false c.String text

abbrev pub mark : String → Expr
mark text = token no_comments false c.Mark text

abbrev pub keyword : String → Expr
keyword text = token no_comments false c.Keyword text

-- its comments, whether it is split and open, its parts, items and end comments
abbrev pub form : HostComments → Kind → Bool → Bool → List Expr → List Expr → List String → Expr
form comments kind split open_break parts items end =
    e.Form (record { kind = kind; parts = parts; seq = record { items = items; end = map (λ text. codes text) end; split = split }; open_break = open_break; comments = comments })

abbrev pub commented : HostComments → Kind → List Expr → Expr
commented comments kind parts = form comments kind false false parts [] []

abbrev pub row : Kind → List Expr → Expr
row kind parts = commented no_comments kind parts

-- a sequence: whether it is split, what is before its bracket, its items
abbrev pub sequence : Kind → Bool → List Expr → List Expr → Expr
sequence kind split parts items = form no_comments kind split false parts items []

abbrev pub paren : Expr → Expr
paren x = row k.Paren (mark "(" ∷ x ∷ mark ")" ∷ [])

-- [left for left in right], open or not
abbrev pub comprehension : Bool → String → String → Expr
comprehension open_break left right =
    form no_comments k.ListComp false open_break (mark "[" ∷ name left ∷ row k.For (keyword "for" ∷ name left ∷ keyword "in" ∷ name right ∷ []) ∷ mark "]" ∷ []) [] []

-- LEFT = VALUE
abbrev pub pair : HostComments → Kind → Expr → Expr → Expr
pair comments kind left value = commented comments kind (left ∷ mark "=" ∷ value ∷ [])

abbrev pub argument : String → Expr → Expr
argument left value = pair no_comments k.Named (name left) value

abbrev pub assigned : String → Expr → Expr
assigned left value = pair no_comments k.Assign (name left) value

-- a statement of one expression
abbrev pub bare : HostComments → Expr → Expr
bare comments x = commented comments k.Bare (x ∷ [])

abbrev pub statement : List String → Option String → Expr → Item
statement before suffix x = i.Stmt (bare (with before suffix) x)

-- a statement that calls this name
abbrev pub calling : List String → String → Bool → List Expr → Item
calling before named split arguments = statement before None (sequence k.Call split (name named ∷ []) arguments)

-- name = "a", deps = [":b"] with a comment above each item, and one below the last; the list is split or not
abbrev pub described : Bool → List Expr
described split =
    pair (with ("# n" ∷ []) None) k.Named (name "name") (string "\"a\"")
    ∷ argument "deps" (form no_comments k.List split false [] (token (with ("# why" ∷ []) None) false c.String "\":b\"" ∷ []) ("# end" ∷ [])) ∷ []

-- a suite: its comments, its header, its statements, the comments below the last one, and its alternatives
abbrev pub suite : HostComments → Expr → List Expr → List String → List Expr → Expr
suite comments header statements end others = form comments k.Suite false false (header ∷ others) statements end

-- the header of a function: whether its parameters are split, these, and the comments below the last one
abbrev pub function : String → Bool → List Expr → List String → Expr
function named split parameters end = form no_comments k.Def split false (keyword "def" ∷ name named ∷ []) parameters end

-- the header `if TEST`
abbrev pub on : Expr → Expr
on test = row k.IfStmt (keyword "if" ∷ test ∷ [])

abbrev pub pass : Expr
pass = row k.Flow (keyword "pass" ∷ [])

-- ---- what files with suites say

-- def f(a, b = 1, *c) with its suffix; an if in its suite, a comment above what follows, and one below that; an assignment
abbrev pub documented : List Item
documented =
    i.Stmt (suite (with [] (Some "# doc")) (function "f" false (name "a" ∷ pair no_comments k.Param (name "b") (number "1") ∷ row k.Param (mark "*" ∷ name "c" ∷ []) ∷ []) []) (
    suite no_comments (on (name "a")) (row k.Return (keyword "return" ∷ name "b" ∷ []) ∷ []) [] []
    ∷ commented (with ("# none" ∷ []) None) k.Return (
    keyword "return" ∷ row k.Lambda (keyword "lambda" ∷ name "x" ∷ mark ":" ∷ row k.Sum (name "x" ∷ mark "+" ∷ number "1" ∷ []) ∷ []) ∷ []) ∷ []) ("# end" ∷ []) [])
    ∷ i.Stmt (assigned "x" (row k.ListComp (
    mark "[" ∷ sequence k.Call false (name "f" ∷ []) (name "i" ∷ []) ∷ row k.For (keyword "for" ∷ name "i" ∷ keyword "in" ∷ name "c" ∷ []) ∷ mark "]" ∷ []))) ∷ []

-- if, elif and else with comments below a suite, above a header, after it, and above the first statement of a suite
abbrev pub alternatives : List Item
alternatives =
    i.Stmt (suite no_comments (on (name "a")) (bare no_comments (name "b") ∷ []) ("# in" ∷ []) (
    suite (with ("# above" ∷ []) (Some "# why")) (row k.IfStmt (keyword "elif" ∷ name "c" ∷ [])) (bare no_comments (name "d") ∷ []) [] []
    ∷ suite (with ("# last" ∷ []) None) (row k.IfStmt (keyword "else" ∷ [])) (bare (with ("# first" ∷ []) None) (name "e") ∷ []) [] [] ∷ [])) ∷ []

-- two suites that end together, with comments below both; a Block; a name
abbrev pub ends : List Item
ends =
    i.Stmt (suite no_comments (function "f" false [] []) (suite no_comments (on (name "a")) (bare no_comments (name "b") ∷ []) ("# 4" ∷ []) [] ∷ []) ("# 3" ∷ "# 2" ∷ []) [])
    ∷ i.Block (codes "# 1" ∷ codes "# 0" ∷ []) ∷ statement [] None (name "x") ∷ []

-- if x: y = 1, whose comment is that of the statement; else with two statements
abbrev pub one_line : List Item
one_line =
    i.Stmt (suite no_comments (on (name "x")) (pair (with [] (Some "# c")) k.Assign (name "y") (number "1") ∷ []) [] (
    suite no_comments (row k.IfStmt (keyword "else" ∷ [])) (pass ∷ bare no_comments (name "z") ∷ []) [] [] ∷ [])) ∷ []

-- for a, b in c
abbrev pub tabbed : List Item
tabbed =
    i.Stmt (suite no_comments (row k.ForStmt (keyword "for" ∷ name "a" ∷ mark "," ∷ name "b" ∷ keyword "in" ∷ name "c" ∷ [])) (
    suite no_comments (on (name "d")) (row k.Flow (keyword "break" ∷ []) ∷ []) [] []
    ∷ commented (with ("# one" ∷ []) None) k.Flow (keyword "continue" ∷ []) ∷ []) ("# two" ∷ "# three" ∷ []) []) ∷ []

-- parameters with comments, split or not
abbrev pub parameters : Bool → List Item
parameters split =
    i.Stmt (suite no_comments (function "f" split (
    token (with ("# above" ∷ []) (Some "# a")) false c.Name "a" ∷ row k.Param (mark "*" ∷ []) ∷ commented (with ("# last" ∷ []) None) k.Param (mark "**" ∷ name "b" ∷ []) ∷ []) ("# end" ∷ []))
    (pass ∷ []) [] []) ∷ []

-- two statements in the suite of a function, and another function
abbrev pub defined : List Item
defined =
    i.Stmt (suite no_comments (function "f" false [] []) (bare no_comments (name "a") ∷ bare (with ("# c" ∷ []) None) (name "b") ∷ []) [] [])
    ∷ i.Stmt (suite (with ("# g" ∷ []) None) (function "g" false [] []) (pass ∷ []) [] []) ∷ []

-- ---- rows

-- a text, the lines of its tree and the gap of its end, and what is said of the tree
abbrev Row : {X : Type 0} → (Node → X) → String → List Part → String → X → Type 0
Row read text lines end value = (spell_node (a_file lines end) ≡ codes text) × (read (a_file lines end) ≡ value)

-- and the comments with their hosts, by their places and by what the tree says
abbrev WithHosts : String → List Part → String → List Item → List Hosted → Type 0
WithHosts text lines end items hosts = Row view_of text lines end items × (hosted_in (a_file lines end) ≡ hosts) × (flat_map inside_item items ≡ hosts)

abbrev without : Hosted
without = hosted [] []

-- a comment in a group by itself, above a statement, before a comma, after it, at the end of a sequence, after the statement
-- and at the end of the file
abbrev everywhere : Node
everywhere = a_file (a_bare (a_call "# a\n\n# a\n" "f" (a_name "" "x" ∷ a_mark " # b\n" "," ∷ []) " # a\n# a\n") " # a" ∷ []) "# a\n"

abbrev pub WorkedViews : Type 0
WorkedViews =
    -- ---- comments and groups of lines at file level
    -- a comment right above a statement is the statement's
    Row view_of "a( b=\"x\" )\n# keep\nc( d=\"y\" )\n"
    (a_bare (a_call "" "a" (a_pair k.Named " " "b" "" (a_leaf c.String "" "\"x\"") ∷ []) " ") "" ∷ a_bare (a_call "# keep\n" "c" (a_pair k.Named " " "d" "" (a_leaf c.String "" "\"y\"") ∷ []) " ") "" ∷ []) ""
    (calling [] "a" false (argument "b" (string "\"x\"") ∷ []) ∷ calling ("# keep" ∷ []) "c" false (argument "d" (string "\"y\"") ∷ []) ∷ [])
    -- A group of comment lines that an empty line follows is on its own; so is one above an escaped newline; texts end before their blanks.
    × Row view_of "# a \t\r\n# b\n\n# c\\\nf()\n# d\n\\\ng()\n" (a_bare (a_call "# a \t\r\n# b\n\n# c\\\n" "f" [] "") "" ∷ a_bare (a_call "# d\n\\\n" "g" [] "") "" ∷ []) ""
    (i.Block (codes "# a" ∷ codes "# b" ∷ []) ∷ calling ("# c\\" ∷ []) "f" false [] ∷ i.Block (codes "# d" ∷ []) ∷ calling [] "g" false [] ∷ [])
    -- comments at the end of the file are on their own, the last one also without newline
    × Row view_of "f\n# a\n\n\n# b\n# c " (a_bare (a_name "" "f") "" ∷ []) "# a\n\n\n# b\n# c " (statement [] None (name "f") ∷ i.Block (codes "# a" ∷ []) ∷ i.Block (codes "# b" ∷ codes "# c" ∷ []) ∷ [])
    -- the comment after the last statement of a line, or after its semicolon, is that statement's suffix
    × Row view_of "a = 1; b = 2; # c\n"
    (a_line (a_pair k.Assign "" "a" " " (a_leaf c.Number " " "1") ∷ a_mark "" ";" ∷ a_pair k.Assign " " "b" " " (a_leaf c.Number " " "2") ∷ a_mark "" ";" ∷ []) " # c" ∷ []) ""
    (i.Stmt (assigned "a" (number "1")) ∷ i.Stmt (pair (with [] (Some "# c")) k.Assign (name "b") (number "2")) ∷ [])
    -- a comment after an escaped newline at the end of a line is a comment line
    × Row view_of "x # a\ny \\\n# b\nz\n" (a_bare (a_name "" "x") " # a" ∷ a_bare (a_name "" "y") " \\\n# b" ∷ a_bare (a_name "" "z") "" ∷ []) ""
    (statement [] (Some "# a") (name "x") ∷ statement [] None (name "y") ∷ statement ("# b" ∷ []) None (name "z") ∷ [])
    -- ---- brackets
    -- a newline before an item, before a comma or before the closing bracket splits a sequence; a comma after the last item is gone
    × Row view_of "f(a=[\n1,2,])\n"
    (a_bare (a_call "" "f" (a_pair k.Named "" "a" "" (a_list "" (a_leaf c.Number "\n" "1" ∷ a_mark "" "," ∷ a_leaf c.Number "" "2" ∷ a_mark "" "," ∷ []) "") ∷ []) "") "" ∷ []) ""
    (calling [] "f" false (argument "a" (sequence k.List true [] (number "1" ∷ number "2" ∷ [])) ∷ []) ∷ [])
    -- an escaped newline splits nothing
    × Row view_of "f(\\\na \n)\ng(\\\n)\n" (a_bare (a_call "" "f" (a_name "\\\n" "a" ∷ []) " \n") "" ∷ a_bare (a_call "" "g" [] "\\\n") "" ∷ []) "" (calling [] "f" true (name "a" ∷ []) ∷ calling [] "g" false [] ∷ [])
    -- Inside an item a comment goes above it; after an opening bracket it goes above the item that begins next; after the
    -- last item it is at the end.
    × Row view_of "f(\n    name # n\n      = \"a\",\n    deps = [ # why\n        \":b\",\n        # end\n    ],\n)\n"
    (a_bare (a_call "" "f" (
    a_pair k.Named "\n    " "name" " # n\n      " (a_leaf c.String " " "\"a\"") ∷ a_mark "" ","
    ∷ a_pair k.Named "\n    " "deps" " " (a_list " " (a_leaf c.String " # why\n        " "\":b\"" ∷ a_mark "" "," ∷ []) "\n        # end\n    ") ∷ a_mark "" "," ∷ []) "\n") "" ∷ []) ""
    (calling [] "f" true (described true) ∷ [])
    -- a comment after an item's comma is its suffix; before the comma it belongs to what follows
    × Row view_of "f(a # b\n, c, # d\n)\n" (a_bare (a_call "" "f" (a_name "" "a" ∷ a_mark " # b\n" "," ∷ a_name " " "c" ∷ a_mark "" "," ∷ []) " # d\n") "" ∷ []) ""
    (calling [] "f" true (name "a" ∷ token (with ("# b" ∷ []) (Some "# d")) false c.Name "c" ∷ []) ∷ [])
    -- ---- operators and comprehensions
    -- an operator breaks where a newline is before the operand after it; the comment there goes above the statement
    × Row view_of "x = (a + # why\nb)\n" (a_line (a_pair k.Assign "" "x" " " (in_paren " " (a_node k.Sum (a_name "" "a" ∷ a_mark " " "+" ∷ a_name " # why\n" "b" ∷ [])) "") ∷ []) "" ∷ []) ""
    (i.Stmt (pair (with ("# why" ∷ []) None) k.Assign (name "x") (paren (row k.Sum (name "a" ∷ token no_comments true c.Mark "+" ∷ name "b" ∷ [])))) ∷ [])
    -- or before the operator; the flag is at its last token
    × Row view_of "(a\n  not in b)\n" (a_bare (in_paren "" (a_node k.Compare (a_name "" "a" ∷ a_word "\n  " "not" ∷ a_word " " "in" ∷ a_name " " "b" ∷ [])) "") "" ∷ []) ""
    (statement [] None (paren (row k.Compare (name "a" ∷ keyword "not" ∷ token no_comments true c.Keyword "in" ∷ name "b" ∷ []))) ∷ [])
    -- a comprehension is open where a newline is right after its bracket
    × Row view_of "[\n  a for a in b]\n"
    (a_bare (between k.ListComp [] "" "[" (a_name "\n  " "a" ∷ a_node k.For (a_word " " "for" ∷ a_name " " "a" ∷ a_word " " "in" ∷ a_name " " "b" ∷ []) ∷ []) "" "]") "" ∷ []) ""
    (statement [] None (comprehension true "a" "b") ∷ [])
    -- ---- counts: each comment is in the file value as often as in the text
    × (spell_node everywhere ≡ codes "# a\n\n# a\nf(x # b\n, # a\n# a\n) # a\n# a\n")
    × (comments_of_tree everywhere ≡ codes "# a" ∷ codes "# a" ∷ codes "# b" ∷ codes "# a" ∷ codes "# a" ∷ codes "# a" ∷ codes "# a" ∷ [])
    × (occurrences (codes "# a") everywhere ≡ 6) × (times (codes "# a") (view_of everywhere) ≡ 6)
    × (occurrences (codes "# b") everywhere ≡ 1) × (times (codes "# b") (view_of everywhere) ≡ 1)
    × (occurrences (codes "#") everywhere ≡ 0) × (times (codes "#") (view_of everywhere) ≡ 0)

abbrev two_statements : String → List Part
two_statements gap = a_line (a_node k.Bare (a_name "" "x" ∷ []) ∷ a_mark "" ";" ∷ a_node k.Bare (a_name "" "y" ∷ []) ∷ []) gap ∷ []

-- the comments are in the order in which their hosts begin
abbrev pub WorkedHosts : Type 0
WorkedHosts =
    -- A Block, and what is above a statement; above an item, its suffix after its comma; the ends of two sequences; the
    -- suffix of the statement; and a Block at the end.
    Row hosted_in "# a\n\n# b\nf( # c\n# d\nx, # e\n[ # g\n]\n# h\n) # i\n# j\n"
    (a_bare (a_call "# a\n\n# b\n" "f" (a_name " # c\n# d\n" "x" ∷ a_mark "" "," ∷ a_list " # e\n" [] " # g\n" ∷ []) "\n# h\n") " # i" ∷ []) "# j\n"
    (block (codes "# a" ∷ []) ∷ hosted (codes "# b" ∷ []) (codes "# i" ∷ []) ∷ ended (codes "# h" ∷ [])
    ∷ hosted (codes "# c" ∷ codes "# d" ∷ []) (codes "# e" ∷ []) ∷ without ∷ ended (codes "# g" ∷ []) ∷ block (codes "# j" ∷ []) ∷ [])
    -- A comment between an item and its comma belongs to what follows, here the end.
    × Row hosted_in "[a # o\n,]\n" (a_bare (a_list "" (a_name "" "a" ∷ a_mark " # o\n" "," ∷ []) "") "" ∷ []) "" (without ∷ ended (codes "# o" ∷ []) ∷ without ∷ [])
    -- Inside brackets that hold no sequence a comment goes to the statement, above it.
    × Row hosted_in "a=( # m\nb # n\n)\n" (a_line (a_pair k.Assign "" "a" "" (in_paren "" (a_name " # m\n" "b") " # n\n") ∷ []) "" ∷ []) "" (hosted (codes "# m" ∷ codes "# n" ∷ []) [] ∷ [])
    -- Of two statements on a line the last has the suffix; after an escaped newline a comment is none, but a line of the file.
    × Row hosted_in "x;y # k\n" (two_statements " # k") "" (without ∷ hosted [] (codes "# k" ∷ []) ∷ [])
    × Row hosted_in "x;y \\\n# k\n" (two_statements " \\\n# k") "" (without ∷ without ∷ block (codes "# k" ∷ []) ∷ [])
    -- Comment lines that follow each other form a group, wherever the newline that ends the line before them is: right above
    -- a statement they are above it, and above a line without comment they are a Block.
    × Row hosted_in "x \\\n# k\n# l\ny\n" (a_bare (a_name "" "x") " \\\n# k" ∷ a_bare (a_name "# l\n" "y") "" ∷ []) "" (without ∷ hosted (codes "# k" ∷ codes "# l" ∷ []) [] ∷ [])
    × Row hosted_in "x \\\n# k\n# l\n\n# m\n\\\ny\n" (a_bare (a_name "" "x") " \\\n# k" ∷ a_bare (a_name "# l\n\n# m\n\\\n" "y") "" ∷ []) ""
    (without ∷ block (codes "# k" ∷ codes "# l" ∷ []) ∷ block (codes "# m" ∷ []) ∷ without ∷ [])

abbrev pub WorkedSuites : Type 0
WorkedSuites =
    -- A comment of its own line below an if that is one line is above what follows; the last one of a function's suite, indented as
    -- that is, is an end comment. Parameters are hosts; a suite on the line of its header has no end comments.
    WithHosts "def f(a,b=1, *c): # doc\n  if a: return b\n  # none\n  return lambda x:x+1\n  # end\nx=[f(i) for i in c]\n"
    (a_function "" "f" (
    a_name "" "a" ∷ a_mark "" "," ∷ a_pair k.Param "" "b" "" (a_leaf c.Number "" "1") ∷ a_mark "" "," ∷ a_node k.Param (a_mark " " "*" ∷ a_name "" "c" ∷ []) ∷ []) "" (a_suite " # doc" (
    an_if "  " "a" (a_line (a_node k.Return (a_word " " "return" ∷ a_name " " "b" ∷ []) ∷ []) "")
    ∷ a_line (a_node k.Return (a_word "  # none\n  " "return"
    ∷ a_node k.Lambda (a_word " " "lambda" ∷ a_name " " "x" ∷ a_mark "" ":" ∷ a_node k.Sum (a_name "" "x" ∷ a_mark "" "+" ∷ a_leaf c.Number "" "1" ∷ []) ∷ []) ∷ []) ∷ []) "" ∷ []))
    ∷ a_line (a_pair k.Assign "  # end\n" "x" "" (between k.ListComp [] "" "[" (
    a_call "" "f" (a_name "" "i" ∷ []) "" ∷ a_node k.For (a_word " " "for" ∷ a_name " " "i" ∷ a_word " " "in" ∷ a_name " " "c" ∷ []) ∷ []) "" "]") ∷ []) "" ∷ []) "" documented
    (hosted [] (codes "# doc" ∷ []) ∷ ended [] ∷ without ∷ without ∷ without ∷ block (codes "# end" ∷ []) ∷ without ∷ block [] ∷ without ∷ hosted (codes "# none" ∷ []) [] ∷ without ∷ ended [] ∷ without ∷ [])
    -- Before elif and else: what is indented as the suite before is its end comment, what is indented less is above the header.
    × WithHosts "if a:\n  b\n  # in\n# above\nelif c: # why\n  d\n # last\nelse:\n  # first\n  e\n"
    (a_node k.IfStmt (if_named "" "if" "a" (a_suite "" (a_bare (a_name "  " "b") "" ∷ [])) ++ (if_named "  # in\n# above\n" "elif" "c" (a_suite " # why" (a_bare (a_name "  " "d") "" ∷ []))
    ++ a_word " # last\n" "else" ∷ a_mark "" ":" ∷ a_suite "" (a_bare (a_name "  # first\n  " "e") "" ∷ []) ∷ [])) ∷ []) "" alternatives
    (without ∷ block (codes "# in" ∷ []) ∷ without ∷ hosted (codes "# above" ∷ []) (codes "# why" ∷ []) ∷ block [] ∷ without ∷ hosted (codes "# last" ∷ []) [] ∷ block [] ∷ hosted (codes "# first" ∷ []) [] ∷ [])
    -- Where two suites end, with margins 2 and 4, a comment is an end comment of the innermost one whose statements are not
    -- indented further than it; the others belong to the file.
    × WithHosts "def f():\n  if a:\n    b\n    # 4\n   # 3\n  # 2\n # 1\n# 0\n\nx\n"
    (a_function "" "f" [] "" (a_suite "" (an_if "  " "a" (a_suite "" (a_bare (a_name "    " "b") "" ∷ [])) ∷ [])) ∷ a_bare (a_name "    # 4\n   # 3\n  # 2\n # 1\n# 0\n\n" "x") "" ∷ []) "" ends
    (without ∷ ended [] ∷ block (codes "# 3" ∷ codes "# 2" ∷ []) ∷ without ∷ block (codes "# 4" ∷ []) ∷ without ∷ block (codes "# 1" ∷ codes "# 0" ∷ []) ∷ without ∷ [])
    -- A suite that ended at a comment takes none after that, however far it is indented.
    × WithHosts "if a:\n  if b:\n    c\n  # 2\n    # 4\n# 0\n    # 4\nd\n"
    (an_if "" "a" (a_suite "" (an_if "  " "b" (a_suite "" (a_bare (a_name "    " "c") "" ∷ [])) ∷ [])) ∷ a_bare (a_name "  # 2\n    # 4\n# 0\n    # 4\n" "d") "" ∷ []) ""
    (i.Stmt (suite no_comments (on (name "a")) (suite no_comments (on (name "b")) (bare no_comments (name "c") ∷ []) [] [] ∷ []) ("# 2" ∷ "# 4" ∷ []) []) ∷ statement ("# 0" ∷ "# 4" ∷ []) None (name "d") ∷ [])
    (without ∷ block (codes "# 2" ∷ codes "# 4" ∷ []) ∷ without ∷ block [] ∷ without ∷ hosted (codes "# 0" ∷ codes "# 4" ∷ []) [] ∷ [])
    -- a suite on the header's line is its statements
    × WithHosts "if x: y=1 # c\nelse: pass; z\n"
    (a_node k.IfStmt (if_named "" "if" "x" (a_line (a_pair k.Assign " " "y" "" (a_leaf c.Number "" "1") ∷ []) " # c")
    ++ a_word "" "else" ∷ a_mark "" ":" ∷ a_line (a_node k.Flow (a_word " " "pass" ∷ []) ∷ a_mark "" ";" ∷ a_node k.Bare (a_name " " "z" ∷ []) ∷ []) "" ∷ []) ∷ []) "" one_line
    (without ∷ block [] ∷ hosted [] (codes "# c" ∷ []) ∷ without ∷ block [] ∷ without ∷ without ∷ [])
    -- parameters are a sequence: comments above them, after them and below the last one; a newline splits them
    × WithHosts "def f(\n  # above\n  a, # a\n  *,\n  # last\n  **b\n  # end\n): pass\n"
    (a_function "" "f" (a_name "\n  # above\n  " "a" ∷ a_mark "" "," ∷ a_node k.Param (a_mark " # a\n  " "*" ∷ []) ∷ a_mark "" ","
    ∷ a_node k.Param (a_mark "\n  # last\n  " "**" ∷ a_name "" "b" ∷ []) ∷ []) "\n  # end\n" a_pass ∷ []) "" (parameters true)
    (without ∷ ended (codes "# end" ∷ []) ∷ hosted (codes "# above" ∷ []) (codes "# a" ∷ []) ∷ without ∷ hosted (codes "# last" ∷ []) [] ∷ block [] ∷ without ∷ [])
    -- After an escaped newline: after a colon a comment is that of the header, after a statement it is a comment line.
    × WithHosts "if a: \\\n # c\n  b \\\n # d\n  # e\n  f\n  # g\n\n# h\n"
    (an_if "" "a" (a_suite " \\\n # c" (a_bare (a_name "  " "b") " \\\n # d" ∷ a_bare (a_name "  # e\n  " "f") "" ∷ [])) ∷ []) "  # g\n\n# h\n"
    (i.Stmt (suite (with [] (Some "# c")) (on (name "a")) (bare no_comments (name "b") ∷ bare (with ("# d" ∷ "# e" ∷ []) None) (name "f") ∷ []) ("# g" ∷ []) []) ∷ i.Block (codes "# h" ∷ []) ∷ [])
    (hosted [] (codes "# c" ∷ []) ∷ block (codes "# g" ∷ []) ∷ without ∷ hosted (codes "# d" ∷ codes "# e" ∷ []) [] ∷ block (codes "# h" ∷ []) ∷ [])
    -- a tab is one character of an indent, as a space is
    × Row view_of "for a, b in c:\n\tif d:\n\t\tbreak\n\t# one\n\tcontinue\n # two\n\t\t # three\n"
    (a_node k.ForStmt (a_word "" "for" ∷ a_name " " "a" ∷ a_mark "" "," ∷ a_name " " "b" ∷ a_word " " "in" ∷ a_name " " "c" ∷ a_mark "" ":" ∷ a_suite "" (
    an_if "\t" "d" (a_suite "" (a_line (a_node k.Flow (a_word "\t\t" "break" ∷ []) ∷ []) "" ∷ [])) ∷ a_line (a_node k.Flow (a_word "\t# one\n\t" "continue" ∷ []) ∷ []) "" ∷ []) ∷ []) ∷ [])
    " # two\n\t\t # three\n" tabbed
    -- inside a suite no comment is on its own: an empty line is nothing there, and no end of a group
    × Row view_of "def f():\n\n  a\n\n  # c\n\n  b\n# g\ndef g(): pass\n"
    (a_function "" "f" [] "" (a_suite "" (a_bare (a_name "\n  " "a") "" ∷ a_bare (a_name "\n  # c\n\n  " "b") "" ∷ [])) ∷ a_function "# g\n" "g" [] "" a_pass ∷ []) "" defined
