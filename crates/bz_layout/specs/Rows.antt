-- Worked rows: small file values and their layout, byte for byte.
use Prim.Native.String.{String}
use Rattle.std.specs.Prelude.{◌≡◌, Bool, true, false, List, [], ◌∷◌, codes, None, Option, Some}
use Rattle.bz_token.specs.declared.class.Class.TheVariants as c
use Rattle.bz_grammar.specs.declared.kind.Kind.TheVariants as k
use Rattle.bz_layout.specs.Words.{Expr, Item, no_comments}
use Rattle.bz_value.specs.declared.value.Item.TheVariants as i
use Rattle.bz_hosts.specs.Worked.{with, token, name, number, string, mark, keyword, form, row, sequence, paren, comprehension, pair, argument, assigned, bare, calling, described, suite, function, on, documented, alternatives, ends, one_line, tabbed, parameters, defined}
use Rattle.bz_layout.specs.Flags.{flags, flags_in}
use Rattle.bz_layout.specs.Written.{layout, layout_in}
use Rattle.bz_layout.specs.declared.breaks.Lines.TheVariants as l

-- ---- values

abbrev list : List Expr → Expr
list items = sequence k.List false [] items

-- KEY: VALUE
abbrev entry : String → Expr → Expr
entry key value = row k.Entry (string key ∷ mark ":" ∷ value ∷ [])

abbrev a : Expr
a = name "a"

abbrev b : Expr
b = name "b"

-- the last token of an operator after which a new line begins
abbrev breaking_plus : Expr
breaking_plus = token no_comments true c.Mark "+"

abbrev call : List Expr → Item
call arguments = calling [] "f" false arguments

abbrev load : List String → String → List Expr → Item
load before file names = i.Stmt (form (with before None) k.Load false false (keyword "load" ∷ []) (string file ∷ names) [])

-- def f with these parameters, and a name in its suite
abbrev taking : Bool → List Expr → List Item
taking split items = i.Stmt (suite no_comments (function "f" split items []) (bare no_comments (name "y") ∷ []) [] []) ∷ []

-- A function whose suite has a list of two names, and an if of a call of two named arguments. Both are split or not.
abbrev nested : Bool → List Item
nested split =
    i.Stmt (suite no_comments (function "f" false [] []) (
    assigned "x" (sequence k.List split [] (a ∷ b ∷ []))
    ∷ suite no_comments (on (sequence k.Call split (name "g" ∷ []) (argument "a" (number "1") ∷ argument "b" (number "2") ∷ []))) (row k.Return (keyword "return" ∷ []) ∷ []) [] [] ∷ []) [] []) ∷ []

-- ---- rows

abbrev Row : List Item → String → Type 0
Row items text = layout items ≡ codes text

-- a statement `a = VALUE`
abbrev Assigned : Expr → String → Type 0
Assigned value text = Row (i.Stmt (assigned "a" value) ∷ []) text

abbrev pub WorkedRows : Type 0
WorkedRows =
    Row [] ""
    -- a comment right above, one space around `=`
    × Row (calling ("# keep" ∷ []) "cc_binary" false (argument "name" (string "\"y\"") ∷ []) ∷ []) "# keep\ncc_binary(name = \"y\")\n"
    -- a call of two arguments is broken, a list of one is not
    × Row (call (argument "a" (string "\"y\"") ∷ argument "b" (list (string "'z'" ∷ [])) ∷ []) ∷ []) "f(\n    a = \"y\",\n    b = ['z'],\n)\n"
    -- a call of two arguments without names is not broken
    × Row (call (a ∷ b ∷ []) ∷ []) "f(a, b)\n"
    -- a list of two is broken, its items 4 further than the call
    × Row (call (argument "b" (list (string "\"y\"" ∷ string "'z'" ∷ [])) ∷ []) ∷ []) "f(b = [\n    \"y\",\n    'z',\n])\n"
    -- a list of one that is split is broken, an empty one never
    × Row (call (argument "b" (sequence k.List true [] (string "\"y\"" ∷ [])) ∷ argument "c" (sequence k.List true [] []) ∷ []) ∷ []) "f(\n    b = [\n        \"y\",\n    ],\n    c = [],\n)\n"
    -- a sum of a list and a call in a call
    × Row
    (calling [] "x" false (
    argument "srcs" (sequence k.Call false (name "glob" ∷ []) (list (string "\"b\"" ∷ string "\"a\"" ∷ []) ∷ []))
    ∷ argument "deps" (row k.Sum (list (string "\"c\"" ∷ []) ∷ mark "+" ∷ sequence k.Call false (name "select" ∷ []) (sequence k.Dict false [] (entry "\"k\"" (list (string "\"d\"" ∷ [])) ∷ []) ∷ []) ∷ [])) ∷ []) ∷ [])
    "x(\n    srcs = glob([\n        \"b\",\n        \"a\",\n    ]),\n    deps = [\"c\"] + select({\"k\": [\"d\"]}),\n)\n"
    -- a blank line between two items, a Block at the end
    × Row (i.Block (codes "# a" ∷ codes "# b" ∷ []) ∷ call [] ∷ calling [] "g" false [] ∷ i.Block (codes "# c" ∷ []) ∷ []) "# a\n# b\n\nf()\n\ng()\n\n# c\n"
    -- comments above items, and below the last one
    × Row (calling [] "cc_library" false (described false) ∷ []) "cc_library(\n    # n\n    name = \"a\",\n    deps = [\n        # why\n        \":b\",\n        # end\n    ],\n)\n"
    -- a suffix is after the comma of its item, and after its statement
    × Row (i.Stmt (assigned "a" (list (token (with [] (Some "# x")) false c.String "\"b\"" ∷ []))) ∷ i.Stmt (pair (with [] (Some "# c")) k.Assign b (number "2")) ∷ []) "a = [\n    \"b\",  # x\n]\nb = 2  # c\n"
    -- no blank line between two loads, but one before a comment
    × Row (load [] "\"B\"" (string "\"b\"" ∷ []) ∷ load [] "\"A\"" (argument "c" (string "\"d\"") ∷ []) ∷ load ("# k" ∷ []) "\"C\"" (string "\"c\"" ∷ []) ∷ [])
    "load(\"B\", \"b\")\nload(\"A\", c = \"d\")\n\n# k\nload(\"C\", \"c\")\n"
    -- a space between a number and a dot; none around a dot elsewhere
    × Row (i.Stmt (assigned "x" (row k.Dot (number "1" ∷ mark "." ∷ name "real" ∷ []))) ∷ []) "x = 1 .real\n"
    × Assigned (row k.Dot (b ∷ mark "." ∷ name "real" ∷ [])) "a = b.real\n"
    -- a row with a comma
    × Row (i.Stmt (pair no_comments k.Assign (row k.Row (a ∷ mark "," ∷ b ∷ [])) (name "c")) ∷ []) "a, b = c\n"
    -- a slice
    × Row (i.Stmt (assigned "b" (row k.Slice (a ∷ mark "[" ∷ b ∷ mark ":" ∷ name "c" ∷ mark ":" ∷ mark "]" ∷ []))) ∷ []) "b = a[b:c:]\n"
    -- a sign is at its operand, an operator between spaces
    × Assigned (row k.Product (row k.Unary (mark "-" ∷ b ∷ []) ∷ mark "*" ∷ number "2" ∷ [])) "a = -b * 2\n"
    -- keywords between spaces
    × Assigned (row k.Cond (b ∷ keyword "if" ∷ row k.Not (keyword "not" ∷ a ∷ []) ∷ keyword "else" ∷ row k.Compare (a ∷ keyword "not" ∷ keyword "in" ∷ b ∷ []) ∷ [])) "a = b if not a else a not in b\n"
    -- a tuple of one keeps its comma, an empty one has none
    × Assigned (sequence k.Tuple false [] (b ∷ [])) "a = (b,)\n"
    × Assigned (sequence k.Tuple false [] []) "a = ()\n"
    × Assigned (sequence k.Tuple false [] (a ∷ b ∷ [])) "a = (a, b)\n"
    -- a dict of one entry, and of two
    × Assigned (sequence k.Dict false [] (entry "\"k\"" b ∷ [])) "a = {\"k\": b}\n"
    × Assigned (sequence k.Dict false [] (entry "\"k\"" b ∷ entry "\"l\"" a ∷ [])) "a = {\n    \"k\": b,\n    \"l\": a,\n}\n"
    -- a comprehension on one line, and open: each part on a line of its own
    × Assigned (comprehension false "x" "y") "a = [x for x in y]\n"
    × Assigned (comprehension true "x" "y") "a = [\n    x\n    for x in y\n]\n"
    -- the operand after a break operator begins a new line 4 further; of `not in` the break is after `in`
    × Assigned (paren (row k.Sum (a ∷ breaking_plus ∷ b ∷ mark "+" ∷ a ∷ []))) "a = (a +\n    b + a)\n"
    × Assigned (paren (row k.Compare (a ∷ keyword "not" ∷ token no_comments true c.Keyword "in" ∷ b ∷ []))) "a = (a not in\n    b)\n"
    -- what begins a new line after a break has its margin
    × Assigned (paren (row k.Sum (a ∷ breaking_plus ∷ list (a ∷ b ∷ []) ∷ []))) "a = (a +\n    [\n        a,\n        b,\n    ])\n"
    -- ---- suites
    -- headers at their margin, suites four further with their end comments last, and no blank line in them; one between two items
    × Row documented "def f(a, b = 1, *c):  # doc\n    if a:\n        return b\n    # none\n    return lambda x: x + 1\n    # end\n\nx = [f(i) for i in c]\n"
    × Row alternatives "if a:\n    b\n    # in\n# above\nelif c:  # why\n    d\n# last\nelse:\n    # first\n    e\n"
    × Row ends "def f():\n    if a:\n        b\n        # 4\n    # 3\n    # 2\n\n# 1\n# 0\n\nx\n"
    × Row one_line "if x:\n    y = 1  # c\nelse:\n    pass\n    z\n"
    × Row tabbed "for a, b in c:\n    if d:\n        break\n    # one\n    continue\n    # two\n    # three\n"
    × Row defined "def f():\n    a\n    # c\n    b\n\n# g\ndef g():\n    pass\n"
    -- Parameters are broken where one has comments, there are end comments, or they are split; never where there are none.
    × Row (parameters false) "def f(\n    # above\n    a,  # a\n    *,\n    # last\n    **b,\n    # end\n):\n    pass\n"
    × Row (taking false (a ∷ b ∷ [])) "def f(a, b):\n    y\n"
    × Row (taking true (a ∷ b ∷ [])) "def f(\n    a,\n    b,\n):\n    y\n"
    × Row (taking true []) "def f():\n    y\n"
    -- what is broken in a suite, and in a header there, has the margin of its statement; a return by itself
    × Row (nested false) "def f():\n    x = [\n        a,\n        b,\n    ]\n    if g(\n        a = 1,\n        b = 2,\n    ):\n        return\n"
    -- lambdas without parameters and with some; two assignments are close together, as in a BUILD file
    × Row
    (i.Stmt (assigned "x" (row k.Lambda (keyword "lambda" ∷ mark ":" ∷ name "e" ∷ [])))
    ∷ i.Stmt (assigned "x" (row k.Lambda (keyword "lambda" ∷ a ∷ mark "," ∷ pair no_comments k.Param b (number "1") ∷ mark "," ∷ row k.Param (mark "**" ∷ name "c" ∷ []) ∷ mark ":" ∷ name "e" ∷ []))) ∷ [])
    "x = lambda: e\nx = lambda a, b = 1, **c: e\n"
    -- ---- flags: each sequence is split exactly where the layout breaks it
    × (flags documented ≡ documented) × (flags ends ≡ ends) × (flags (parameters false) ≡ parameters true)
    × (flags (taking true (a ∷ [])) ≡ taking true (a ∷ [])) × (flags (taking true []) ≡ taking false [])
    × (flags (nested false) ≡ nested true)

-- ---- lines as they were written

-- f of a name and of a starred one: split or not, with this suffix of the last
abbrev starring : Bool → Option String → List Item
starring split suffix =
    i.Stmt (sequence k.Call split (name "f" ∷ []) (a ∷ form (with [] suffix) k.Star false false (mark "**" ∷ b ∷ []) [] [] ∷ [])) ∷ []

abbrev WrittenRow : List Item → String → Type 0
WrittenRow items text = layout_in l.Written items ≡ codes text

abbrev pub WrittenRows : Type 0
WrittenRows =
    -- nothing is counted
    WrittenRow (i.Stmt (assigned "a" (list (a ∷ b ∷ []))) ∷ []) "a = [a, b]\n"
    × WrittenRow (nested false) "def f():\n    x = [a, b]\n    if g(a = 1, b = 2):\n        return\n"
    -- a split sequence is broken, also one without items
    × WrittenRow (call (a ∷ sequence k.List true [] [] ∷ []) ∷ []) "f(a, [\n])\n"
    × WrittenRow (i.Stmt (assigned "a" (sequence k.List true [] (b ∷ []))) ∷ []) "a = [\n    b,\n]\n"
    -- after a starred last argument no comma
    × WrittenRow (starring false None) "f(a, **b)\n"
    × WrittenRow (starring true None) "f(\n    a,\n    **b\n)\n"
    × WrittenRow (starring true (Some "# c")) "f(\n    a,\n    **b  # c\n)\n"
    -- parameters eight further, the bracket right after the last one, but where there are comments after it
    × WrittenRow (taking true (a ∷ b ∷ [])) "def f(\n        a,\n        b):\n    y\n"
    × WrittenRow (parameters false) "def f(\n        # above\n        a,  # a\n        *,\n        # last\n        **b,\n        # end\n):\n    pass\n"
    -- between two items nothing, but after a Block
    × WrittenRow (i.Block (codes "# a" ∷ []) ∷ call [] ∷ call [] ∷ i.Block (codes "# b" ∷ []) ∷ i.Block (codes "# c" ∷ []) ∷ []) "# a\n\nf()\nf()\n# b\n\n# c\n"
    -- ---- flags
    × (flags_in l.Written (nested false) ≡ nested false) × (flags_in l.Written (taking true []) ≡ taking true []) × (flags_in l.Written (parameters false) ≡ parameters true)
