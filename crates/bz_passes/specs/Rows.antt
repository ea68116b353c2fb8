-- Worked rows of the passes.
use Rattle.std.specs.Prelude.{◌≡◌, Bool, true, false, List, [], ◌∷◌, codes, Option, None, Some, map}
use Rattle.bz_passes.specs.Words.{Class, Kind, Expr, Item, Bytes, no_comments, layout}
use Rattle.bz_token.specs.declared.class.Class.TheVariants as c
use Rattle.bz_grammar.specs.declared.kind.Kind.TheVariants as k
use Rattle.bz_value.specs.declared.value.Expr.TheVariants as e
use Rattle.bz_value.specs.declared.value.Item.TheVariants as i
use Rattle.bz_passes.specs.Passes.{tidied}
use Rattle.bz_passes.specs.Programs.{IsSameLabel, IsSameString, KeepsProgram}
use Rattle.bz_passes.specs.Syntax.{program, token_times}

abbrev token : Class → Bytes → Expr
token class text = e.Token (record { class = class; text = text; line_break = false; comments = no_comments })

abbrev under_comments : List Bytes → Kind → Bool → List Expr → List Expr → Expr
under_comments before kind split parts items =
    e.Form (record { kind = kind; parts = parts; seq = record { items = items; end = []; split = split }; open_break = false; comments = record { before = before; suffix = None } })

-- a node of a row of parts, and one with a sequence
abbrev node : Kind → List Expr → Expr
node kind parts = under_comments [] kind false parts []

abbrev sequence : Kind → Bool → List Expr → List Expr → Expr
sequence kind split parts items = under_comments [] kind split parts items

abbrev argument : Bytes → Expr → Expr
argument name value = node k.Named (token c.Name name ∷ token c.Mark (codes "=") ∷ value ∷ [])

-- a string under comments, and maybe with one after it
abbrev commented : List Bytes → Option Bytes → Bytes → Expr
commented before suffix text = e.Token (record { class = c.String; text = text; line_break = false; comments = record { before = before; suffix = suffix } })

abbrev string : Bytes → Expr
string text = token c.String text

-- a call under comments
abbrev statement : List Bytes → Bytes → List Expr → Item
statement before name arguments = i.Stmt (under_comments before k.Bare false (sequence k.Call false (token c.Name name ∷ []) arguments ∷ []) [])

-- a load from a path under comments
abbrev load : List Bytes → Bytes → Item
load before path = i.Stmt (under_comments before k.Load false (token c.Keyword (codes "load") ∷ []) (string path ∷ string (codes "\"x\"") ∷ []))

-- three loads, one below a comment
abbrev three_loads : List Bytes → List Item
three_loads above = load [] (codes "\"B.bzl\"") ∷ load above (codes "\"C.bzl\"") ∷ load [] (codes "\"A.bzl\"") ∷ []

-- a rule with one attribute
abbrev rule : Bytes → Bytes → Expr → List Item
rule kind name value = statement [] kind (argument name value ∷ []) ∷ []

abbrev list : List Expr → Expr
list items = sequence k.List true [] items

abbrev strings : List Bytes → Expr
strings texts = list (map string texts)

-- a call x(lambda: [])
abbrev with_lambda : Bool → Item
with_lambda split = statement [] (codes "x") (node k.Lambda (token c.Keyword (codes "lambda") ∷ token c.Mark (codes ":") ∷ sequence k.List split [] [] ∷ []) ∷ [])

abbrev pub WorkedPasses : Type 0
WorkedPasses =
    (layout (tidied (statement [] (codes "cc_library") (argument (codes "srcs")
    (sequence k.List false [] (string (codes "\"b.c\"") ∷ string (codes "'a.c'") ∷ [])) ∷ argument (codes "name") (string (codes "'a'")) ∷ []) ∷ []))
    ≡ codes "cc_library(\n    name = \"a\",\n    srcs = [\n        \"a.c\",\n        \"b.c\",\n    ],\n)\n")
    -- loads are sorted, but not past one with a comment above
    × (tidied (three_loads (codes "# keep here" ∷ [])) ≡ three_loads (codes "# keep here" ∷ []))
    × (tidied (three_loads []) ≡ map (load []) (codes "\"A.bzl\"" ∷ codes "\"B.bzl\"" ∷ codes "\"C.bzl\"" ∷ []))
    -- labels are shortened, then a repeat without comments is dropped
    × (tidied (rule (codes "cc_library") (codes "deps") (list (string (codes "\"//a/b:b\"") ∷ string (codes "\"//a/b\"") ∷ commented [] (Some (codes "# x")) (codes "\"//a/b\"") ∷ [])))
    ≡ rule (codes "cc_library") (codes "deps") (list (string (codes "\"//a/b\"") ∷ commented [] (Some (codes "# x")) (codes "\"//a/b\"") ∷ [])))
    -- the sources of genrule stay
    × (tidied (rule (codes "genrule") (codes "srcs") (list (string (codes "\"b\"") ∷ string (codes "\"a\"") ∷ []))) ≡ rule (codes "genrule") (codes "srcs") (list (string (codes "\"b\"") ∷ string (codes "\"a\"") ∷ [])))
    -- the mark goes to the new first item, the other comment stays
    × (tidied (rule (codes "x") (codes "args") (list (commented (codes "# a" ∷ codes "# Keep Sorted" ∷ []) None (codes "\"b\"") ∷ commented (codes "# c" ∷ []) None (codes "\"a\"") ∷ [])))
    ≡ rule (codes "x") (codes "args") (list (commented (codes "# Keep Sorted" ∷ codes "# c" ∷ []) None (codes "\"a\"") ∷ commented (codes "# a" ∷ []) None (codes "\"b\"") ∷ [])))
    -- where the first item stays first, its comments stay as they are
    × (tidied (rule (codes "x") (codes "args") (list (commented (codes "# a" ∷ codes "# keep sorted" ∷ []) None (codes "\"a\"") ∷ string (codes "\"b\"") ∷ [])))
    ≡ rule (codes "x") (codes "args") (list (commented (codes "# a" ∷ codes "# keep sorted" ∷ []) None (codes "\"a\"") ∷ string (codes "\"b\"") ∷ [])))
    -- the lists of a sum are sorted each by itself; a list inside a call stays
    × (tidied (rule (codes "x") (codes "deps") (node k.Sum (strings (codes "\"b\"" ∷ codes "\"a\"" ∷ []) ∷ token c.Mark (codes "+") ∷ strings (codes "\"d\"" ∷ codes "\"c\"" ∷ []) ∷ [])))
    ≡ rule (codes "x") (codes "deps") (node k.Sum (strings (codes "\"a\"" ∷ codes "\"b\"" ∷ []) ∷ token c.Mark (codes "+") ∷ strings (codes "\"c\"" ∷ codes "\"d\"" ∷ []) ∷ [])))
    × (tidied (rule (codes "x") (codes "srcs") (sequence k.Call false (token c.Name (codes "glob") ∷ []) (strings (codes "\"b\"" ∷ codes "\"a\"" ∷ []) ∷ [])))
    ≡ rule (codes "x") (codes "srcs") (sequence k.Call false (token c.Name (codes "glob") ∷ []) (strings (codes "\"b\"" ∷ codes "\"a\"" ∷ []) ∷ [])))
    -- where a lambda is, loads stay in their order, and only flags are settled
    × (tidied (with_lambda true ∷ three_loads []) ≡ with_lambda false ∷ three_loads [])

-- ---- programs

-- a rule with a name alone
abbrev pub rule_named : Bytes → Item
rule_named text = statement [] (codes "x") (argument (codes "name") (string text) ∷ [])

-- a call x(name = "a", deps = [..])
abbrev named_with : Bool → List Bytes → List Expr → Item
named_with split above deps = statement above (codes "x") (argument (codes "name") (string (codes "\"a\"")) ∷ argument (codes "deps") (sequence k.List split [] deps) ∷ [])

abbrev pub WorkedPrograms : Type 0
WorkedPrograms =
    -- comments and how a list is laid out are no program
    (program (i.Block (codes "# a" ∷ []) ∷ named_with true (codes "# b" ∷ []) (commented [] (Some (codes "# c")) (codes "\"//a\"") ∷ []) ∷ []) ≡ program (named_with false [] (string (codes "\"//a\"") ∷ []) ∷ []))
    -- a name is in it as often as it is written
    × (token_times c.Name (codes "name") (program (named_with true [] [] ∷ named_with true [] [] ∷ [])) ≡ 2)
    × IsSameString (codes "'a'") (codes "\"a\"") × IsSameLabel (codes "\"//a:a\"") (codes "\"//a\"")
    -- where an argument is dropped, a statement comes, arguments without names change places, or a string outside labels gets another
    -- body, the program is not kept
    × (KeepsProgram (named_with true [] [] ∷ []) (rule_named (codes "\"a\"") ∷ []) → ⊥)
    × (KeepsProgram (named_with true [] [] ∷ []) (named_with true [] [] ∷ named_with true [] [] ∷ []) → ⊥)
    × (KeepsProgram (statement [] (codes "x") (map (token c.Name) (codes "a" ∷ codes "b" ∷ [])) ∷ [])
    (statement [] (codes "x") (map (token c.Name) (codes "b" ∷ codes "a" ∷ [])) ∷ []) → ⊥)
    × (KeepsProgram (rule_named (codes "\"a\"") ∷ []) (rule_named (codes "\"b\"") ∷ []) → ⊥)
