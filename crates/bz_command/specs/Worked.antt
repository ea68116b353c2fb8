-- Worked rows: what each command, as it is typed, makes of small file values in the package `p`, and prints of them.
use Rattle.std.specs.Prelude.{◌≡◌, List, [], ◌∷◌, ◌++◌, Option, Some, None, Result, Ok, Err, codes, map, option_map}
use Rattle.std.specs.Result.{result_ok}
use Rattle.bz_token.specs.declared.class.Class.TheVariants as c
use Rattle.bz_command.specs.Words.{Kind, Target, Which, Expr, Item, Refusal, HostComments, with_comments, Bytes, command_of, token, node, sequence, name, mark, list_of, argument_of}
use Rattle.bz_grammar.specs.declared.kind.Kind.TheVariants as k
use Rattle.bz_label.specs.declared.target.Which.TheVariants.{All, Kind as OfKind, Line, Name, Package}
use Rattle.bz_value.specs.declared.value.Item.TheVariants as i
use Rattle.bz_value.specs.declared.refusal.Refusal.TheVariants.{AttributeExists, NameTaken, NoSource, NoTarget, NotADict, NotAList}
use Rattle.bz_command_syntax.specs.Patterns.{substituted}
use Rattle.bz_command_syntax.specs.declared.profile.Profile.{Profile}
use Rattle.bz_command_syntax.specs.declared.profile.Profile.TheVariants.{Own, Bazelbuild}
use Rattle.bz_command.specs.Effect.{effect, printed}

-- ---- small values

-- "TEXT", NAME = "TEXT" and NAME = ["TEXT", ..]
abbrev pub string : Bytes → Expr
string text = token c.String (codes "\"" ++ text ++ codes "\"")

abbrev assigned : Bytes → Bytes → Expr
assigned attribute text = argument_of attribute (string text)

abbrev listed : Bytes → List Bytes → Expr
listed attribute texts = argument_of attribute (list_of (map string texts))

-- LEFT SIGN RIGHT
abbrev binary : Kind → Expr → Bytes → Expr → Expr
binary kind left sign right = node kind (left ∷ mark sign ∷ right ∷ [])

abbrev call : Expr → List Expr → Expr
call function arguments = sequence k.Call (function ∷ []) arguments

abbrev statement : Expr → Item
statement x = i.Stmt (node k.Bare (x ∷ []))

-- KIND(name = NAME, ..), f(name = "x", ..), g(name = "y", ..), package() and a comment on its own
abbrev rule_of : Bytes → Bytes → List Expr → Item
rule_of kind own arguments = statement (call (name kind) (assigned (codes "name") own ∷ arguments))

abbrev x : List Expr → Item
x arguments = rule_of (codes "f") (codes "x") arguments

abbrev y : List Expr → Item
y arguments = rule_of (codes "g") (codes "y") arguments

abbrev settings : Item
settings = statement (call (name (codes "package")) [])

abbrev block : Item
block = i.Block (codes "# b" ∷ [])

-- size = "small", size = "large", deps = ["TEXT", ..], **rest and env = {KEY: VALUE, ..}
abbrev small : Expr
small = assigned (codes "size") (codes "small")

abbrev large : Expr
large = assigned (codes "size") (codes "large")

abbrev deps : List Bytes → Expr
deps texts = listed (codes "deps") texts

abbrev rest : Expr
rest = node k.Star (mark (codes "**") ∷ name (codes "rest") ∷ [])

abbrev env : List (Bytes × Bytes) → Expr
env entries = argument_of (codes "env") (sequence k.Dict [] (map (λ entry. binary k.Entry (string entry.0) (codes ":") (string entry.1)) entries))

-- env = {ENTRY, ..}, and select({ENTRY, ..})
abbrev dict : List Expr → Expr
dict entries = argument_of (codes "env") (sequence k.Dict [] entries)

abbrev selected : List Expr → Expr
selected entries = call (name (codes "select")) (sequence k.Dict [] entries ∷ [])

-- v = use_extension("//:e.bzl", "e"), and use_repo(v, "REPO", ..)
abbrev usage : Item
usage = i.Stmt (node k.Assign (name (codes "v") ∷ mark (codes "=") ∷ call (name (codes "use_extension")) (string (codes "//:e.bzl") ∷ string (codes "e") ∷ []) ∷ []))

abbrev imports : List Bytes → Item
imports repos = statement (call (name (codes "use_repo")) (name (codes "v") ∷ map string repos))

-- load("PATH", "SYMBOL", ..), and load("//:d.bzl", "SYMBOL", ..)
abbrev load_from : Expr → List Bytes → Item
load_from path symbols = i.Stmt (sequence k.Load (token c.Keyword (codes "load") ∷ []) (path ∷ map string symbols))

abbrev load : List Bytes → Item
load symbols = load_from (string (codes "//:d.bzl")) symbols

-- "# c" above, and "#  s" at the end of the line
abbrev noted : HostComments
noted = record { before = codes "# c" ∷ []; suffix = Some (codes "#  s") }

-- ---- commands as they are typed, where statements begin on lines 1 to 3

-- what one gives, or with what it is refused; a text that is no command does neither
abbrev pub TypedAnswer : Type 0 → Type 0
TypedAnswer X = Option (Result X Refusal)

abbrev gives : {X : Type 0} → X → TypedAnswer X
gives x = Some (Ok x)

abbrev refuses : {X : Type 0} → Refusal → TypedAnswer X
refuses refusal = Some (Err refusal)

abbrev target : Which → Target
target which = record { «package» = codes "p"; which = which }

-- What the command of a text makes of a file, and what it prints of it.
abbrev made : Bytes → Which → List Item → TypedAnswer (List Item)
made text which items = option_map (λ operation. effect operation (target which) (codes "p") (1 ∷ 2 ∷ 3 ∷ []) items) (result_ok (command_of Own text))

-- the same of what it prints, as it is read in a profile, of a file of this package
abbrev shown_in : Profile → Bytes → Bytes → Which → List Item → TypedAnswer Bytes
shown_in profile current text which items =
    option_map (λ operation. printed operation (target which) current (1 ∷ 2 ∷ 3 ∷ []) items) (result_ok (command_of profile text))

abbrev shown : Bytes → Which → List Item → TypedAnswer Bytes
shown text which items = shown_in Own (codes "p") text which items

-- What it makes of f(name = "x", ..) alone, by its further arguments.
abbrev done : Bytes → List Expr → TypedAnswer (List Item)
done text arguments = made text (Name (codes "x")) (x arguments ∷ [])

abbrev pub leaves : List Expr → TypedAnswer (List Item)
leaves arguments = gives (x arguments ∷ [])

-- ---- the rules that a target means, by `delete`

abbrev pub WorkedEffects : Type 0
WorkedEffects =
    -- every rule of the name goes; where there is none the command is refused
    (made (codes "delete") (Name (codes "x")) (x [] ∷ block ∷ y [] ∷ x [] ∷ []) ≡ gives (block ∷ y [] ∷ []))
    × (made (codes "delete") (Name (codes "z")) (x [] ∷ block ∷ []) ≡ refuses NoTarget)
    -- all rules, and those of a kind; where there is none the file stays
    × (made (codes "delete") All (x [] ∷ block ∷ y [] ∷ []) ≡ gives (block ∷ []))
    × (made (codes "delete") (OfKind (codes "g")) (x [] ∷ y [] ∷ []) ≡ gives (x [] ∷ []))
    × (made (codes "delete") (OfKind (codes "h")) (x [] ∷ y [] ∷ []) ≡ gives (x [] ∷ y [] ∷ []))
    -- the one on a line: a comment on its own is on none
    × (made (codes "delete") (Line 2) (x [] ∷ block ∷ y [] ∷ []) ≡ gives (x [] ∷ block ∷ []))
    -- the first rule of kind `package` alone
    × (made (codes "delete") Package (settings ∷ x [] ∷ settings ∷ []) ≡ gives (x [] ∷ settings ∷ []))

-- ---- what each command does

abbrev Rules : Type 0
Rules =
    -- A new rule goes to the end, or beside the first rule of a name. The command looks at no rule that the target means.
    (made (codes "new g y") (Name (codes "z")) (x [] ∷ block ∷ []) ≡ gives (x [] ∷ block ∷ y [] ∷ []))
    × (made (codes "new g y after x") All (block ∷ x [] ∷ x [] ∷ []) ≡ gives (block ∷ x [] ∷ y [] ∷ x [] ∷ []))
    -- There is no rule of that name, which is reported before a name that is taken.
    × (made (codes "new g x after z") All (x [] ∷ []) ≡ refuses NoTarget)
    × (made (codes "new g x") All (x [] ∷ []) ≡ refuses NameTaken)
    -- `__pkg__` is the first rule of that name, else the first one of kind `package`.
    × (made (codes "new g y before __pkg__") All (x [] ∷ settings ∷ settings ∷ []) ≡ gives (x [] ∷ y [] ∷ settings ∷ settings ∷ []))
    × (made (codes "new g y after __pkg__") All (settings ∷ rule_of (codes "f") (codes "__pkg__") [] ∷ []) ≡ gives (settings ∷ rule_of (codes "f") (codes "__pkg__") [] ∷ y [] ∷ []))
    × (made (codes "new g y after __pkg__") All (x [] ∷ []) ≡ refuses NoTarget)
    -- The rule is of another kind; its name and its other arguments stay.
    × (done (codes "set kind g") (small ∷ []) ≡ gives (rule_of (codes "g") (codes "x") (small ∷ []) ∷ []))

abbrev Attributes : Type 0
Attributes =
    -- One that is there gets the value in its place; a new one goes last, but before what is starred.
    (done (codes "set size small") (large ∷ deps [] ∷ []) ≡ leaves (small ∷ deps [] ∷ []))
    × (done (codes "set deps //p:a b") (small ∷ rest ∷ []) ≡ leaves (small ∷ deps (codes ":a" ∷ codes "b" ∷ []) ∷ rest ∷ []))
    × (done (codes "set_if_absent size small") (large ∷ []) ≡ leaves (large ∷ []))
    -- Of two of one name the first goes. By a star all go but the name; what is starred is none.
    × (done (codes "remove size") (small ∷ large ∷ []) ≡ leaves (large ∷ []))
    × (done (codes "remove *") (small ∷ deps [] ∷ rest ∷ []) ≡ leaves (rest ∷ []))
    -- It keeps its place and its value; the new name may be taken.
    × (done (codes "rename size timeout") (small ∷ deps [] ∷ []) ≡ leaves (assigned (codes "timeout") (codes "small") ∷ deps [] ∷ []))
    × (done (codes "rename size deps") (small ∷ deps [] ∷ []) ≡ refuses AttributeExists)
    -- The value is that of the first rule y, which may lack it.
    × (made (codes "copy size y") (Name (codes "x")) (y (large ∷ []) ∷ x [] ∷ y [] ∷ []) ≡ gives (y (large ∷ []) ∷ x (large ∷ []) ∷ y [] ∷ []))
    × (made (codes "copy size y") (Name (codes "x")) (y [] ∷ x (small ∷ []) ∷ y (large ∷ []) ∷ []) ≡ refuses NoSource)
    -- Where the attribute is there nothing is required of the other rule.
    × (done (codes "copy_no_overwrite size z") (small ∷ []) ≡ leaves (small ∷ []))

abbrev Values : Type 0
Values =
    -- Values go to the end of the list in their short form, but for what means a value that is there.
    (done (codes "add deps //p:a :b //q:q") (deps (codes ":a" ∷ []) ∷ []) ≡ leaves (deps (codes ":a" ∷ codes ":b" ∷ codes "//q" ∷ []) ∷ []))
    × (done (codes "add size a") (small ∷ []) ≡ refuses NotAList)
    -- All go that mean the value, and with the last one the attribute.
    × (done (codes "remove deps a") (deps (codes ":a" ∷ codes ":b" ∷ codes "//p:a" ∷ []) ∷ []) ≡ leaves (deps (codes ":b" ∷ []) ∷ []))
    × (done (codes "remove deps :a") (deps (codes ":a" ∷ []) ∷ small ∷ []) ≡ leaves (small ∷ []))
    -- From all attributes but the name; one without a list stays.
    × (done (codes "remove * a x") (small ∷ deps (codes ":a" ∷ codes ":b" ∷ []) ∷ listed (codes "tags") (codes "a" ∷ []) ∷ listed (codes "copts") (codes ":a" ∷ []) ∷ rest ∷ [])
    ≡ leaves (small ∷ deps (codes ":b" ∷ []) ∷ listed (codes "copts") (codes ":a" ∷ []) ∷ rest ∷ []))
    -- The attribute goes where it is the value: a string that means it, or a number; another one stays, and so does a list.
    × (done (codes "remove_if_equal size small") (small ∷ large ∷ []) ≡ leaves (large ∷ []))
    × (done (codes "remove_if_equal size small") (large ∷ small ∷ []) ≡ leaves (large ∷ small ∷ []))
    × (done (codes "remove_if_equal size 5") (argument_of (codes "size") (token c.Number (codes "5")) ∷ []) ≡ leaves [])
    × (done (codes "remove_if_equal deps :a") (deps (codes ":a" ∷ []) ∷ []) ≡ leaves (deps (codes ":a" ∷ []) ∷ []))
    × (done (codes "remove_if_equal size small") [] ≡ leaves [])
    -- Each that means the old value becomes the new one, in all attributes but the name.
    × (done (codes "replace * x y") (assigned (codes "size") (codes "x") ∷ listed (codes "tags") (codes "x" ∷ codes "z" ∷ []) ∷ [])
    ≡ leaves (assigned (codes "size") (codes "y") ∷ listed (codes "tags") (codes "y" ∷ codes "z" ∷ []) ∷ []))
    -- What a pattern makes of a text is a premise.
    × ((substituted (codes "l") (codes "n") (codes ":l") ≡ codes ":n") → done (codes "substitute deps l n") (deps (codes ":l" ∷ []) ∷ []) ≡ leaves (deps (codes ":n" ∷ []) ∷ []))
    -- A value goes to another attribute, which is made where it is absent.
    × (done (codes "move deps runtime_deps :a") (deps (codes ":a" ∷ codes ":b" ∷ []) ∷ small ∷ [])
    ≡ leaves (deps (codes ":b" ∷ []) ∷ small ∷ listed (codes "runtime_deps") (codes ":a" ∷ []) ∷ []))

abbrev Dicts : Type 0
Dicts =
    -- The key ends at the first colon. A key that is there keeps its value, or gets this one in its place; a new entry goes last.
    (done (codes "dict_add env A:3 B:x:y") (env ((codes "A", codes "1") ∷ []) ∷ []) ≡ leaves (env ((codes "A", codes "1") ∷ (codes "B", codes "x:y") ∷ []) ∷ []))
    × (done (codes "dict_set env A:3 B:2") (env ((codes "A", codes "1") ∷ []) ∷ []) ≡ leaves (env ((codes "A", codes "3") ∷ (codes "B", codes "2") ∷ []) ∷ []))
    × (done (codes "dict_set env A:1") (listed (codes "env") [] ∷ []) ≡ refuses NotADict)
    -- All entries of the key go, and with the last one the attribute.
    × (done (codes "dict_remove env A") (env ((codes "A", codes "1") ∷ (codes "B", codes "2") ∷ (codes "A", codes "3") ∷ []) ∷ []) ≡ leaves (env ((codes "B", codes "2") ∷ []) ∷ []))
    × (done (codes "dict_remove env A") (env ((codes "A", codes "1") ∷ []) ∷ small ∷ []) ≡ leaves (small ∷ []))
    -- The value of the first entry of the key becomes another one, where it is this one.
    × (done (codes "dict_replace_if_equal env A 1 2") (env ((codes "A", codes "1") ∷ (codes "A", codes "1") ∷ []) ∷ []) ≡ leaves (env ((codes "A", codes "2") ∷ (codes "A", codes "1") ∷ []) ∷ []))
    × (done (codes "dict_replace_if_equal env A 1 2") (dict (binary k.Entry (string (codes "A")) (codes ":") (token c.Number (codes "1")) ∷ []) ∷ [])
    ≡ leaves (dict (binary k.Entry (string (codes "A")) (codes ":") (token c.Number (codes "2")) ∷ []) ∷ []))
    × (done (codes "dict_replace_if_equal env A 3 2") (env ((codes "A", codes "1") ∷ []) ∷ []) ≡ leaves (env ((codes "A", codes "1") ∷ []) ∷ []))
    × (done (codes "dict_replace_if_equal env B 1 2") (env ((codes "A", codes "1") ∷ []) ∷ []) ≡ leaves (env ((codes "A", codes "1") ∷ []) ∷ []))
    × (done (codes "dict_replace_if_equal size A 1 2") (small ∷ []) ≡ refuses NotADict)
    × (done (codes "dict_replace_if_equal env A 1 2") [] ≡ leaves [])
    -- Values go to the list of the key, but for those that are there; a new entry, and a new attribute, where that is absent.
    × (done (codes "dict_list_add env A b a") (dict (binary k.Entry (string (codes "A")) (codes ":") (list_of (string (codes "a") ∷ [])) ∷ []) ∷ [])
    ≡ leaves (dict (binary k.Entry (string (codes "A")) (codes ":") (list_of (string (codes "a") ∷ string (codes "b") ∷ [])) ∷ []) ∷ []))
    × (done (codes "dict_list_add env A a a") [] ≡ leaves (dict (binary k.Entry (string (codes "A")) (codes ":") (list_of (string (codes "a") ∷ [])) ∷ []) ∷ []))
    × (done (codes "dict_list_add env A a") (env ((codes "A", codes "1") ∷ []) ∷ []) ≡ refuses NotAList)
    × (done (codes "dict_list_add size A a") (small ∷ []) ≡ refuses NotADict)
    -- A `select`; a key that comes again has the later value, and in a list attribute both.
    × (done (codes "set_select size //c:x small //c:x 5") (large ∷ [])
    ≡ leaves (argument_of (codes "size") (selected (binary k.Entry (string (codes "//c:x")) (codes ":") (token c.Number (codes "5")) ∷ [])) ∷ []))
    × (done (codes "set_select deps //c:x //p:a //c:x b") []
    ≡ leaves (argument_of (codes "deps") (selected (binary k.Entry (string (codes "//c:x")) (codes ":") (list_of (string (codes ":a") ∷ string (codes "b") ∷ [])) ∷ [])) ∷ []))
    × (made (codes "set_select size //c:x small") (Name (codes "z")) (x [] ∷ []) ≡ refuses NoTarget)

-- These look at no rule that the target means.
abbrev Loads : Type 0
Loads =
    -- A new load goes after the comments at the top of the file, a further symbol to the end of the first load of the path.
    (made (codes "new_load //:d.bzl a") (Name (codes "z")) (block ∷ x [] ∷ []) ≡ gives (block ∷ load (codes "a" ∷ []) ∷ x [] ∷ []))
    × (made (codes "new_load //:d.bzl a b") All (load (codes "a" ∷ []) ∷ x [] ∷ load [] ∷ []) ≡ gives (load (codes "a" ∷ codes "b" ∷ []) ∷ x [] ∷ load [] ∷ []))
    -- A symbol leaves the other loads, and a load that loses its last one goes.
    × (made (codes "replace_load //:d.bzl a") (Name (codes "z")) (load_from (string (codes "b")) (codes "a" ∷ []) ∷ x [] ∷ load (codes "b" ∷ []) ∷ []) ≡ gives (x [] ∷ load (codes "b" ∷ codes "a" ∷ []) ∷ []))
    -- The path of each load has another text; what a pattern makes of it is a premise.
    × ((substituted (codes "d") (codes "e") (codes "//:d.bzl") ≡ codes "//:e.bzl")
    → made (codes "substitute_load d e") (Name (codes "z")) (load (codes "a" ∷ []) ∷ x [] ∷ []) ≡ gives (load_from (string (codes "//:e.bzl")) (codes "a" ∷ []) ∷ x [] ∷ []))
    -- The rule x uses the symbol f alone; the package goes to the top.
    × (made (codes "fix") All (load (codes "a" ∷ codes "f" ∷ []) ∷ x [] ∷ settings ∷ []) ≡ gives (load (codes "f" ∷ []) ∷ settings ∷ x [] ∷ []))
    -- Repositories of a usage, by its file and extension or by its variable; there is no usage of another one.
    × (made (codes "use_repo_add //:e.bzl e r") (Name (codes "z")) (usage ∷ x [] ∷ []) ≡ gives (usage ∷ imports (codes "r" ∷ []) ∷ x [] ∷ []))
    × (made (codes "use_repo_remove v r") All (usage ∷ imports (codes "r" ∷ []) ∷ []) ≡ gives (usage ∷ []))
    × (made (codes "use_repo_add e r") All (usage ∷ []) ≡ refuses NoSource)

abbrev Comments : Type 0
Comments =
    -- A comment goes above the attribute, or above the rule, right above it where others are there; the one at the end of the line stays.
    (done (codes "comment size d") (with_comments small noted ∷ []) ≡ leaves (with_comments small (record noted { before = codes "# c" ∷ codes "# d" ∷ [] }) ∷ []))
    × (made (codes "comment c\\ d") All (statement (string (codes "s")) ∷ settings ∷ [])
    ≡ gives (statement (string (codes "s")) ∷ i.Stmt (with_comments (node k.Bare (call (name (codes "package")) [] ∷ [])) (record { before = codes "# c d" ∷ []; suffix = None })) ∷ []))
    × (done (codes "remove_comment size") (with_comments small noted ∷ []) ≡ leaves (small ∷ []))
    -- One a line, without the sign and one space after it; the file stays.
    × (shown (codes "print_comment size") All (x (with_comments small noted ∷ []) ∷ block ∷ []) ≡ gives (codes "c\n s\n"))
    × (done (codes "print_comment size") (with_comments small noted ∷ []) ≡ leaves (with_comments small noted ∷ []))

abbrev Prints : Type 0
Prints =
    -- The fields of a rule are on one line in the order in which they are named, of all rules in their order; without a field the name and the kind.
    (shown (codes "print size name deps") All (x (small ∷ deps (codes ":a" ∷ codes ":b" ∷ []) ∷ []) ∷ block ∷ y [] ∷ []) ≡ gives (codes "small x [:a :b]\n(missing) y (missing)\n"))
    × (shown (codes "print") All (x [] ∷ settings ∷ []) ≡ gives (codes "x f\n(missing) package\n"))
    -- A comment on its own is no statement. Of a fourth one no line is known here.
    × (shown (codes "print startline name") All (x [] ∷ block ∷ settings ∷ x [] ∷ y [] ∷ []) ≡ gives (codes "1 x\n2 (missing)\n3 x\n(missing) y\n"))
    -- The label of a rule, of one without a name, and of one in the root's package.
    × (shown_in Bazelbuild (codes "p/q") (codes "print label kind") All (x [] ∷ settings ∷ []) ≡ gives (codes "//p/q:x f\n(missing) package\n"))
    × (shown_in Bazelbuild [] (codes "print label") All (x [] ∷ []) ≡ gives (codes "//:x\n"))
    -- No rule is meant: nothing is printed, and the command is refused where it names one.
    × (shown (codes "print") (Name (codes "z")) (x [] ∷ []) ≡ gives [])
    × (made (codes "print") (Name (codes "z")) (x [] ∷ []) ≡ refuses NoTarget)

abbrev pub WorkedCommandEffects : Type 0
WorkedCommandEffects = Rules × Attributes × Values × Dicts × Loads × Comments × Prints
