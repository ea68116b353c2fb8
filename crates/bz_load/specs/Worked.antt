-- Worked rows: small files, and what the commands on loads make of them.
use Rattle.std.specs.Prelude.{◌≡◌, true, false, List, [], ◌∷◌, Some, codes}
use Rattle.bz_token.specs.declared.class.Class.TheVariants as c
use Rattle.bz_grammar.specs.declared.kind.Kind.TheVariants as k
use Rattle.bz_load.specs.Words.{Expr, Item, Bytes, Symbol, Fixes, substituted, token, node, sequence, name, mark}
use Rattle.bz_value.specs.declared.value.Expr.TheVariants as e
use Rattle.bz_value.specs.declared.value.Item.TheVariants as i
use Rattle.bz_load.specs.NewLoad.{new_load}
use Rattle.bz_load.specs.ReplaceLoad.{replace_load}
use Rattle.bz_load.specs.SubstituteLoad.{substitute_load}
use Rattle.bz_load.specs.Fixes.{unused_loads, move_package_to_top, fix}

abbrev plain : Bytes → Expr
plain text = token c.String text

abbrev load : List Expr → Item
load items = i.Stmt (sequence k.Load (token c.Keyword (codes "load") ∷ []) items)

abbrev call : Bytes → Item
call kind = i.Stmt (node k.Bare (sequence k.Call (name kind ∷ []) [] ∷ []))

-- a string with a comment after it
abbrev noted : Bytes → Expr
noted text = e.Token (record { class = c.String; text = text; line_break = false; comments = record { before = []; suffix = Some (codes "# c") } })

-- a function, and a statement in it
abbrev function : Bytes → List Expr → Expr → Item
function own parameters statement = i.Stmt (sequence k.Suite (sequence k.Def (token c.Keyword (codes "def") ∷ name own ∷ []) parameters ∷ []) (statement ∷ []))

abbrev both : Fixes
both = record { move_package_to_top = true; unused_loads = true }

abbrev pub WorkedLoads : Type 0
WorkedLoads =
    let path : Expr = plain (codes "\"a.bzl\"") in
    let a : Expr = plain (codes "\"a\"") in
    let b : Expr = plain (codes "\"b\"") in
    let alias : Expr = node k.Alias (name (codes "y") ∷ mark (codes "=") ∷ plain (codes "\"z\"") ∷ []) in
    let asked : List Symbol = record { to = codes "a"; from = codes "a" } ∷ record { to = codes "y"; from = codes "z" } ∷ [] in
    let made : Item = load (path ∷ a ∷ alias ∷ []) in
    let one : Item = load (path ∷ a ∷ []) in
    let other : Item = load (plain (codes "\"b.bzl\"") ∷ b ∷ []) in
    let two : Item = load (path ∷ a ∷ b ∷ []) in
    let pass : Expr = node k.Flow (token c.Keyword (codes "pass") ∷ []) in
    let returned : Expr = node k.Return (token c.Keyword (codes "return") ∷ node k.Lambda (token c.Keyword (codes "lambda") ∷ name (codes "b") ∷ mark (codes ":") ∷ name (codes "a") ∷ []) ∷ []) in
    let block : Item = i.Block (codes "# b" ∷ []) in
    let rule : Item = call (codes "a") in
    let settings : Item = call (codes "package") in
    -- a symbol that isn't loaded goes to the end of the first load from the path; without one a new load goes after the last load
    (new_load (codes "a.bzl") asked (rule ∷ one ∷ one ∷ []) ≡ rule ∷ made ∷ one ∷ [])
    × (new_load (codes "a.bzl") asked (block ∷ other ∷ rule ∷ other ∷ rule ∷ []) ≡ block ∷ other ∷ rule ∷ other ∷ made ∷ rule ∷ [])
    -- a symbol that is used or has a comment stays, a load that loses its last symbol goes
    × (unused_loads (load (path ∷ a ∷ b ∷ noted (codes "\"c\"") ∷ alias ∷ []) ∷ other ∷ rule ∷ []) ≡ load (path ∷ a ∷ noted (codes "\"c\"") ∷ []) ∷ rule ∷ [])
    -- A default value is a use, and what is in a suite and the value of a lambda; the names of functions and parameters are none.
    × (unused_loads (two ∷ function (codes "b") (name (codes "b") ∷ node k.Param (name (codes "b") ∷ mark (codes "=") ∷ name (codes "a") ∷ []) ∷ []) pass ∷ []) ≡ one ∷ function (codes "b") (name (codes "b") ∷ node k.Param (name (codes "b") ∷ mark (codes "=") ∷ name (codes "a") ∷ []) ∷ []) pass ∷ [])
    × (unused_loads (two ∷ function (codes "f") [] returned ∷ []) ≡ one ∷ function (codes "f") [] returned ∷ [])
    × (move_package_to_top (settings ∷ one ∷ rule ∷ other ∷ rule ∷ []) ≡ one ∷ rule ∷ other ∷ settings ∷ rule ∷ [])
    -- The package goes after the last load, which goes; the next time it goes after the load that is the last one then.
    × (fix both (one ∷ rule ∷ other ∷ settings ∷ []) ≡ one ∷ rule ∷ settings ∷ [])
    × (fix both (one ∷ rule ∷ settings ∷ []) ≡ one ∷ settings ∷ rule ∷ [])
    -- Each match in the path of a load is replaced, and nothing else; loads that come to one path stay two.
    × ((substituted (codes "a") (codes "b") (codes "a.bzl") ≡ codes "b.bzl") → (substituted (codes "a") (codes "b") (codes "b.bzl") ≡ codes "b.bzl")
    → substitute_load (codes "a") (codes "b") (block ∷ load (noted (codes "\"a.bzl\"") ∷ a ∷ alias ∷ []) ∷ other ∷ rule ∷ []) ≡ block ∷ load (noted (codes "\"b.bzl\"") ∷ a ∷ alias ∷ []) ∷ other ∷ rule ∷ [])
    -- A path whose body stays is written as it was; one that is no plain string is passed over, and a load without a path.
    × ((substituted (codes "a") (codes "b") (codes "b.bzl") ≡ codes "b.bzl")
    → substitute_load (codes "a") (codes "b") (load (plain (codes "'b.bzl'") ∷ a ∷ []) ∷ load (plain (codes "r\"a.bzl\"") ∷ a ∷ []) ∷ load [] ∷ [])
    ≡ load (plain (codes "'b.bzl'") ∷ a ∷ []) ∷ load (plain (codes "r\"a.bzl\"") ∷ a ∷ []) ∷ load [] ∷ [])

-- a string with a comment above it and one after it
abbrev said : Bytes → Bytes → Bytes → Expr
said text above after = e.Token (record { class = c.String; text = text; line_break = false; comments = record { before = above ∷ []; suffix = Some after } })

-- a load with a comment above it, one at its end and one after it
abbrev said_load : List Expr → Item
said_load items =
    i.Stmt (e.Form (record { kind = k.Load; parts = token c.Keyword (codes "load") ∷ []; seq = record { items = items; end = codes "# end" ∷ []; split = false }; open_break = false; comments = record { before = codes "# why" ∷ []; suffix = Some (codes "# tail") } }))

abbrev pub WorkedReplacements : Type 0
WorkedReplacements =
    let path : Expr = plain (codes "\"a.bzl\"") in
    -- no plain string
    let other_path : Expr = plain (codes "r\"b.bzl\"") in
    let a : Expr = plain (codes "\"a\"") in
    let b : Expr = plain (codes "\"b\"") in
    let x : Expr = plain (codes "\"x\"") in
    let alias : Expr = node k.Alias (name (codes "x") ∷ mark (codes "=") ∷ plain (codes "\"q\"") ∷ []) in
    let asked : List Symbol = record { to = codes "x"; from = codes "x" } ∷ [] in
    let twice : List Symbol = record { to = codes "x"; from = codes "x" } ∷ record { to = codes "b"; from = codes "b" } ∷ record { to = codes "x"; from = codes "q" } ∷ [] in
    let rule : Item = call (codes "a") in
    -- the comments of a load that goes are above the symbol with which it goes, those at its end above the suffix of the symbol
    (replace_load (codes "a.bzl") asked (said_load (said (codes "\"x.bzl\"") (codes "# o") (codes "# p") ∷ said (codes "\"x\"") (codes "# m") (codes "# s") ∷ []) ∷ rule ∷ [])
    ≡ load (path ∷ e.Token (record { class = c.String; text = codes "\"x\""; line_break = false; comments = record { before = codes "# why" ∷ codes "# o" ∷ codes "# p" ∷ codes "# m" ∷ codes "# end" ∷ codes "# tail" ∷ []; suffix = Some (codes "# s") } }) ∷ []) ∷ rule ∷ [])
    -- another symbol that the load from the path has under that name goes too
    × (replace_load (codes "a.bzl") asked (load (path ∷ alias ∷ []) ∷ []) ≡ load (path ∷ x ∷ []) ∷ [])
    -- a new load is where the last one was before it went
    × (replace_load (codes "a.bzl") asked (rule ∷ load (other_path ∷ x ∷ []) ∷ rule ∷ []) ≡ rule ∷ load (path ∷ x ∷ []) ∷ rule ∷ [])
    -- a symbol that is loaded so already stays, and takes the comments of the other one
    × (replace_load (codes "a.bzl") asked (load (path ∷ x ∷ b ∷ []) ∷ load (other_path ∷ said (codes "\"x\"") (codes "# m") (codes "# s") ∷ a ∷ []) ∷ []) ≡ load (path ∷ said (codes "\"x\"") (codes "# m") (codes "# s") ∷ b ∷ []) ∷ load (other_path ∷ a ∷ []) ∷ [])
    -- of two symbols with one local name the later one is loaded
    × (replace_load (codes "a.bzl") twice (load (other_path ∷ x ∷ []) ∷ rule ∷ []) ≡ load (path ∷ b ∷ alias ∷ []) ∷ rule ∷ [])
