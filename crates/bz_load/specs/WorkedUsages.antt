-- Worked rows: small MODULE.bazel files, and what the commands on repositories make of them.
use Rattle.std.specs.Prelude.{◌≡◌, true, false, List, [], ◌∷◌, Ok, Err, codes}
use Rattle.bz_token.specs.declared.class.Class.TheVariants as c
use Rattle.bz_grammar.specs.declared.kind.Kind.TheVariants as k
use Rattle.bz_load.specs.Words.{Expr, Item, Bytes, Repo, Usages, argument_of, mark, name, node, sequence, token}
use Rattle.bz_value.specs.declared.refusal.Refusal.TheVariants.{NameTaken, NoSource}
use Rattle.bz_value.specs.declared.value.Item.TheVariants as i
use Rattle.bz_command_syntax.specs.declared.command.Repo.TheVariants as r
use Rattle.bz_command_syntax.specs.declared.command.Usages.TheVariants as u
use Rattle.bz_load.specs.Usages.{use_repo_add, use_repo_remove}

abbrev plain : Bytes → Expr
plain text = token c.String text

abbrev called : Expr → List Expr → Expr
called function arguments = sequence k.Call (function ∷ []) arguments

-- OWN = use_extension("//:e.bzl", "e", ..)
abbrev extension : Bytes → List Expr → Item
extension own more =
    i.Stmt (node k.Assign (name own ∷ mark (codes "=") ∷ called (name (codes "use_extension")) (plain (codes "\"//:e.bzl\"") ∷ plain (codes "\"e\"") ∷ more) ∷ []))

abbrev statement : Expr → List Expr → Item
statement function arguments = i.Stmt (node k.Bare (called function arguments ∷ []))

-- use_repo(OWN, ..)
abbrev use_of : Bytes → List Expr → Item
use_of own imports = statement (name (codes "use_repo")) (name own ∷ imports)

abbrev pub WorkedUsages : Type 0
WorkedUsages =
    let x : Expr = plain (codes "\"x\"") in
    let y : Expr = plain (codes "\"y\"") in
    let z_as_n : Expr = argument_of (codes "n") (plain (codes "\"z\"")) in
    let true_of : Bytes → Expr = λ own. argument_of own (name (codes "True")) in
    let tag : Item = statement (node k.Dot (name (codes "a") ∷ mark (codes ".") ∷ name (codes "t") ∷ [])) [] in
    let other : Item = statement (name (codes "b")) [] in
    let a : Item = extension (codes "a") [] in
    let development : Item = extension (codes "d") (true_of (codes "dev_dependency") ∷ []) in
    let isolated : Item = extension (codes "i") (true_of (codes "isolate") ∷ []) in
    let meant : Usages = u.Extension false (codes "//:e.bzl") (codes "e") in
    let want_x : List Repo = r.Plain (codes "x") ∷ [] in
    -- into the last call for the first variable; a string after the positional arguments, NAME = "REPO" last
    (use_repo_add [] meant (r.Plain (codes "y") ∷ r.Named (codes "n") (codes "z") ∷ []) (a ∷ use_of (codes "a") [] ∷ use_of (codes "a") (x ∷ []) ∷ other ∷ [])
    ≡ Ok (a ∷ use_of (codes "a") [] ∷ use_of (codes "a") (x ∷ y ∷ z_as_n ∷ []) ∷ other ∷ []))
    × (use_repo_add [] meant want_x (a ∷ use_of (codes "a") (z_as_n ∷ []) ∷ []) ≡ Ok (a ∷ use_of (codes "a") (x ∷ z_as_n ∷ []) ∷ []))
    -- without a call a new one, after the last statement of the variable
    × (use_repo_add [] meant want_x (a ∷ tag ∷ other ∷ []) ≡ Ok (a ∷ tag ∷ use_of (codes "a") (x ∷ []) ∷ other ∷ []))
    -- what is imported is passed over, under another name or by another usage
    × (use_repo_add [] meant (r.Plain (codes "z") ∷ []) (a ∷ use_of (codes "a") (z_as_n ∷ []) ∷ []) ≡ Ok (a ∷ use_of (codes "a") (z_as_n ∷ []) ∷ []))
    × (use_repo_add [] meant want_x (a ∷ extension (codes "c") [] ∷ use_of (codes "c") (x ∷ []) ∷ []) ≡ Ok (a ∷ extension (codes "c") [] ∷ use_of (codes "c") (x ∷ []) ∷ []))
    -- another repository has the name
    × (use_repo_add [] meant (r.Named (codes "n") (codes "x") ∷ []) (a ∷ use_of (codes "a") (z_as_n ∷ []) ∷ []) ≡ Err NameTaken)
    -- of the usages that are no development ones, isolated or not by the variable's name alone
    × (use_repo_add [] meant want_x (development ∷ isolated ∷ []) ≡ Err NoSource)
    × (use_repo_add [] (u.Extension true (codes "//:e.bzl") (codes "e")) want_x (a ∷ development ∷ []) ≡ Ok (a ∷ development ∷ use_of (codes "d") (x ∷ []) ∷ []))
    × (use_repo_add [] (u.Variable (codes "i")) want_x (a ∷ isolated ∷ []) ≡ Ok (a ∷ isolated ∷ use_of (codes "i") (x ∷ []) ∷ []))
    -- A call that loses its last repository goes, one without any stays.
    × (use_repo_remove [] meant want_x (a ∷ use_of (codes "a") (x ∷ []) ∷ use_of (codes "a") (y ∷ x ∷ []) ∷ use_of (codes "a") [] ∷ []) ≡ Ok (a ∷ use_of (codes "a") (y ∷ []) ∷ use_of (codes "a") [] ∷ []))
    -- NAME=REPO is meant under that name alone
    × (use_repo_remove [] meant (r.Named (codes "m") (codes "z") ∷ []) (a ∷ use_of (codes "a") (z_as_n ∷ []) ∷ []) ≡ Ok (a ∷ use_of (codes "a") (z_as_n ∷ []) ∷ []))
    × (use_repo_remove [] meant (r.Plain (codes "z") ∷ []) (a ∷ use_of (codes "a") (z_as_n ∷ x ∷ []) ∷ []) ≡ Ok (a ∷ use_of (codes "a") (x ∷ []) ∷ []))
    × (use_repo_remove [] (u.Variable (codes "b")) want_x (a ∷ other ∷ []) ≡ Err NoSource)
