-- The commands in one table, by their names: what each works on, whether it prints, whether it looks at the rules that its target means, and
-- whether it leaves each comment at least as often as it occurred there.
use Rattle.std.specs.Prelude.{◌≡◌, Bool, true, false, List, [], ◌∷◌, IfOk, bytes_eq, codes}
use Rattle.std.specs.List.{AllZip, list_any}
use Rattle.bz_command.specs.Words.{Bytes, ReadCommand, commands, prints, Operation}
use Rattle.bz_command_syntax.specs.declared.command.Operation.TheVariants as w
use Rattle.bz_command.specs.Effect.{looks_at_rules}
use Rattle.bz_command.specs.Laws.{keeps_comments}

-- what a command works on: each of these has a crate of its own, that of rules aside, which is this one
abbrev pub subject_of : Operation → Bytes
subject_of (w.Rule operation) = codes "rules"
subject_of (w.Attribute operation) = codes "attributes"
subject_of (w.Value operation) = codes "values"
subject_of (w.Dict operation) = codes "dicts"
subject_of (w.Load operation) = codes "loads"
subject_of (w.Comment operation) = codes "comments"
subject_of (w.Print fields) = codes "fields"

-- a command's name, and what is known of it by its name alone: `set` and `remove` work on one of two things, as their further words say
pub record CommandRow : Type 0 where
  pub name : Bytes
  pub subjects : List Bytes
  pub is_printing : Bool
  pub is_on_rules : Bool
  pub is_keeping : Bool

abbrev row : Bytes → List Bytes → Bool → Bool → Bool → CommandRow
row name subjects printing on_rules keeping =
    record { name = name; subjects = subjects; is_printing = printing; is_on_rules = on_rules; is_keeping = keeping }

-- the table: the name, what it works on, whether it prints, whether it looks at rules, whether it loses no comment
abbrev pub command_rows : List CommandRow
command_rows =
    row (codes "new") (codes "rules" ∷ []) false false true
    ∷ row (codes "delete") (codes "rules" ∷ []) false true false
    ∷ row (codes "set") (codes "rules" ∷ codes "attributes" ∷ []) false true false
    ∷ row (codes "set_if_absent") (codes "attributes" ∷ []) false true true
    ∷ row (codes "add") (codes "values" ∷ []) false true true
    ∷ row (codes "remove") (codes "attributes" ∷ codes "values" ∷ []) false true false
    ∷ row (codes "remove_if_equal") (codes "values" ∷ []) false true false
    ∷ row (codes "replace") (codes "values" ∷ []) false true true
    ∷ row (codes "substitute") (codes "values" ∷ []) false true true
    ∷ row (codes "move") (codes "values" ∷ []) false true false
    ∷ row (codes "rename") (codes "attributes" ∷ []) false true true
    ∷ row (codes "copy") (codes "attributes" ∷ []) false true false
    ∷ row (codes "copy_no_overwrite") (codes "attributes" ∷ []) false true true
    ∷ row (codes "dict_add") (codes "dicts" ∷ []) false true true
    ∷ row (codes "dict_set") (codes "dicts" ∷ []) false true false
    ∷ row (codes "dict_remove") (codes "dicts" ∷ []) false true false
    ∷ row (codes "dict_replace_if_equal") (codes "dicts" ∷ []) false true true
    ∷ row (codes "dict_list_add") (codes "dicts" ∷ []) false true true
    ∷ row (codes "set_select") (codes "dicts" ∷ []) false true false
    ∷ row (codes "new_load") (codes "loads" ∷ []) false false true
    ∷ row (codes "replace_load") (codes "loads" ∷ []) false false true
    ∷ row (codes "substitute_load") (codes "loads" ∷ []) false false true
    ∷ row (codes "use_repo_add") (codes "loads" ∷ []) false false true
    ∷ row (codes "use_repo_remove") (codes "loads" ∷ []) false false false
    ∷ row (codes "comment") (codes "comments" ∷ []) false true true
    ∷ row (codes "print_comment") (codes "comments" ∷ []) true true true
    ∷ row (codes "remove_comment") (codes "comments" ∷ []) false true false
    ∷ row (codes "fix") (codes "loads" ∷ []) false false false
    ∷ row (codes "print") (codes "fields" ∷ []) true true true
    ∷ []

-- An operation is as a row says.
abbrev pub IsAsListed : CommandRow → Operation → Type 0
IsAsListed row operation =
    (list_any (bytes_eq (subject_of operation)) row.subjects ≡ true)
    × (prints operation ≡ row.is_printing) × (looks_at_rules operation ≡ row.is_on_rules) × (keeps_comments operation ≡ row.is_keeping)

-- What a command reads in the words after its name is as a row says, where it is an operation.
abbrev pub IsListed : Bytes × (Bytes × (List Bytes → ReadCommand)) → CommandRow → Type 0
IsListed command row = (command.0 ≡ row.name) × ((words : List Bytes) → IfOk (command.1.1 words) (IsAsListed row))

-- The commands by which texts are read are those of the table, one by one.
abbrev pub CommandsAreListed : Type 0
CommandsAreListed = AllZip IsListed commands command_rows
