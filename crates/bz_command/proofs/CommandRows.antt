-- What each command reads in its words is as the table says.
use Rattle.bz_command.proofs.Words.{[], ◌∷◌, ◌≡◌, AttributeOperation as wa, by_test, Bytes, CommentOperation as wc, DictOperation as wd, false, get_or, IfOk, List, LoadOperation as wl, None, Operation, Operation as w, Option, option_and_then, refl, RuleOperation as wr, Some, ValueOperation as wv, ℕ}
use Rattle.bz_command_syntax.specs.Commands as c
use Rattle.bz_command_syntax.specs.declared.command.Selects.TheVariants.{Skipped}
use Rattle.bz_command.specs.Table.{CommandRow, command_rows, IsAsListed, CommandsAreListed}

-- a row of the table by its place
abbrev row_at : ℕ → CommandRow
row_at place = get_or command_rows place (record { name = []; subjects = []; is_printing = false; is_on_rules = false; is_keeping = false })

-- what a command reads is as its row says
abbrev ReadsAsListed : CommandRow → c.ReadCommand → Type 0
ReadsAsListed row read = IfOk read (IsAsListed row)

-- the row of a command before others; all of it is computed
listed : {A B : Type 0} (row : CommandRow) → A → B → ((row.name ≡ row.name) × A) × B
listed row first rest = ((refl, first), rest)

made_listed : {X : Type 0} (row : CommandRow) (make : X → Operation) (o : Option X) → ((x : X) → IsAsListed row (make x)) → ReadsAsListed row (c.operation_of make o)
made_listed row make (Some x) h = h x
made_listed row make None h = tt

form_listed : {X : Type 0} (row : CommandRow) (make : X → Operation) (form : List Bytes → Option X) → ((x : X) → IsAsListed row (make x))
    → (words : List Bytes) → ReadsAsListed row (c.operation_of make (form words))
form_listed row make form h words = made_listed row make (form words) h

-- ---- the commands whose words have one of several forms, or say nothing

delete_listed : (words : List Bytes) → ReadsAsListed (row_at 1) (c.delete_of words)
delete_listed [] = (refl, refl, refl, refl)
delete_listed (word ∷ words) = tt

set_listed : (words : List Bytes) → ReadsAsListed (row_at 2) (c.set_of words)
set_listed words =
    by_test (ReadsAsListed (row_at 2)) (c.begins_with_kind words) _ _ (made_listed (row_at 2) (λ kind. w.Rule (wr.SetKind kind)) (c.new_kind words) (λ _. (refl, refl, refl, refl)))
    (made_listed (row_at 2) (λ parts. w.Attribute (wa.Set parts.0 parts.1)) (c.attribute_values words) (λ _. (refl, refl, refl, refl)))

set_if_absent_listed : (words : List Bytes) → ReadsAsListed (row_at 3) (c.set_if_absent_of words)
set_if_absent_listed words =
    by_test (ReadsAsListed (row_at 3)) (c.begins_with_kind words) _ _ tt
    (made_listed (row_at 3) (λ parts. w.Attribute (wa.SetIfAbsent parts.0 parts.1)) (c.attribute_values words) (λ _. (refl, refl, refl, refl)))

remove_listed : (words : List Bytes) → ReadsAsListed (row_at 5) (c.remove_of words)
remove_listed [] = tt
remove_listed (attribute ∷ []) = made_listed (row_at 5) (λ attributes. w.Attribute (wa.Remove attributes)) (c.attributes_of attribute) (λ _. (refl, refl, refl, refl))
remove_listed (attribute ∷ value ∷ values) =
    made_listed (row_at 5) (λ attributes. w.Value (wv.Remove attributes (value ∷ values) Skipped)) (c.attributes_of attribute) (λ _. (refl, refl, refl, refl))

set_select_listed : (words : List Bytes) → ReadsAsListed (row_at 18) (c.set_select_of words)
set_select_listed words =
    by_test (ReadsAsListed (row_at 18)) (c.begins_with_kind words) _ _ tt
    (made_listed (row_at 18) (λ parts. w.Dict (wd.Select parts.0 parts.1)) (c.attribute_pairs words) (λ _. (refl, refl, refl, refl)))

-- ---- the table

pub commands_are_listed : CommandsAreListed
commands_are_listed =
    listed (row_at 0) (form_listed (row_at 0) (λ parts. w.Rule (wr.New parts.0 parts.1 parts.2)) c.new_rule (λ _. (refl, refl, refl, refl)))
    (listed (row_at 1) delete_listed
    (listed (row_at 2) set_listed
    (listed (row_at 3) set_if_absent_listed
    (listed (row_at 4) (form_listed (row_at 4) (λ parts. w.Value (wv.Add parts.0 parts.1)) c.attribute_values (λ _. (refl, refl, refl, refl)))
    (listed (row_at 5) remove_listed
    (listed (row_at 6) (form_listed (row_at 6) (λ parts. w.Value (wv.RemoveIfEqual parts.0 parts.1)) c.attribute_word (λ _. (refl, refl, refl, refl)))
    (listed (row_at 7) (form_listed (row_at 7) (λ parts. w.Value (wv.Replace parts.0 parts.1 parts.2 Skipped)) c.attributes_words (λ _. (refl, refl, refl, refl)))
    (listed (row_at 8) (form_listed (row_at 8) (λ parts. w.Value (wv.Substitute parts.0 parts.1 parts.2 Skipped)) c.attributes_words (λ _. (refl, refl, refl, refl)))
    (listed (row_at 9) (form_listed (row_at 9) (λ parts. w.Value (wv.Move parts.0 parts.1 parts.2)) c.moved_values (λ _. (refl, refl, refl, refl)))
    (listed (row_at 10) (form_listed (row_at 10) (λ parts. w.Attribute (wa.Rename parts.0 parts.1)) c.two_attributes (λ _. (refl, refl, refl, refl)))
    (listed (row_at 11) (form_listed (row_at 11) (λ parts. w.Attribute (wa.Copy parts.0 parts.1)) c.attribute_word (λ _. (refl, refl, refl, refl)))
    (listed (row_at 12) (form_listed (row_at 12) (λ parts. w.Attribute (wa.CopyNoOverwrite parts.0 parts.1)) c.attribute_word (λ _. (refl, refl, refl, refl)))
    (listed (row_at 13) (form_listed (row_at 13) (λ parts. w.Dict (wd.Add parts.0 parts.1)) c.dict_entries (λ _. (refl, refl, refl, refl)))
    (listed (row_at 14) (form_listed (row_at 14) (λ parts. w.Dict (wd.Set parts.0 parts.1)) c.dict_entries (λ _. (refl, refl, refl, refl)))
    (listed (row_at 15) (form_listed (row_at 15) (λ parts. w.Dict (wd.Remove parts.0 parts.1)) c.attribute_values (λ _. (refl, refl, refl, refl)))
    (listed (row_at 16) (form_listed (row_at 16) (λ parts. w.Dict (wd.ReplaceIfEqual parts.0 parts.1 parts.2 parts.3)) c.key_words (λ _. (refl, refl, refl, refl)))
    (listed (row_at 17) (form_listed (row_at 17) (λ parts. w.Dict (wd.ListAdd parts.0 parts.1 parts.2)) c.key_values (λ _. (refl, refl, refl, refl)))
    (listed (row_at 18) set_select_listed
    (listed (row_at 19) (form_listed (row_at 19) (λ parts. w.Load (wl.New parts.0 parts.1)) c.path_symbols (λ _. (refl, refl, refl, refl)))
    (listed (row_at 20) (form_listed (row_at 20) (λ parts. w.Load (wl.Replace parts.0 parts.1)) c.path_symbols (λ _. (refl, refl, refl, refl)))
    (listed (row_at 21) (form_listed (row_at 21) (λ parts. w.Load (wl.Substitute parts.0 parts.1)) c.two_words (λ _. (refl, refl, refl, refl)))
    (listed (row_at 22) (form_listed (row_at 22) (λ parts. w.Load (wl.AddRepos parts.0 parts.1)) c.usages_repos (λ _. (refl, refl, refl, refl)))
    (listed (row_at 23) (form_listed (row_at 23) (λ parts. w.Load (wl.RemoveRepos parts.0 parts.1)) c.usages_repos (λ _. (refl, refl, refl, refl)))
    (listed (row_at 24) (form_listed (row_at 24) (λ parts. w.Comment (wc.Add parts.0 parts.1)) (λ words. option_and_then c.host_text (c.split_last words)) (λ _. (refl, refl, refl, refl)))
    (listed (row_at 25) (form_listed (row_at 25) (λ host. w.Comment (wc.Print host)) c.host_of (λ _. (refl, refl, refl, refl)))
    (listed (row_at 26) (form_listed (row_at 26) (λ host. w.Comment (wc.Remove host)) c.host_of (λ _. (refl, refl, refl, refl)))
    (listed (row_at 27) (form_listed (row_at 27) (λ fixes. w.Load (wl.Fix fixes)) c.fixes_of (λ _. (refl, refl, refl, refl)))
    (listed (row_at 28) (form_listed (row_at 28) (λ fields. w.Print fields) c.fields_of (λ _. (refl, refl, refl, refl))) tt))))))))))))))))))))))))))))
