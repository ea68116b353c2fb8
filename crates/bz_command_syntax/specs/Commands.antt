-- The commands, by their words.
use Rattle.std.specs.Prelude.{ℕ, ◌==◌, ◌+◌, take, drop, position, Bool, true, false, ◌&&◌, ◌||◌, not, if◌then◌else◌, List, [], ◌∷◌, length, Option, Some, None, Result, Ok, Err, codes, bytes_eq, nat_le, map, option_map}
use Rattle.std.specs.Char.{is_ascii_alphabetic, is_ascii_alphanumeric}
use Rattle.std.specs.List.{list_all, list_any}
use Rattle.std.specs.Option.{option_and_then, option_map_or, ok_or}
use Rattle.bz_items.specs.Characters.{Bytes, asterisk, colon, equals_sign, line_feed}
use Rattle.bz_command_syntax.specs.Words.{words_of, is_nonempty}
use Rattle.bz_command_syntax.specs.Identifiers.{is_identifier, is_rule_kind}
use Rattle.bz_command_syntax.specs.declared.command.{Operation.Operation, RulePlace.RulePlace, Attributes.Attributes, Values.Values, Entry.Entry, Symbol.Symbol, Host.Host, Fixes.Fixes, Field.Field, Usages.Usages, Repo.Repo}
use Rattle.bz_command_syntax.specs.declared.command.Operation.TheVariants as w
use Rattle.bz_command_syntax.specs.declared.command.RuleOperation.TheVariants as wr
use Rattle.bz_command_syntax.specs.declared.command.AttributeOperation.TheVariants as wa
use Rattle.bz_command_syntax.specs.declared.command.ValueOperation.TheVariants as wv
use Rattle.bz_command_syntax.specs.declared.command.DictOperation.TheVariants as wd
use Rattle.bz_command_syntax.specs.declared.command.LoadOperation.TheVariants as wl
use Rattle.bz_command_syntax.specs.declared.command.CommentOperation.TheVariants as wc
use Rattle.bz_command_syntax.specs.declared.command.RulePlace.TheVariants.{End, Before, After}
use Rattle.bz_command_syntax.specs.declared.command.Attributes.TheVariants.{All as AllAttributes, Named}
use Rattle.bz_command_syntax.specs.declared.command.Values.TheVariants.{All as AllValues, These}
use Rattle.bz_command_syntax.specs.declared.command.Selects.TheVariants.{Skipped, Entered}
use Rattle.bz_command_syntax.specs.declared.command.Host.TheVariants as h
use Rattle.bz_command_syntax.specs.declared.command.Field.TheVariants as f
use Rattle.bz_command_syntax.specs.declared.command.Usages.TheVariants as u
use Rattle.bz_command_syntax.specs.declared.command.Repo.TheVariants as rp
use Rattle.bz_command_syntax.specs.declared.profile.Profile.{Profile}
use Rattle.bz_command_syntax.specs.declared.profile.Profile.TheVariants.{Own, Bazelbuild}
use Rattle.bz_command_syntax.specs.declared.fault.CommandFault.{CommandFault}
use Rattle.bz_command_syntax.specs.declared.fault.CommandFault.TheVariants.{Unknown, Arguments}

-- ---- forms

abbrev pub ReadCommand : Type 0
ReadCommand = Result Operation CommandFault

-- the command of these parts, where the words have the form that gives them
abbrev pub operation_of : {X : Type 0} → (X → Operation) → Option X → ReadCommand
operation_of make parts = ok_or (option_map make parts) Arguments

-- the parts, where the words have this form
abbrev pub given : {X : Type 0} → Bool → X → Option X
given true parts = Some parts
given false parts = None

-- `*` alone
abbrev pub is_star : Bytes → Bool
is_star word = bytes_eq word (asterisk ∷ [])

-- `*`, or an attribute
abbrev pub attributes_of : Bytes → Option Attributes
attributes_of word = if is_star word then Some AllAttributes else given (is_identifier word) (Named word)

-- `*` beside other values is all
abbrev pub values_of : List Bytes → Values
values_of words = if list_any is_star words then AllValues else These words

-- ATTRIBUTE WORD
abbrev pub attribute_word : List Bytes → Option (Bytes × Bytes)
attribute_word (attribute ∷ word ∷ []) = given (is_identifier attribute) (attribute, word)
attribute_word _ = None

-- ATTRIBUTE ATTRIBUTE
abbrev pub two_attributes : List Bytes → Option (Bytes × Bytes)
two_attributes (from ∷ to ∷ []) = given (is_identifier from && is_identifier to) (from, to)
two_attributes _ = None

-- ATTRIBUTE VALUE..
abbrev pub attribute_values : List Bytes → Option (Bytes × List Bytes)
attribute_values [] = None
attribute_values (attribute ∷ values) = given (is_identifier attribute && is_nonempty values) (attribute, values)

-- ATTRIBUTE KEY VALUE..
abbrev pub key_values : List Bytes → Option (Bytes × Bytes × List Bytes)
key_values (attribute ∷ key ∷ values) = given (is_identifier attribute && is_nonempty values) (attribute, key, values)
key_values _ = None

-- ATTRIBUTE KEY OLD NEW
abbrev pub key_words : List Bytes → Option (Bytes × Bytes × Bytes × Bytes)
key_words (attribute ∷ key ∷ old ∷ new ∷ []) = given (is_identifier attribute) (attribute, key, old, new)
key_words _ = None

-- PATTERN TEMPLATE
abbrev pub two_words : List Bytes → Option (Bytes × Bytes)
two_words (first ∷ second ∷ []) = Some (first, second)
two_words _ = None

-- ATTRIBUTE WORD WORD or * WORD WORD
abbrev pub attributes_words : List Bytes → Option (Attributes × Bytes × Bytes)
attributes_words (attribute ∷ first ∷ second ∷ []) = option_map (λ attributes. (attributes, first, second)) (attributes_of attribute)
attributes_words _ = None

-- ---- what each command reads in the words after its name

-- `before RULE` or `after RULE`
abbrev pub beside : Bytes → Bytes → Option RulePlace
beside side rule =
    if bytes_eq side (codes "before") then Some (Before rule) else (if bytes_eq side (codes "after") then Some (After rule) else None)

-- nothing, or one of these
abbrev pub rule_place : List Bytes → Option RulePlace
rule_place [] = Some End
rule_place (side ∷ rule ∷ []) = beside side rule
rule_place _ = None

-- KIND NAME [before|after RULE]
abbrev pub new_rule : List Bytes → Option (Bytes × Bytes × RulePlace)
new_rule (kind ∷ name ∷ words) = if is_rule_kind kind then option_map (λ place. (kind, name, place)) (rule_place words) else None
new_rule _ = None

-- delete
abbrev pub delete_of : List Bytes → ReadCommand
delete_of [] = Ok (w.Rule wr.Delete)
delete_of _ = Err Arguments

-- the first word is `kind`
abbrev pub begins_with_kind : List Bytes → Bool
begins_with_kind [] = false
begins_with_kind (word ∷ words) = bytes_eq word (codes "kind")

-- kind KIND
abbrev pub new_kind : List Bytes → Option Bytes
new_kind (word ∷ kind ∷ []) = given (is_rule_kind kind) kind
new_kind _ = None

-- set kind KIND, or set ATTRIBUTE VALUE..; `kind` is no attribute where a value is set
abbrev pub set_of : List Bytes → ReadCommand
set_of words =
    if begins_with_kind words then operation_of (λ kind. w.Rule (wr.SetKind kind)) (new_kind words)
    else operation_of (λ parts. w.Attribute (wa.Set parts.0 parts.1)) (attribute_values words)

-- set_if_absent ATTRIBUTE VALUE..
abbrev pub set_if_absent_of : List Bytes → ReadCommand
set_if_absent_of words =
    if begins_with_kind words then Err Arguments else operation_of (λ parts. w.Attribute (wa.SetIfAbsent parts.0 parts.1)) (attribute_values words)

-- remove ATTRIBUTE or remove *, and values, one or more, where these go
abbrev pub remove_of : List Bytes → ReadCommand
remove_of [] = Err Arguments
remove_of (attribute ∷ values) =
    operation_of (λ attributes. if is_nonempty values then w.Value (wv.Remove attributes values Skipped) else w.Attribute (wa.Remove attributes)) (attributes_of attribute)

-- FROM TO VALUE..
abbrev pub moved_values : List Bytes → Option (Bytes × Bytes × Values)
moved_values (from ∷ to ∷ values) = given (is_identifier from && is_identifier to && is_nonempty values) (from, to, values_of values)
moved_values _ = None

-- what is before the first such byte, and what is after it
abbrev pub cut_at : ℕ → Bytes → Option (Bytes × Bytes)
cut_at byte text = option_map (λ at. (take at text, drop (at + 1) text)) (position (λ each. each == byte) text)

-- KEY:VALUE; the key ends at the first colon
abbrev pub entry_of : Bytes → Option Entry
entry_of word = option_map (λ parts. record { key = parts.0; value = parts.1 }) (cut_at colon word)

-- what each word is, where all are something
abbrev pub each_of : {X : Type 0} → (Bytes → Option X) → List Bytes → Option (List X)
each_of form [] = Some []
each_of form (word ∷ words) = option_and_then (λ x. option_map (λ xs. x ∷ xs) (each_of form words)) (form word)

-- ATTRIBUTE KEY:VALUE..
abbrev pub dict_entries : List Bytes → Option (Bytes × List Entry)
dict_entries [] = None
dict_entries (attribute ∷ words) =
    if is_identifier attribute && is_nonempty words then option_map (λ entries. (attribute, entries)) (each_of entry_of words) else None

-- keys and values in turn
abbrev pub pairs_of : List Bytes → Option (List Entry)
pairs_of [] = Some []
pairs_of (key ∷ []) = None
pairs_of (key ∷ value ∷ words) = option_map (λ entries. record { key = key; value = value } ∷ entries) (pairs_of words)

-- ATTRIBUTE KEY VALUE [KEY VALUE]..
abbrev pub attribute_pairs : List Bytes → Option (Bytes × List Entry)
attribute_pairs [] = None
attribute_pairs (attribute ∷ words) =
    if is_identifier attribute && is_nonempty words then option_map (λ entries. (attribute, entries)) (pairs_of words) else None

-- set_select ATTRIBUTE KEY VALUE [KEY VALUE]..; `kind` is no attribute where a value is set
abbrev pub set_select_of : List Bytes → ReadCommand
set_select_of words =
    if begins_with_kind words then Err Arguments else operation_of (λ parts. w.Dict (wd.Select parts.0 parts.1)) (attribute_pairs words)

-- two names of a symbol, which are identifiers
abbrev pub symbol_of_names : Bytes → Bytes → Option Symbol
symbol_of_names to from = given (is_identifier to && is_identifier from) (record { to = to; from = from })

-- TO=FROM, or one name for both
abbrev pub symbol_of : Bytes → Option Symbol
symbol_of word = option_map_or (λ parts. symbol_of_names parts.0 parts.1) (cut_at equals_sign word) (symbol_of_names word word)

-- PATH [TO=]FROM..
abbrev pub path_symbols : List Bytes → Option (Bytes × List Symbol)
path_symbols [] = None
path_symbols (path ∷ words) = if is_nonempty words then option_map (λ symbols. (path, symbols)) (each_of symbol_of words) else None

-- a letter, digit, `_`, `-` or `.`
abbrev pub is_repo_byte : ℕ → Bool
is_repo_byte byte = is_ascii_alphanumeric byte || list_any (λ each. each == byte) (codes "_-.")

-- The name that a repository has in its extension: a letter, then such bytes.
abbrev pub is_repo_name : Bytes → Bool
is_repo_name [] = false
is_repo_name (first ∷ rest) = is_ascii_alphabetic first && list_all is_repo_byte rest

-- REPO, or NAME=REPO
abbrev pub repo_of : Bytes → Option Repo
repo_of word =
    option_map_or (λ parts. given (is_identifier parts.0 && is_repo_name parts.1) (rp.Named parts.0 parts.1)) (cut_at equals_sign word)
    (given (is_repo_name word) (rp.Plain word))

-- FILE EXTENSION, and the words after them. What is an identifier is a variable and no file.
abbrev pub extension_of : Bool → List Bytes → Option (Usages × List Bytes)
extension_of dev (file ∷ name ∷ words) = given (not (is_identifier file) && is_identifier name) (u.Extension dev file name, words)
extension_of dev _ = None

-- `dev` before three words or more; before fewer it is a variable
abbrev pub begins_with_dev : List Bytes → Bool
begins_with_dev (word ∷ _ ∷ _ ∷ _ ∷ words) = bytes_eq word (codes "dev")
begins_with_dev _ = false

-- VARIABLE or [dev] FILE EXTENSION, and the words after them
abbrev pub usages_of : List Bytes → Option (Usages × List Bytes)
usages_of [] = None
usages_of (word ∷ words) =
    if begins_with_dev (word ∷ words) then extension_of true words
    else (if is_identifier word then Some (u.Variable word, words) else extension_of false (word ∷ words))

abbrev pub repos_of : Usages × List Bytes → Option (Usages × List Repo)
repos_of parts = if is_nonempty parts.1 then option_map (λ repos. (parts.0, repos)) (each_of repo_of parts.1) else None

-- VARIABLE REPO.. or [dev] FILE EXTENSION REPO..
abbrev pub usages_repos : List Bytes → Option (Usages × List Repo)
usages_repos words = option_and_then repos_of (usages_of words)

-- nothing, ATTRIBUTE, or ATTRIBUTE VALUE
abbrev pub host_of : List Bytes → Option Host
host_of [] = Some h.Rule
host_of (attribute ∷ []) = given (is_identifier attribute) (h.Attribute attribute)
host_of (attribute ∷ value ∷ []) = given (is_identifier attribute) (h.Item attribute value Skipped)
host_of _ = None

-- what is before the last word, and the last word
abbrev pub split_last : List Bytes → Option (List Bytes × Bytes)
split_last [] = None
split_last (word ∷ []) = Some ([], word)
split_last (word ∷ words) = option_map (λ parts. (word ∷ parts.0, parts.1)) (split_last words)

abbrev pub is_one_line : Bytes → Bool
is_one_line text = not (list_any (λ byte. byte == line_feed) text)

-- [ATTRIBUTE [VALUE]] TEXT; the text has no newline
abbrev pub host_text : List Bytes × Bytes → Option (Host × Bytes)
host_text parts = if is_one_line parts.1 then option_map (λ host. (host, parts.1)) (host_of parts.0) else None

-- one more fix, which isn't named yet
abbrev pub with_fix : Bytes → Fixes → Option Fixes
with_fix word fixes =
    if bytes_eq word (codes "movePackageToTop") && not fixes.move_package_to_top then Some (record fixes { move_package_to_top = true })
    else (if bytes_eq word (codes "unusedLoads") && not fixes.unused_loads then Some (record fixes { unused_loads = true }) else None)

abbrev pub fixes_from : Fixes → List Bytes → Option Fixes
fixes_from fixes [] = Some fixes
fixes_from fixes (word ∷ words) = option_and_then (λ more. fixes_from more words) (with_fix word fixes)

-- Where none is named, all are meant; in any order, each at most once.
abbrev pub fixes_of : List Bytes → Option Fixes
fixes_of [] = Some (record { move_package_to_top = true; unused_loads = true })
fixes_of words = fixes_from (record { move_package_to_top = false; unused_loads = false }) words

-- these words name fields that are not known
abbrev pub is_unknown_field : Bytes → Bool
is_unknown_field word = bytes_eq word (codes "endline") || bytes_eq word (codes "path")

-- a field's name, else an attribute
abbrev pub field_of : Bytes → Option Field
field_of word =
    if bytes_eq word (codes "kind") then Some f.Kind
    else (if bytes_eq word (codes "startline") then Some f.StartLine
    else (if bytes_eq word (codes "rule") then Some f.Rule
    else (if bytes_eq word (codes "label") then Some f.Label
    else given (is_identifier word && not (is_unknown_field word)) (f.Attribute word))))

-- Where none is named, the name and the kind are meant.
abbrev pub fields_of : List Bytes → Option (List Field)
fields_of [] = Some (f.Attribute (codes "name") ∷ f.Kind ∷ [])
fields_of words = each_of field_of words

-- ---- all commands

-- The table of commands: the name of each, the forms of its words, as they are printed where words have another one, and what it reads.
-- `substitute` and `substitute_load` read each text that `regex` takes as a pattern.
abbrev pub commands : List (Bytes × (Bytes × (List Bytes → ReadCommand)))
commands =
    (codes "new", (codes "'new KIND NAME [before RULE]' or 'new KIND NAME [after RULE]'", λ words. operation_of (λ parts. w.Rule (wr.New parts.0 parts.1 parts.2)) (new_rule words)))
    ∷ (codes "delete", (codes "'delete'", delete_of))
    ∷ (codes "set", (codes "'set ATTR VALUE..' or 'set kind KIND'", set_of))
    ∷ (codes "set_if_absent", (codes "'set_if_absent ATTR VALUE..'", set_if_absent_of))
    ∷ (codes "add", (codes "'add ATTR VALUE..'", λ words. operation_of (λ parts. w.Value (wv.Add parts.0 parts.1)) (attribute_values words)))
    ∷ (codes "remove", (codes "'remove ATTR', 'remove *', 'remove ATTR VALUE..' or 'remove * VALUE..'", remove_of))
    ∷ (codes "remove_if_equal", (codes "'remove_if_equal ATTR VALUE'", λ words. operation_of (λ parts. w.Value (wv.RemoveIfEqual parts.0 parts.1)) (attribute_word words)))
    ∷ (codes "replace", (codes "'replace ATTR OLD NEW' or 'replace * OLD NEW'", λ words. operation_of (λ parts. w.Value (wv.Replace parts.0 parts.1 parts.2 Skipped)) (attributes_words words)))
    ∷ (codes "substitute", (codes "'substitute ATTR PATTERN TEMPLATE' or 'substitute * PATTERN TEMPLATE'", λ words. operation_of (λ parts. w.Value (wv.Substitute parts.0 parts.1 parts.2 Skipped)) (attributes_words words)))
    ∷ (codes "move", (codes "'move FROM TO VALUE..' or 'move FROM TO *'", λ words. operation_of (λ parts. w.Value (wv.Move parts.0 parts.1 parts.2)) (moved_values words)))
    ∷ (codes "rename", (codes "'rename OLD NEW'", λ words. operation_of (λ parts. w.Attribute (wa.Rename parts.0 parts.1)) (two_attributes words)))
    ∷ (codes "copy", (codes "'copy ATTR RULE'", λ words. operation_of (λ parts. w.Attribute (wa.Copy parts.0 parts.1)) (attribute_word words)))
    ∷ (codes "copy_no_overwrite", (codes "'copy_no_overwrite ATTR RULE'", λ words. operation_of (λ parts. w.Attribute (wa.CopyNoOverwrite parts.0 parts.1)) (attribute_word words)))
    ∷ (codes "dict_add", (codes "'dict_add ATTR KEY:VALUE..'", λ words. operation_of (λ parts. w.Dict (wd.Add parts.0 parts.1)) (dict_entries words)))
    ∷ (codes "dict_set", (codes "'dict_set ATTR KEY:VALUE..'", λ words. operation_of (λ parts. w.Dict (wd.Set parts.0 parts.1)) (dict_entries words)))
    ∷ (codes "dict_remove", (codes "'dict_remove ATTR KEY..'", λ words. operation_of (λ parts. w.Dict (wd.Remove parts.0 parts.1)) (attribute_values words)))
    ∷ (codes "dict_replace_if_equal", (codes "'dict_replace_if_equal ATTR KEY OLD NEW'", λ words. operation_of (λ parts. w.Dict (wd.ReplaceIfEqual parts.0 parts.1 parts.2 parts.3)) (key_words words)))
    ∷ (codes "dict_list_add", (codes "'dict_list_add ATTR KEY VALUE..'", λ words. operation_of (λ parts. w.Dict (wd.ListAdd parts.0 parts.1 parts.2)) (key_values words)))
    ∷ (codes "set_select", (codes "'set_select ATTR KEY VALUE [KEY VALUE]..'", set_select_of))
    ∷ (codes "new_load", (codes "'new_load PATH [TO=]FROM..'", λ words. operation_of (λ parts. w.Load (wl.New parts.0 parts.1)) (path_symbols words)))
    ∷ (codes "replace_load", (codes "'replace_load PATH [TO=]FROM..'", λ words. operation_of (λ parts. w.Load (wl.Replace parts.0 parts.1)) (path_symbols words)))
    ∷ (codes "substitute_load", (codes "'substitute_load PATTERN TEMPLATE'", λ words. operation_of (λ parts. w.Load (wl.Substitute parts.0 parts.1)) (two_words words)))
    ∷ (codes "use_repo_add", (codes "'use_repo_add [dev] FILE EXTENSION [NAME=]REPO..' or 'use_repo_add VARIABLE [NAME=]REPO..'", λ words. operation_of (λ parts. w.Load (wl.AddRepos parts.0 parts.1)) (usages_repos words)))
    ∷ (codes "use_repo_remove", (codes "'use_repo_remove [dev] FILE EXTENSION [NAME=]REPO..' or 'use_repo_remove VARIABLE [NAME=]REPO..'", λ words. operation_of (λ parts. w.Load (wl.RemoveRepos parts.0 parts.1)) (usages_repos words)))
    ∷ (codes "comment", (codes "'comment [ATTR [VALUE]] TEXT'", λ words. operation_of (λ parts. w.Comment (wc.Add parts.0 parts.1)) (option_and_then host_text (split_last words))))
    ∷ (codes "print_comment", (codes "'print_comment [ATTR [VALUE]]'", λ words. operation_of (λ host. w.Comment (wc.Print host)) (host_of words)))
    ∷ (codes "remove_comment", (codes "'remove_comment [ATTR [VALUE]]'", λ words. operation_of (λ host. w.Comment (wc.Remove host)) (host_of words)))
    ∷ (codes "fix", (codes "'fix [unusedLoads] [movePackageToTop]'", λ words. operation_of (λ fixes. w.Load (wl.Fix fixes)) (fixes_of words)))
    ∷ (codes "print", (codes "'print [FIELD..]'", λ words. operation_of w.Print (fields_of words)))
    ∷ []

abbrev pub command_names : List Bytes
command_names = map (λ command. command.0) commands

abbrev pub command_forms : List (Bytes × Bytes)
command_forms = map (λ command. (command.0, command.1.0)) commands

-- what a table has for this name, where it has something
abbrev pub row_named : {X : Type 0} → List (Bytes × X) → Bytes → Option X
row_named [] name = None
row_named (row ∷ rows) name = if bytes_eq name row.0 then Some row.1 else row_named rows name

-- the most bytes of a command's text
abbrev pub text_limit : ℕ
text_limit = 65536

-- What the table reads in words. An unknown name is reported first, then a text that is too long, then what is wrong with the words.
abbrev pub listed_in : Bool → List Bytes → ReadCommand
listed_in fits [] = Err Unknown
listed_in fits (name ∷ words) = option_map_or (λ command. if fits then command.1 words else Err Arguments) (row_named commands name) (Err Unknown)

-- ---- profiles

abbrev pub is_label : Field → Bool
is_label f.Label = true
is_label _ = false

-- one of the fields that are printed is the label
abbrev pub prints_label : Operation → Bool
prints_label (w.Print fields) = list_any is_label fields
prints_label _ = false

-- an item is sought in the branches of `select` too
abbrev pub entering_host : Host → Host
entering_host (h.Item attribute value selects) = h.Item attribute value Entered
entering_host host = host

-- the same command, for which the lists in the branches of `select` are among the lists of a value
abbrev pub entering : Operation → Operation
entering (w.Value (wv.Remove attributes values selects)) = w.Value (wv.Remove attributes values Entered)
entering (w.Value (wv.Replace attributes old new selects)) = w.Value (wv.Replace attributes old new Entered)
entering (w.Value (wv.Substitute attributes pattern template selects)) = w.Value (wv.Substitute attributes pattern template Entered)
entering (w.Comment (wc.Add host text)) = w.Comment (wc.Add (entering_host host) text)
entering (w.Comment (wc.Print host)) = w.Comment (wc.Print (entering_host host))
entering (w.Comment (wc.Remove host)) = w.Comment (wc.Remove (entering_host host))
entering operation = operation

-- What a profile makes of a command of the table: the own one has no field `label`, bazelbuild's enters the branches of `select`.
abbrev pub by_profile : Profile → Operation → ReadCommand
by_profile Own operation = if prints_label operation then Err Arguments else Ok operation
by_profile Bazelbuild operation = Ok (entering operation)

abbrev pub read_by_profile : Profile → ReadCommand → ReadCommand
read_by_profile profile (Ok operation) = by_profile profile operation
read_by_profile profile (Err fault) = Err fault

-- The command of these words in a profile.
abbrev pub command_in : Profile → Bool → List Bytes → ReadCommand
command_in profile fits words = read_by_profile profile (listed_in fits words)

-- The command of a text in a profile.
abbrev pub command_of : Profile → Bytes → ReadCommand
command_of profile text = command_in profile (nat_le (length text) text_limit) (words_of text)
