-- Worked rows: what texts are cut into, which commands they are, and words as strings.
use Rattle.std.specs.Prelude.{◌≡◌, true, false, [], ◌∷◌, Ok, Err, Option, Some, None, codes}
use Rattle.bz_items.specs.Characters.{Bytes}
use Rattle.bz_command_syntax.specs.Words.{words_of}
use Rattle.bz_command_syntax.specs.Identifiers.{is_identifier, is_rule_kind}
use Rattle.bz_command_syntax.specs.Commands.{command_in, command_of}
use Rattle.bz_command_syntax.specs.Quoted.{quoted_of}
use Rattle.bz_command_syntax.specs.Patterns.{missing_after, has_escaped_digit}
use Rattle.bz_command_syntax.specs.declared.command.Operation.{Operation}
use Rattle.bz_command_syntax.specs.declared.command.Operation.TheVariants as w
use Rattle.bz_command_syntax.specs.declared.command.RuleOperation.TheVariants as wr
use Rattle.bz_command_syntax.specs.declared.command.AttributeOperation.TheVariants as wa
use Rattle.bz_command_syntax.specs.declared.command.ValueOperation.TheVariants as wv
use Rattle.bz_command_syntax.specs.declared.command.DictOperation.TheVariants as wd
use Rattle.bz_command_syntax.specs.declared.command.LoadOperation.TheVariants as wl
use Rattle.bz_command_syntax.specs.declared.command.CommentOperation.TheVariants as wc
use Rattle.bz_command_syntax.specs.declared.command.RulePlace.TheVariants.{Before}
use Rattle.bz_command_syntax.specs.declared.command.Attributes.TheVariants.{All as AllAttributes, Named}
use Rattle.bz_command_syntax.specs.declared.command.Values.TheVariants.{All as AllValues}
use Rattle.bz_command_syntax.specs.declared.command.Selects.TheVariants.{Skipped, Entered}
use Rattle.bz_command_syntax.specs.declared.command.Host.TheVariants as h
use Rattle.bz_command_syntax.specs.declared.command.Field.TheVariants as f
use Rattle.bz_command_syntax.specs.declared.command.Usages.TheVariants as u
use Rattle.bz_command_syntax.specs.declared.command.Repo.TheVariants as rp
use Rattle.bz_command_syntax.specs.declared.profile.Profile.TheVariants.{Own, Bazelbuild}
use Rattle.bz_command_syntax.specs.declared.fault.CommandFault.TheVariants.{Unknown, Arguments}

abbrev pub WorkedWords : Type 0
WorkedWords =
    -- a run of spaces; a space right after a backslash; another backslash; a space at the end
    (words_of (codes "a\\ b  c\\d ") ≡ codes "a b" ∷ codes "c\\d" ∷ [])
    -- the second backslash goes
    × (words_of (codes "a\\\\ b") ≡ codes "a\\ b" ∷ [])

abbrev pub WorkedIdentifiers : Type 0
WorkedIdentifiers =
    (is_identifier (codes "_a1") ≡ true) × (is_identifier (codes "1a") ≡ false) × (is_identifier (codes "in") ≡ false)
    -- U+00E9, and U+FEFF after a letter
    × (is_identifier (195 ∷ 169 ∷ []) ≡ true) × (is_identifier (97 ∷ 239 ∷ 187 ∷ 191 ∷ []) ≡ false)
    × (is_rule_kind (codes "a.b.c") ≡ true) × (is_rule_kind (codes "a..b") ≡ false) × (is_rule_kind (codes "a.if") ≡ false)

-- ---- commands

abbrev reads : Bytes → Operation → Type 0
reads text operation = command_of Own text ≡ Ok operation

abbrev is_refused : Bytes → Type 0
is_refused text = command_of Own text ≡ Err Arguments

abbrev Rules : Type 0
Rules =
    reads (codes "new a.b x before y") (w.Rule (wr.New (codes "a.b") (codes "x") (Before (codes "y")))) × is_refused (codes "new a.for x")
    × reads (codes "  delete ") (w.Rule wr.Delete)
    × reads (codes "set kind a.b") (w.Rule (wr.SetKind (codes "a.b"))) × is_refused (codes "set_if_absent kind a")

abbrev Attributes : Type 0
Attributes =
    reads (codes "set srcs x y") (w.Attribute (wa.Set (codes "srcs") (codes "x" ∷ codes "y" ∷ [])))
    × reads (codes "set_if_absent srcs x") (w.Attribute (wa.SetIfAbsent (codes "srcs") (codes "x" ∷ [])))
    × reads (codes "remove *") (w.Attribute (wa.Remove AllAttributes))
    × reads (codes "rename a b") (w.Attribute (wa.Rename (codes "a") (codes "b")))
    × reads (codes "copy a *") (w.Attribute (wa.Copy (codes "a") (codes "*")))
    × reads (codes "copy_no_overwrite a b") (w.Attribute (wa.CopyNoOverwrite (codes "a") (codes "b")))

abbrev Values : Type 0
Values =
    reads (codes "add deps :x a\\ b") (w.Value (wv.Add (codes "deps") (codes ":x" ∷ codes "a b" ∷ [])))
    × reads (codes "remove deps * x") (w.Value (wv.Remove (Named (codes "deps")) (codes "*" ∷ codes "x" ∷ []) Skipped))
    × reads (codes "remove * x") (w.Value (wv.Remove AllAttributes (codes "x" ∷ []) Skipped)) × is_refused (codes "remove :x y")
    × reads (codes "remove_if_equal size 5") (w.Value (wv.RemoveIfEqual (codes "size") (codes "5"))) × is_refused (codes "remove_if_equal * x")
    × reads (codes "replace * a b") (w.Value (wv.Replace AllAttributes (codes "a") (codes "b") Skipped))
    -- a backslash stays unless a space follows; what is no pattern is seen later
    × reads (codes "substitute srcs (\\.c$ $1") (w.Value (wv.Substitute (Named (codes "srcs")) (codes "(\\.c$") (codes "$1") Skipped))
    × reads (codes "move a b c *") (w.Value (wv.Move (codes "a") (codes "b") AllValues)) × is_refused (codes "move a b")

abbrev Others : Type 0
Others =
    -- the key ends at the first colon
    reads (codes "dict_add env A:1:2 :") (w.Dict (wd.Add (codes "env") (record { key = codes "A"; value = codes "1:2" } ∷ record { key = []; value = [] } ∷ [])))
    × is_refused (codes "dict_set env A") × reads (codes "dict_remove env A:1") (w.Dict (wd.Remove (codes "env") (codes "A:1" ∷ [])))
    × reads (codes "dict_replace_if_equal env A:1 x y") (w.Dict (wd.ReplaceIfEqual (codes "env") (codes "A:1") (codes "x") (codes "y")))
    × is_refused (codes "dict_replace_if_equal env A x")
    × reads (codes "dict_list_add d K x") (w.Dict (wd.ListAdd (codes "d") (codes "K") (codes "x" ∷ []))) × is_refused (codes "dict_list_add d K")
    × reads (codes "set_select d K x K y") (w.Dict (wd.Select (codes "d") (record { key = codes "K"; value = codes "x" } ∷ record { key = codes "K"; value = codes "y" } ∷ [])))
    × is_refused (codes "set_select d K") × is_refused (codes "set_select d K x L") × is_refused (codes "set_select kind K x")
    × reads (codes "new_load p x y=z") (w.Load (wl.New (codes "p") (record { to = codes "x"; from = codes "x" } ∷ record { to = codes "y"; from = codes "z" } ∷ [])))
    × is_refused (codes "new_load p a=b=c")
    × reads (codes "replace_load p x") (w.Load (wl.Replace (codes "p") (record { to = codes "x"; from = codes "x" } ∷ []))) × is_refused (codes "replace_load p")
    × reads (codes "substitute_load ^@a// @b//") (w.Load (wl.Substitute (codes "^@a//") (codes "@b//"))) × is_refused (codes "substitute_load a")
    × reads (codes "fix unusedLoads") (w.Load (wl.Fix (record { move_package_to_top = false; unused_loads = true })))
    × is_refused (codes "fix unusedLoads unusedLoads")
    × reads (codes "comment deps :x why\\ not") (w.Comment (wc.Add (h.Item (codes "deps") (codes ":x") Skipped) (codes "why not")))
    × is_refused (codes "comment why\nnot") × reads (codes "remove_comment") (w.Comment (wc.Remove h.Rule))
    × reads (codes "print_comment deps") (w.Comment (wc.Print (h.Attribute (codes "deps"))))
    × reads (codes "print") (w.Print (f.Attribute (codes "name") ∷ f.Kind ∷ [])) × is_refused (codes "print label") × is_refused (codes "print name label kind")

abbrev Repositories : Type 0
Repositories =
    reads (codes "use_repo_add go org.x y=z-1") (w.Load (wl.AddRepos (u.Variable (codes "go")) (rp.Plain (codes "org.x") ∷ rp.Named (codes "y") (codes "z-1") ∷ [])))
    × reads (codes "use_repo_remove :f.bzl go x") (w.Load (wl.RemoveRepos (u.Extension false (codes ":f.bzl") (codes "go")) (rp.Plain (codes "x") ∷ [])))
    -- `dev` before three words, and alone
    × reads (codes "use_repo_add dev :f.bzl go x") (w.Load (wl.AddRepos (u.Extension true (codes ":f.bzl") (codes "go")) (rp.Plain (codes "x") ∷ [])))
    × reads (codes "use_repo_add dev x") (w.Load (wl.AddRepos (u.Variable (codes "dev")) (rp.Plain (codes "x") ∷ []))) × is_refused (codes "use_repo_add dev go x y")
    × is_refused (codes "use_repo_add :f.bzl go") × is_refused (codes "use_repo_add go @x") × is_refused (codes "use_repo_add go 1=x")

abbrev Names : Type 0
Names =
    (command_of Own [] ≡ Err Unknown) × (command_of Own (codes "Delete") ≡ Err Unknown)
    -- a text that is too long
    × (command_in Own false (codes "delete" ∷ []) ≡ Err Arguments) × (command_in Own false (codes "grow" ∷ []) ≡ Err Unknown)

abbrev enters : Bytes → Operation → Type 0
enters text operation = command_of Bazelbuild text ≡ Ok operation

-- Bazelbuild's profile: values and hosts of comments in the branches of `select`, the field `label`; all else is as it is.
abbrev Entering : Type 0
Entering =
    enters (codes "remove * x") (w.Value (wv.Remove AllAttributes (codes "x" ∷ []) Entered)) × enters (codes "remove *") (w.Attribute (wa.Remove AllAttributes))
    × enters (codes "replace a b c") (w.Value (wv.Replace (Named (codes "a")) (codes "b") (codes "c") Entered))
    × enters (codes "substitute a b c") (w.Value (wv.Substitute (Named (codes "a")) (codes "b") (codes "c") Entered))
    × enters (codes "comment a b c") (w.Comment (wc.Add (h.Item (codes "a") (codes "b") Entered) (codes "c")))
    × enters (codes "print_comment a b") (w.Comment (wc.Print (h.Item (codes "a") (codes "b") Entered)))
    × enters (codes "remove_comment a b") (w.Comment (wc.Remove (h.Item (codes "a") (codes "b") Entered)))
    × enters (codes "print name label") (w.Print (f.Attribute (codes "name") ∷ f.Label ∷ [])) × enters (codes "set label x") (w.Attribute (wa.Set (codes "label") (codes "x" ∷ [])))
    × (command_of Bazelbuild (codes "print label endline") ≡ Err Arguments) × (command_of Bazelbuild (codes "print path") ≡ Err Arguments)
    × (command_in Bazelbuild false (codes "print" ∷ codes "label" ∷ []) ≡ Err Arguments) × (command_of Bazelbuild (codes "grow") ≡ Err Unknown)

abbrev pub WorkedCommands : Type 0
WorkedCommands = Rules × Attributes × Values × Others × Repositories × Entering × Names

abbrev pub WorkedStrings : Type 0
WorkedStrings = (quoted_of [] ≡ codes "\"\"") × (quoted_of (codes "a\"b\\\n") ≡ codes "\"a\\\"b\\\\\\n\"")

-- the name in the first reference to a missing group, where the pattern has one group, without a name
abbrev missing : Bytes → Option Bytes
missing template = missing_after (None ∷ None ∷ []) template 0

abbrev pub WorkedTemplates : Type 0
WorkedTemplates =
    -- a bare name is as long as it can be
    (missing (codes "$1_test") ≡ Some (codes "1_test")) × (missing (codes "${1}_test") ≡ None)
    -- a number past the last group; the first of two
    × (missing (codes "$2") ≡ Some (codes "2")) × (missing (codes "$1 ${b}$a") ≡ Some (codes "b"))
    -- two dollar signs are one, and one that begins no reference is one as well
    × (missing (codes "$$1_test") ≡ None) × (missing (codes "$") ≡ None) × (missing (codes "${b") ≡ None)
    × (has_escaped_digit (codes "\\1") ≡ true) × (has_escaped_digit (codes "a\\.b") ≡ false)
