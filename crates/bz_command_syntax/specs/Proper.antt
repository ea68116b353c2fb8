-- What every command that was read is: its kinds are kinds, its attributes identifiers, where values are required there is
-- one, and all its texts are UTF-8.
use Rattle.std.specs.Prelude.{◌≡◌, true, List, [], ◌∷◌, IsUtf8}
use Rattle.bz_items.specs.Characters.{Bytes}
use Rattle.bz_command_syntax.specs.Words.{is_nonempty}
use Rattle.bz_command_syntax.specs.Identifiers.{is_identifier, is_rule_kind}
use Rattle.bz_command_syntax.specs.declared.command.{Operation.Operation, Entry.Entry, Symbol.Symbol, Host.Host, Field.Field, RulePlace.RulePlace, Attributes.Attributes, Values.Values, Usages.Usages, Repo.Repo}
use Rattle.bz_command_syntax.specs.declared.command.Operation.TheVariants as w
use Rattle.bz_command_syntax.specs.declared.command.RuleOperation.TheVariants as wr
use Rattle.bz_command_syntax.specs.declared.command.AttributeOperation.TheVariants as wa
use Rattle.bz_command_syntax.specs.declared.command.ValueOperation.TheVariants as wv
use Rattle.bz_command_syntax.specs.declared.command.DictOperation.TheVariants as wd
use Rattle.bz_command_syntax.specs.declared.command.LoadOperation.TheVariants as wl
use Rattle.bz_command_syntax.specs.declared.command.CommentOperation.TheVariants as wc
use Rattle.bz_command_syntax.specs.declared.command.Host.TheVariants as h
use Rattle.bz_command_syntax.specs.declared.command.Field.TheVariants as f
use Rattle.bz_command_syntax.specs.declared.command.Usages.TheVariants as u
use Rattle.bz_command_syntax.specs.declared.command.Repo.TheVariants as rp
use Rattle.bz_command_syntax.specs.Commands.{is_one_line, is_repo_name}
use Rattle.bz_command_syntax.specs.declared.command.RulePlace.TheVariants.{End, Before, After}
use Rattle.bz_command_syntax.specs.declared.command.Attributes.TheVariants.{All as AllAttributes, Named}
use Rattle.bz_command_syntax.specs.declared.command.Values.TheVariants.{All as AllValues, These}

abbrev pub AreUtf8 : List Bytes → Type 0
AreUtf8 [] = Unit {0}
AreUtf8 (text ∷ texts) = IsUtf8 text × AreUtf8 texts

abbrev pub IsAttribute : Bytes → Type 0
IsAttribute name = (is_identifier name ≡ true) × IsUtf8 name

abbrev pub IsKind : Bytes → Type 0
IsKind kind = (is_rule_kind kind ≡ true) × IsUtf8 kind

-- one value or more
abbrev pub AreValues : List Bytes → Type 0
AreValues values = (is_nonempty values ≡ true) × AreUtf8 values

abbrev pub IsPlace : RulePlace → Type 0
IsPlace End = Unit {0}
IsPlace (Before rule) = IsUtf8 rule
IsPlace (After rule) = IsUtf8 rule

abbrev pub AreAttributes : Attributes → Type 0
AreAttributes AllAttributes = Unit {0}
AreAttributes (Named name) = IsAttribute name

abbrev pub AreMoved : Values → Type 0
AreMoved AllValues = Unit {0}
AreMoved (These values) = AreValues values

-- each of them
abbrev pub EachIs : {X : Type 0} → (X → Type 0) → List X → Type 0
EachIs P [] = Unit {0}
EachIs P (x ∷ xs) = P x × EachIs P xs

abbrev pub IsEntry : Entry → Type 0
IsEntry entry = IsUtf8 entry.key × IsUtf8 entry.value

abbrev pub IsSymbol : Symbol → Type 0
IsSymbol symbol = IsAttribute symbol.to × IsAttribute symbol.from

abbrev pub IsHost : Host → Type 0
IsHost h.Rule = Unit {0}
IsHost (h.Attribute name) = IsAttribute name
IsHost (h.Item name value selects) = IsAttribute name × IsUtf8 value

abbrev pub IsField : Field → Type 0
IsField f.Kind = Unit {0}
IsField f.StartLine = Unit {0}
IsField f.Rule = Unit {0}
IsField f.Label = Unit {0}
IsField (f.Attribute name) = IsAttribute name

-- the names of a repository
abbrev pub IsRepo : Repo → Type 0
IsRepo (rp.Plain repo) = (is_repo_name repo ≡ true) × IsUtf8 repo
IsRepo (rp.Named name repo) = IsAttribute name × (is_repo_name repo ≡ true) × IsUtf8 repo

abbrev pub AreUsages : Usages → Type 0
AreUsages (u.Extension dev file name) = IsUtf8 file × IsAttribute name
AreUsages (u.Variable name) = IsAttribute name

-- one or more
abbrev pub AreSome : {X : Type 0} → (X → Type 0) → List X → Type 0
AreSome P xs = (is_nonempty xs ≡ true) × EachIs P xs

abbrev pub IsProperCommand : Operation → Type 0
IsProperCommand (w.Rule (wr.New kind name place)) = IsKind kind × IsUtf8 name × IsPlace place
IsProperCommand (w.Rule wr.Delete) = Unit {0}
IsProperCommand (w.Rule (wr.SetKind kind)) = IsKind kind
IsProperCommand (w.Attribute (wa.Set attribute values)) = IsAttribute attribute × AreValues values
IsProperCommand (w.Attribute (wa.SetIfAbsent attribute values)) = IsAttribute attribute × AreValues values
IsProperCommand (w.Attribute (wa.Remove attributes)) = AreAttributes attributes
IsProperCommand (w.Attribute (wa.Rename from to)) = IsAttribute from × IsAttribute to
IsProperCommand (w.Attribute (wa.Copy attribute rule)) = IsAttribute attribute × IsUtf8 rule
IsProperCommand (w.Attribute (wa.CopyNoOverwrite attribute rule)) = IsAttribute attribute × IsUtf8 rule
IsProperCommand (w.Value (wv.Add attribute values)) = IsAttribute attribute × AreValues values
IsProperCommand (w.Value (wv.Remove attributes values selects)) = AreAttributes attributes × AreValues values
IsProperCommand (w.Value (wv.Replace attributes old new selects)) = AreAttributes attributes × IsUtf8 old × IsUtf8 new
IsProperCommand (w.Value (wv.Substitute attributes pattern template selects)) = AreAttributes attributes × IsUtf8 pattern × IsUtf8 template
IsProperCommand (w.Value (wv.Move from to values)) = IsAttribute from × IsAttribute to × AreMoved values
IsProperCommand (w.Value (wv.RemoveIfEqual attribute value)) = IsAttribute attribute × IsUtf8 value
IsProperCommand (w.Dict (wd.Add attribute entries)) = IsAttribute attribute × AreSome IsEntry entries
IsProperCommand (w.Dict (wd.Set attribute entries)) = IsAttribute attribute × AreSome IsEntry entries
IsProperCommand (w.Dict (wd.Remove attribute keys)) = IsAttribute attribute × AreValues keys
IsProperCommand (w.Dict (wd.ReplaceIfEqual attribute key old new)) = IsAttribute attribute × IsUtf8 key × IsUtf8 old × IsUtf8 new
IsProperCommand (w.Dict (wd.ListAdd attribute key values)) = IsAttribute attribute × IsUtf8 key × AreValues values
IsProperCommand (w.Dict (wd.Select attribute entries)) = IsAttribute attribute × AreSome IsEntry entries
IsProperCommand (w.Load (wl.New path symbols)) = IsUtf8 path × AreSome IsSymbol symbols
IsProperCommand (w.Load (wl.Fix fixes)) = Unit {0}
IsProperCommand (w.Load (wl.Replace path symbols)) = IsUtf8 path × AreSome IsSymbol symbols
IsProperCommand (w.Load (wl.Substitute pattern template)) = IsUtf8 pattern × IsUtf8 template
IsProperCommand (w.Load (wl.AddRepos usages repos)) = AreUsages usages × AreSome IsRepo repos
IsProperCommand (w.Load (wl.RemoveRepos usages repos)) = AreUsages usages × AreSome IsRepo repos
IsProperCommand (w.Comment (wc.Add host text)) = IsHost host × (is_one_line text ≡ true) × IsUtf8 text
IsProperCommand (w.Comment (wc.Print host)) = IsHost host
IsProperCommand (w.Comment (wc.Remove host)) = IsHost host
IsProperCommand (w.Print fields) = AreSome IsField fields
