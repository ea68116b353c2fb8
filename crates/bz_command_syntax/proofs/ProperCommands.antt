-- Every command that is read is proper.
use Rattle.bz_command_syntax.proofs.Imported.{[], ◌&&◌, ◌∷◌, ◌≡◌, and_parts, AreAttributes, AreMoved, AreSome, AreUsages, AreUtf8, AreValues, Arguments, arith, Bool, Bytes, bytes_eq, chars, codes, colon, EachIs, encode, equals_sign, Err, false, IfSome, if◌then◌else◌, is_identifier, is_nonempty, is_rule_kind, is_utf8, IsAttribute, IsEntry, IsField, IsHost, IsKind, IsPlace, IsProperCommand, IsRepo, IsSymbol, IsUtf8, IsUtf8-from_is_utf8, List, list_any, None, not, Ok, Option, option_and_then, option_map, option_map_or, ReadCommand, refl, Some, subst, sym, true, true≢false, Unknown}
use Rattle.bz_command_syntax.specs.Commands as c
use Rattle.bz_command_syntax.specs.declared.command.{Attributes.Attributes, Fixes.Fixes, Operation.Operation, Usages.Usages}
use Rattle.bz_command_syntax.specs.declared.command.Values.TheVariants.{All, These}
use Rattle.bz_command_syntax.specs.declared.command.Selects.TheVariants.{Skipped}
use Rattle.bz_command_syntax.specs.declared.command.Repo.TheVariants as rp
use Rattle.bz_command_syntax.specs.declared.command.Operation.TheVariants as w
use Rattle.bz_command_syntax.specs.declared.command.RuleOperation.TheVariants as wr
use Rattle.bz_command_syntax.specs.declared.command.AttributeOperation.TheVariants as wa
use Rattle.bz_command_syntax.specs.declared.command.ValueOperation.TheVariants as wv
use Rattle.bz_command_syntax.specs.declared.command.DictOperation.TheVariants as wd
use Rattle.bz_command_syntax.specs.declared.command.LoadOperation.TheVariants as wl
use Rattle.bz_command_syntax.specs.declared.command.CommentOperation.TheVariants as wc
use Rattle.bz_command_syntax.specs.declared.profile.Profile.{Profile}
use Rattle.bz_command_syntax.specs.declared.profile.Profile.TheVariants.{Own, Bazelbuild}
use Rattle.bz_command_syntax.proofs.Profiles.{entering_proper}
use Rattle.bz_command_syntax.proofs.Utf8Texts.{cut_utf8}

-- ---- what is there, where there is something

module _ {X : Type 0} (P : X → Type 0) where
  given_is : (holds : Bool) (x : X) → (holds ≡ true → P x) → IfSome (c.given holds x) P
  given_is true x f = f refl
  given_is false x f = tt

  either : (t : Bool) (a b : Option X) → (t ≡ true → IfSome a P) → IfSome b P → IfSome (if t then a else b) P
  either true a b f h = f refl
  either false a b f h = h

  module _ {Y : Type 0} (Q : Y → Type 0) where
    mapped : (f : X → Y) (o : Option X) → IfSome o P → ((x : X) → P x → Q (f x)) → IfSome (option_map f o) Q
    mapped f None h g = tt
    mapped f (Some x) h g = g x h

    after : (f : X → Option Y) (o : Option X) → IfSome o P → ((x : X) → P x → IfSome (f x) Q) → IfSome (option_and_then f o) Q
    after f None h g = tt
    after f (Some x) h g = g x h

module _ {X : Type 0} (P : X → Type 0) (form : Bytes → Option X) (fits : (word : Bytes) → IsUtf8 word → IfSome (form word) P) where
  -- as many as there are words
  each_proper : (words : List Bytes) → AreUtf8 words → IfSome (c.each_of form words) (λ xs. (is_nonempty xs ≡ is_nonempty words) × EachIs P xs)
  each_proper [] u = (refl, tt)
  each_proper (word ∷ words) u =
      after P _ (λ x. option_map (λ xs. x ∷ xs) (c.each_of form words)) (form word) (fits word u.0) (λ x p.
      mapped (λ xs. (is_nonempty xs ≡ is_nonempty words) × EachIs P xs) _ (λ xs. x ∷ xs) (c.each_of form words) (each_proper words u.1) (λ xs h. (refl, (p, h.1))))

  some_proper : (words : List Bytes) → is_nonempty words ≡ true → AreUtf8 words → IfSome (c.each_of form words) (AreSome P)
  some_proper words n u = subst (λ (b : Bool). IfSome (c.each_of form words) (λ xs. (is_nonempty xs ≡ b) × EachIs P xs)) n (each_proper words u)

-- ---- forms

-- each word of the form is, where the words have it
abbrev Gives : {X : Type 0} → (List Bytes → Option X) → (X → Type 0) → Type 0
Gives form P = (words : List Bytes) → AreUtf8 words → IfSome (form words) P

word_proper : Gives c.attribute_word (λ parts. IsAttribute parts.0 × IsUtf8 parts.1)
word_proper (attribute ∷ word ∷ []) u = given_is (λ (parts : Bytes × Bytes). IsAttribute parts.0 × IsUtf8 parts.1) _ _ (λ i. ((i, u.0), u.1.0))
word_proper _ u = tt

two_proper : Gives c.two_attributes (λ parts. IsAttribute parts.0 × IsAttribute parts.1)
two_proper (from ∷ to ∷ []) u = given_is _ _ _ (λ h. let i = and_parts (is_identifier from) (is_identifier to) h in ((i.0, u.0), (i.1, u.1.0)))
two_proper _ u = tt

values_proper : Gives c.attribute_values (λ parts. IsAttribute parts.0 × AreValues parts.1)
values_proper [] u = tt
values_proper (attribute ∷ values) u =
    given_is _ _ _ (λ h. let i = and_parts (is_identifier attribute) (is_nonempty values) h in ((i.0, u.0), (i.1, u.1)))

key_values_proper : Gives c.key_values (λ parts. IsAttribute parts.0 × IsUtf8 parts.1 × AreValues parts.2)
key_values_proper (attribute ∷ key ∷ values) u =
    given_is _ _ _ (λ h. let i = and_parts (is_identifier attribute) (is_nonempty values) h in ((i.0, u.0), u.1.0, (i.1, u.1.1)))
key_values_proper _ u = tt

key_words_proper : Gives c.key_words (λ parts. IsAttribute parts.0 × IsUtf8 parts.1 × IsUtf8 parts.2 × IsUtf8 parts.3)
key_words_proper (attribute ∷ key ∷ old ∷ new ∷ []) u =
    given_is (λ (parts : Bytes × Bytes × Bytes × Bytes). IsAttribute parts.0 × IsUtf8 parts.1 × IsUtf8 parts.2 × IsUtf8 parts.3) _ _ (λ i. ((i, u.0), u.1.0, u.1.1.0, u.1.1.1.0))
key_words_proper _ u = tt

abbrev pub AreTexts : Bytes × Bytes → Type 0
AreTexts parts = IsUtf8 parts.0 × IsUtf8 parts.1

pub two_words_proper : (words : List Bytes) → AreUtf8 words → IfSome (c.two_words words) AreTexts
two_words_proper (first ∷ second ∷ []) u = (u.0, u.1.0)
two_words_proper _ u = tt

attributes_proper : (word : Bytes) → IsUtf8 word → IfSome (c.attributes_of word) AreAttributes
attributes_proper word u = either _ (c.is_star word) _ _ (λ _. tt) (given_is _ (is_identifier word) _ (λ i. (i, u)))

abbrev pub HasWords : Attributes × Bytes × Bytes → Type 0
HasWords parts = AreAttributes parts.0 × IsUtf8 parts.1 × IsUtf8 parts.2

pub words_proper : (words : List Bytes) → AreUtf8 words → IfSome (c.attributes_words words) HasWords
words_proper (attribute ∷ first ∷ second ∷ []) u =
    mapped AreAttributes _ (λ attributes. (attributes, first, second)) (c.attributes_of attribute) (attributes_proper attribute u.0) (λ attributes a. (a, u.1.0, u.1.1.0))
words_proper _ u = tt

place_proper : Gives c.rule_place IsPlace
place_proper [] u = tt
place_proper (side ∷ rule ∷ []) u =
    either _ (bytes_eq side (codes "before")) _ _ (λ _. u.1.0) (either _ (bytes_eq side (codes "after")) _ _ (λ _. u.1.0) tt)
place_proper _ u = tt

rule_proper : Gives c.new_rule (λ parts. IsKind parts.0 × IsUtf8 parts.1 × IsPlace parts.2)
rule_proper (kind ∷ name ∷ words) u =
    either _ (is_rule_kind kind) _ _ (λ k. mapped IsPlace _ (λ place. (kind, name, place)) (c.rule_place words) (place_proper words u.1.1) (λ place p. ((k, u.0), u.1.0, p))) tt
rule_proper _ u = tt

kind_proper : Gives c.new_kind IsKind
kind_proper (word ∷ kind ∷ []) u = given_is IsKind _ _ (λ k. (k, u.1.0))
kind_proper _ u = tt

all_or_these : (t : Bool) (words : List Bytes) → AreValues words → AreMoved (if t then All else These words)
all_or_these true words v = tt
all_or_these false words v = v

moved_proper : Gives c.moved_values (λ parts. IsAttribute parts.0 × IsAttribute parts.1 × AreMoved parts.2)
moved_proper (from ∷ to ∷ values) u =
    given_is _ _ _ (λ h.
    let i = and_parts (is_identifier from && is_identifier to) (is_nonempty values) h in
    let j = and_parts (is_identifier from) (is_identifier to) i.0 in
    ((j.0, u.0), (j.1, u.1.0), all_or_these (list_any c.is_star values) values (i.1, u.1.1)))
moved_proper _ u = tt

entry_proper : (word : Bytes) → IsUtf8 word → IfSome (c.entry_of word) IsEntry
entry_proper word u = mapped _ _ _ (c.cut_at colon word) (cut_utf8 colon word (omega arith) u) (λ parts p. p)

entries_proper : Gives c.dict_entries (λ parts. IsAttribute parts.0 × AreSome IsEntry parts.1)
entries_proper [] u = tt
entries_proper (attribute ∷ words) u =
    either _ (is_identifier attribute && is_nonempty words) _ _ (λ h.
    let i = and_parts (is_identifier attribute) (is_nonempty words) h in
    mapped (AreSome IsEntry) _ (λ entries. (attribute, entries)) (c.each_of c.entry_of words) (some_proper IsEntry c.entry_of entry_proper words i.1 u.1) (λ entries e. ((i.0, u.0), e))) tt

pairs_proper : (words : List Bytes) → AreUtf8 words → IfSome (c.pairs_of words) (EachIs IsEntry)
pairs_proper [] u = tt
pairs_proper (key ∷ []) u = tt
pairs_proper (key ∷ value ∷ words) u =
    mapped (EachIs IsEntry) _ (λ entries. record { key = key; value = value } ∷ entries) (c.pairs_of words) (pairs_proper words u.1.1) (λ entries e. ((u.0, u.1.0), e))

-- there is one where there is a word
some_pairs : (words : List Bytes) → is_nonempty words ≡ true → AreUtf8 words → IfSome (c.pairs_of words) (AreSome IsEntry)
some_pairs [] n u = absurd (true≢false (sym n))
some_pairs (key ∷ []) n u = tt
some_pairs (key ∷ value ∷ words) n u =
    mapped (EachIs IsEntry) (AreSome IsEntry) (λ entries. record { key = key; value = value } ∷ entries) (c.pairs_of words) (pairs_proper words u.1.1) (λ entries e. (refl, ((u.0, u.1.0), e)))

attribute_pairs_proper : Gives c.attribute_pairs (λ parts. IsAttribute parts.0 × AreSome IsEntry parts.1)
attribute_pairs_proper [] u = tt
attribute_pairs_proper (attribute ∷ words) u =
    either _ (is_identifier attribute && is_nonempty words) _ _ (λ h.
    let i = and_parts (is_identifier attribute) (is_nonempty words) h in
    mapped (AreSome IsEntry) _ (λ entries. (attribute, entries)) (c.pairs_of words) (some_pairs words i.1 u.1) (λ entries e. ((i.0, u.0), e))) tt

names_proper : (to from : Bytes) → IsUtf8 to → IsUtf8 from → IfSome (c.symbol_of_names to from) IsSymbol
names_proper to from u v = given_is _ _ _ (λ h. let i = and_parts (is_identifier to) (is_identifier from) h in ((i.0, u), (i.1, v)))

symbol_proper : (word : Bytes) → IsUtf8 word → IfSome (c.symbol_of word) IsSymbol
symbol_proper word u = by (c.cut_at equals_sign word) (cut_utf8 equals_sign word (omega arith) u)
  where
    by : (parts : Option (Bytes × Bytes)) → IfSome parts (λ both. IsUtf8 both.0 × IsUtf8 both.1)
        → IfSome (option_map_or (λ both. c.symbol_of_names both.0 both.1) parts (c.symbol_of_names word word)) IsSymbol
    by None h = names_proper word word u u
    by (Some both) h = names_proper both.0 both.1 h.0 h.1

symbols_proper : Gives c.path_symbols (λ parts. IsUtf8 parts.0 × AreSome IsSymbol parts.1)
symbols_proper [] u = tt
symbols_proper (path ∷ words) u =
    either _ (is_nonempty words) _ _ (λ some.
    mapped (AreSome IsSymbol) _ (λ symbols. (path, symbols)) (c.each_of c.symbol_of words) (some_proper IsSymbol c.symbol_of symbol_proper words some u.1) (λ symbols s. (u.0, s))) tt

repo_proper : (word : Bytes) → IsUtf8 word → IfSome (c.repo_of word) IsRepo
repo_proper word u = by (c.cut_at equals_sign word) (cut_utf8 equals_sign word (omega arith) u)
  where
    by : (parts : Option (Bytes × Bytes)) → IfSome parts (λ both. IsUtf8 both.0 × IsUtf8 both.1)
        → IfSome (option_map_or (λ both. c.given (is_identifier both.0 && c.is_repo_name both.1) (rp.Named both.0 both.1)) parts (c.given (c.is_repo_name word) (rp.Plain word))) IsRepo
    by None h = given_is IsRepo _ _ (λ is. (is, u))
    by (Some both) h = given_is IsRepo _ _ (λ is. let i = and_parts (is_identifier both.0) (c.is_repo_name both.1) is in ((i.0, h.0), i.1, h.1))

abbrev HasUsages : Usages × List Bytes → Type 0
HasUsages parts = AreUsages parts.0 × AreUtf8 parts.1

extension_proper : (dev : Bool) → Gives (c.extension_of dev) HasUsages
extension_proper dev (file ∷ name ∷ words) u =
    given_is HasUsages _ _ (λ h. let i = and_parts (not (is_identifier file)) (is_identifier name) h in ((u.0, (i.1, u.1.0)), u.1.1))
extension_proper dev _ u = tt

usages_proper : Gives c.usages_of HasUsages
usages_proper [] u = tt
usages_proper (word ∷ words) u =
    either HasUsages (c.begins_with_dev (word ∷ words)) _ _ (λ _. extension_proper true words u.1)
    (either HasUsages (is_identifier word) _ _ (λ i. ((i, u.0), u.1)) (extension_proper false (word ∷ words) u))

repos_proper : Gives c.usages_repos (λ parts. AreUsages parts.0 × AreSome IsRepo parts.1)
repos_proper words u =
    after HasUsages _ c.repos_of (c.usages_of words) (usages_proper words u) (λ parts p.
    either _ (is_nonempty parts.1) _ _ (λ some.
    mapped (AreSome IsRepo) _ (λ repos. (parts.0, repos)) (c.each_of c.repo_of parts.1) (some_proper IsRepo c.repo_of repo_proper parts.1 some p.1) (λ repos r. (p.0, r))) tt)

host_proper : Gives c.host_of IsHost
host_proper [] u = tt
host_proper (attribute ∷ []) u = given_is IsHost _ _ (λ i. (i, u.0))
host_proper (attribute ∷ value ∷ []) u = given_is IsHost _ _ (λ i. ((i, u.0), u.1.0))
host_proper _ u = tt

last_proper : Gives c.split_last (λ parts. AreUtf8 parts.0 × IsUtf8 parts.1)
last_proper [] u = tt
last_proper (word ∷ []) u = (tt, u.0)
last_proper (word ∷ next ∷ words) u = mapped _ _ (λ parts. (word ∷ parts.0, parts.1)) (c.split_last (next ∷ words)) (last_proper (next ∷ words) u.1) (λ parts p. ((u.0, p.0), p.1))

text_proper : Gives (λ words. option_and_then c.host_text (c.split_last words)) (λ parts. IsHost parts.0 × (c.is_one_line parts.1 ≡ true) × IsUtf8 parts.1)
text_proper words u =
    after _ _ c.host_text (c.split_last words) (last_proper words u) (λ parts p.
    either _ (c.is_one_line parts.1) _ _ (λ line. mapped IsHost _ (λ host. (host, parts.1)) (c.host_of parts.0) (host_proper parts.0 p.0) (λ host h. (h, line, p.1))) tt)

fixes_proper : (o : Option Fixes) → IfSome o (λ fixes. Unit {0})
fixes_proper None = tt
fixes_proper (Some fixes) = tt

field_proper : (word : Bytes) → IsUtf8 word → IfSome (c.field_of word) IsField
field_proper word u =
    either _ (bytes_eq word (codes "kind")) _ _ (λ _. tt) (either _ (bytes_eq word (codes "startline")) _ _ (λ _. tt)
    (either _ (bytes_eq word (codes "rule")) _ _ (λ _. tt) (either _ (bytes_eq word (codes "label")) _ _ (λ _. tt)
    (given_is IsField _ _ (λ h. ((and_parts (is_identifier word) (not (c.is_unknown_field word)) h).0, u))))))

name_is_text : is_utf8 (codes "name") ≡ true
unfolding is_utf8 chars encode
name_is_text = refl

fields_proper : Gives c.fields_of (AreSome IsField)
fields_proper [] u = (refl, ((refl, IsUtf8-from_is_utf8 (codes "name") name_is_text), (tt, tt)))
fields_proper (word ∷ words) u = some_proper IsField c.field_of field_proper (word ∷ words) refl u

-- ---- the table

-- the command is proper, where there is one
abbrev ReadsProper : ReadCommand → Type 0
ReadsProper (Ok command) = IsProperCommand command
ReadsProper (Err fault) = Unit {0}

abbrev Reader : Type 0
Reader = List Bytes → ReadCommand

abbrev IsProperReader : Reader → Type 0
IsProperReader reader = (words : List Bytes) → AreUtf8 words → ReadsProper (reader words)

made_proper : {X : Type 0} (make : X → Operation) (o : Option X) → IfSome o (λ x. IsProperCommand (make x)) → ReadsProper (c.operation_of make o)
made_proper make None h = tt
made_proper make (Some x) h = h

by_form : {X : Type 0} (make : X → Operation) (form : List Bytes → Option X) → Gives form (λ x. IsProperCommand (make x)) → IsProperReader (λ words. c.operation_of make (form words))
by_form make form proper words u = made_proper make (form words) (proper words u)

if_proper : (t : Bool) (x y : ReadCommand) → (t ≡ true → ReadsProper x) → ReadsProper y → ReadsProper (if t then x else y)
if_proper true x y f k = f refl
if_proper false x y f k = k

delete_proper : IsProperReader c.delete_of
delete_proper [] u = tt
delete_proper _ u = tt

set_proper : IsProperReader c.set_of
set_proper words u =
    if_proper (c.begins_with_kind words) _ _ (λ _. by_form (λ kind. w.Rule (wr.SetKind kind)) c.new_kind kind_proper words u)
    (by_form (λ parts. w.Attribute (wa.Set parts.0 parts.1)) c.attribute_values values_proper words u)

set_if_absent_proper : IsProperReader c.set_if_absent_of
set_if_absent_proper words u =
    if_proper (c.begins_with_kind words) _ _ (λ _. tt) (by_form (λ parts. w.Attribute (wa.SetIfAbsent parts.0 parts.1)) c.attribute_values values_proper words u)

remove_proper : IsProperReader c.remove_of
remove_proper [] u = tt
remove_proper (attribute ∷ []) u = by_form (λ attributes. w.Attribute (wa.Remove attributes)) (λ words. c.attributes_of attribute) (λ words v. attributes_proper attribute u.0) [] tt
remove_proper (attribute ∷ value ∷ values) u =
    made_proper (λ attributes. w.Value (wv.Remove attributes (value ∷ values) Skipped)) (c.attributes_of attribute)
    (mapped_proper (c.attributes_of attribute) (attributes_proper attribute u.0))
  where
    mapped_proper : (o : Option Attributes) → IfSome o AreAttributes → IfSome o (λ attributes. AreAttributes attributes × AreValues (value ∷ values))
    mapped_proper None h = tt
    mapped_proper (Some attributes) h = (h, (refl, u.1))

set_select_proper : IsProperReader c.set_select_of
set_select_proper words u =
    if_proper (c.begins_with_kind words) _ _ (λ _. tt) (by_form (λ parts. w.Dict (wd.Select parts.0 parts.1)) c.attribute_pairs attribute_pairs_proper words u)

abbrev AllReadProper : List (Bytes × (Bytes × Reader)) → Type 0
AllReadProper [] = Unit {0}
AllReadProper (command ∷ table) = IsProperReader command.1.1 × AllReadProper table

-- a command before others
with_row : {A B : Type 0} → A → B → A × B
with_row first rest = (first, rest)

commands_proper : AllReadProper c.commands
commands_proper =
    with_row (by_form (λ parts. w.Rule (wr.New parts.0 parts.1 parts.2)) c.new_rule rule_proper)
    (with_row delete_proper
    (with_row set_proper
    (with_row set_if_absent_proper
    (with_row (by_form (λ parts. w.Value (wv.Add parts.0 parts.1)) c.attribute_values values_proper)
    (with_row remove_proper
    (with_row (by_form (λ parts. w.Value (wv.RemoveIfEqual parts.0 parts.1)) c.attribute_word word_proper)
    (with_row (by_form (λ parts. w.Value (wv.Replace parts.0 parts.1 parts.2 Skipped)) c.attributes_words words_proper)
    (with_row (by_form (λ parts. w.Value (wv.Substitute parts.0 parts.1 parts.2 Skipped)) c.attributes_words words_proper)
    (with_row (by_form (λ parts. w.Value (wv.Move parts.0 parts.1 parts.2)) c.moved_values moved_proper)
    (with_row (by_form (λ parts. w.Attribute (wa.Rename parts.0 parts.1)) c.two_attributes two_proper)
    (with_row (by_form (λ parts. w.Attribute (wa.Copy parts.0 parts.1)) c.attribute_word word_proper)
    (with_row (by_form (λ parts. w.Attribute (wa.CopyNoOverwrite parts.0 parts.1)) c.attribute_word word_proper)
    (with_row (by_form (λ parts. w.Dict (wd.Add parts.0 parts.1)) c.dict_entries entries_proper)
    (with_row (by_form (λ parts. w.Dict (wd.Set parts.0 parts.1)) c.dict_entries entries_proper)
    (with_row (by_form (λ parts. w.Dict (wd.Remove parts.0 parts.1)) c.attribute_values values_proper)
    (with_row (by_form (λ parts. w.Dict (wd.ReplaceIfEqual parts.0 parts.1 parts.2 parts.3)) c.key_words key_words_proper)
    (with_row (by_form (λ parts. w.Dict (wd.ListAdd parts.0 parts.1 parts.2)) c.key_values key_values_proper)
    (with_row set_select_proper
    (with_row (by_form (λ parts. w.Load (wl.New parts.0 parts.1)) c.path_symbols symbols_proper)
    (with_row (by_form (λ parts. w.Load (wl.Replace parts.0 parts.1)) c.path_symbols symbols_proper)
    (with_row (by_form (λ parts. w.Load (wl.Substitute parts.0 parts.1)) c.two_words two_words_proper)
    (with_row (by_form (λ parts. w.Load (wl.AddRepos parts.0 parts.1)) c.usages_repos repos_proper)
    (with_row (by_form (λ parts. w.Load (wl.RemoveRepos parts.0 parts.1)) c.usages_repos repos_proper)
    (with_row (by_form (λ parts. w.Comment (wc.Add parts.0 parts.1)) (λ words. option_and_then c.host_text (c.split_last words)) text_proper)
    (with_row (by_form (λ host. w.Comment (wc.Print host)) c.host_of host_proper)
    (with_row (by_form (λ host. w.Comment (wc.Remove host)) c.host_of host_proper)
    (with_row (by_form (λ fixes. w.Load (wl.Fix fixes)) c.fixes_of (λ words u. fixes_proper (c.fixes_of words)))
    (with_row (by_form w.Print c.fields_of fields_proper) tt))))))))))))))))))))))))))))

named_proper : (table : List (Bytes × (Bytes × Reader))) → AllReadProper table → (name : Bytes) → IfSome (c.row_named table name) (λ command. IsProperReader command.1)
named_proper [] h name = tt
named_proper (command ∷ table) h name = either (λ command. IsProperReader command.1) (bytes_eq name command.0) _ _ (λ _. h.0) (named_proper table h.1 name)

found_proper : (words : List Bytes) → AreUtf8 words → (o : Option (Bytes × Reader)) → IfSome o (λ command. IsProperReader command.1)
    → ReadsProper (option_map_or (λ command. command.1 words) o (Err Unknown))
found_proper words u (Some command) h = h words u
found_proper words u None h = tt

-- ---- profiles

by_profile_proper : (profile : Profile) (operation : Operation) → IsProperCommand operation → ReadsProper (c.by_profile profile operation)
by_profile_proper Own operation proper = if_proper (c.prints_label operation) (Err Arguments) (Ok operation) (λ _. tt) proper
by_profile_proper Bazelbuild operation proper = entering_proper operation proper

profile_proper : (profile : Profile) (read : ReadCommand) → ReadsProper read → ReadsProper (c.read_by_profile profile read)
profile_proper profile (Ok operation) proper = by_profile_proper profile operation proper
profile_proper profile (Err fault) proper = tt

-- The operation that is read in words is proper.
pub read_proper : (profile : Profile) (name : Bytes) (words all : List Bytes) (operation : Operation) → all ≡ name ∷ words → AreUtf8 all
    → c.command_in profile true (name ∷ words) ≡ Ok operation → IsProperCommand operation
read_proper profile name words all operation is u e =
    let listed = found_proper words (subst AreUtf8 is u).1 (c.row_named c.commands name) (named_proper c.commands commands_proper name) in
    subst ReadsProper e (profile_proper profile (c.listed_in true (name ∷ words)) listed)
