-- What patterns match, and what a template makes of the matches.
use Rattle.std.specs.Prelude.{◌≡◌, ◌≢◌, ℕ, zero, suc, List, [], ◌∷◌, length, Option, Some, None, slice_index, chars, codes, nat_eq, nat_le, ◌==◌, Bool, true, false, not, ◌&&◌, ◌||◌, if◌then◌else◌, IsUtf8}
use Rattle.std.specs.List.{list_any}
use Rattle.std.specs.Option.{option_and_then, option_map_or}
use Rattle.std.specs.Char.{is_ascii_digit}
use Rattle.std.specs.Str.{is_utf8}
use Rattle.regex_syntax.specs.Grammar.{Names, read}
use Rattle.regex_syntax.specs.Brackets.{Nested}
use Rattle.regex.specs.Patterns.{Re, find_all_str, default_config}
use Rattle.regex.specs.Replace.{replaced_by, group_bytes}
use Rattle.regex.specs.Templates.{group_called, name_at, written_after}
use Rattle.regex.specs.Sources.{IsRefusal}
use Rattle.regex.specs.Failures.{IsRightKind}
use Rattle.regex.specs.declared.error.Error.{Error}
use Rattle.regex.specs.declared.error.Error.TheVariants.{OutOfMemory}
use Rattle.bz_items.specs.Characters.{Bytes, backslash}

-- the body with each match of the pattern replaced by the template, as `regex` reads it with these names of groups
abbrev pub replaced_in : Re → Names → List ℕ → List ℕ → List ℕ
replaced_in pattern names template body = replaced_by (λ m. written_after names (group_bytes body m) template 0) body 0 (find_all_str pattern body)

-- A text that is no pattern has no match.
abbrev pub substituted_by : Option (Nested Re × Names) → List ℕ → List ℕ → List ℕ
substituted_by None template body = body
substituted_by (Some pattern) template body = replaced_in pattern.0.value pattern.1 template body

-- The body with each match of the pattern that `regex`'s grammar reads in the source replaced by the template. Bytes that are
-- no text have no match, and what would leave no text leaves the body: `regex` matches whole characters, so nothing does.
unfoldable pub substituted : List ℕ → List ℕ → List ℕ → List ℕ
substituted source template body =
    let made = substituted_by (read default_config (chars source)) template body in
    if is_utf8 template && is_utf8 body && is_utf8 made then made else body

-- What a substitution makes of a text is one.
abbrev pub TextStaysText : Type 0
TextStaysText = (source template body : List ℕ) → IsUtf8 body → IsUtf8 (substituted source template body)

-- the characters by which a pattern is more than a text
abbrev pub special_characters : List ℕ
special_characters = codes "\\.+*?()|[]{}^$"

unfoldable pub is_special : ℕ → Bool
is_special byte = list_any (nat_eq byte) special_characters

-- the text is more than one that matches itself
abbrev pub has_special : List ℕ → Bool
has_special source = list_any is_special source

-- `regex` refuses the text as a pattern, for another cause than memory, and it has a special character.
unfoldable pub IsRefusedPattern : List ℕ → Type 0
IsRefusedPattern source = (error : Error) × (error ≢ OutOfMemory) × IsRefusal default_config source error × IsRightKind default_config source error
    × (has_special source ≡ true)

-- ---- what a template names

abbrev pub dollar_sign : ℕ
dollar_sign = 36

-- No group has this number or name, by the names of the groups from that of the whole match on.
abbrev pub is_missing : Names → Bytes → Bool
is_missing names name = option_map_or (nat_le (length names)) (group_called names name) true

-- after a dollar sign, by what `regex` reads there, where `after n` is the answer from n bytes later on
abbrev pub missing_at_dollar : Names → Option (Bytes × ℕ) → (ℕ → Option Bytes) → Option Bytes
missing_at_dollar names None after = after 0
missing_at_dollar names (Some reference) after = if is_missing names reference.0 then Some reference.0 else after reference.1

-- The name in the first reference to a missing group, once the number of bytes is passed over: a template as `written_after` of
-- `regex` reads it.
unfoldable pub missing_after : Names → Bytes → ℕ → Option Bytes
missing_after names [] passed = None
missing_after names (byte ∷ rest) (suc passed) = missing_after names rest passed
missing_after names (byte ∷ rest) zero =
    if not (byte == dollar_sign) then missing_after names rest 0
    else if slice_index rest 0 == dollar_sign then missing_after names rest 1
    else missing_at_dollar names (name_at rest) (missing_after names rest)

-- the same by the names of the pattern that `regex`'s grammar reads in the source
unfoldable pub missing_group : Bytes → Bytes → Option Bytes
missing_group source template = option_and_then (λ pattern. missing_after pattern.1 template 0) (read default_config (chars source))

-- By these names of its groups a template names the missing groups of the pattern.
abbrev pub HasNames : Bytes → Names → Type 0
HasNames source names = (template : Bytes) → missing_after names template 0 ≡ missing_group source template

-- A backslash is right before an ASCII digit.
unfoldable pub has_escaped_digit : Bytes → Bool
has_escaped_digit [] = false
has_escaped_digit (byte ∷ rest) = (byte == backslash) && is_ascii_digit (slice_index rest 0) || has_escaped_digit rest
