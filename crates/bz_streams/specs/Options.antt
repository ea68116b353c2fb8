-- What is printed below clap's text of a word that is written as an option and is none.
use Rattle.std.specs.Prelude.{ℕ, ◌==◌, List, [], ◌∷◌, ◌++◌, length, take, drop, codes, bytes_eq, Bool, true, false, not, ◌&&◌, if◌then◌else◌, Option, Some, None}
use Rattle.std.specs.List.{list_any, before_first}
use Rattle.std.specs.Option.{option_map_or}
use Rattle.std.specs.Char.{is_ascii_alphabetic}
use Rattle.bz_items.specs.Characters.{Bytes, equals_sign}
use Rattle.bz_streams.specs.Controls.{escaped_text}
use Rattle.bz_streams.specs.Near.{nearest}
use Rattle.bz_streams.specs.declared.options.OptionHint.{OptionHint}
use Rattle.bz_streams.specs.declared.options.OptionHint.TheVariants as h

-- the options of a program: its name, the names after two dashes, and the letters after one
pub record OptionTable : Type 0 where
  pub program : Bytes
  pub names : List Bytes
  pub letters : Bytes

abbrev pub has_front : Bytes → Bytes → Bool
has_front front text = bytes_eq (take (length front) text) front

-- what is after two dashes, or else after one; nothing of a word that begins with none
abbrev pub after_dashes : Bytes → Bytes
after_dashes word = if has_front (codes "--") word then drop 2 word else (if has_front (codes "-") word then drop 1 word else [])

-- A value may be after an equals sign.
abbrev pub option_name : Bytes → Bytes
option_name text = before_first (λ byte. byte == equals_sign) text

abbrev pub is_among : List Bytes → Bytes → Bool
is_among [] word = false
is_among (known ∷ table) word = if bytes_eq word known then true else is_among table word

-- What is after two dashes is a name, what is after one begins with a letter. (The flag: there are two.)
abbrev pub is_known_option : List Bytes → Bytes → Bool → ℕ → Bytes → Bool
is_known_option names letters true first text = is_among names (option_name text)
is_known_option names letters false first text = list_any (λ letter. letter == first) letters

-- The text after the dashes begins with an ASCII letter, and is no option of these names and letters.
abbrev pub is_strange : List Bytes → Bytes → Bool → Bytes → Bool
is_strange names letters two [] = false
is_strange names letters two (first ∷ rest) = is_ascii_alphabetic first && not (is_known_option names letters two first (first ∷ rest))

-- a word that is written as an option, and is none
abbrev pub is_no_option : List Bytes → Bytes → Bytes → Bool
is_no_option names letters word = is_strange names letters (has_front (codes "--") word) (after_dashes word)

-- the first such word; what is after the word `--` is no option
abbrev pub strange_option : List Bytes → Bytes → List Bytes → Option Bytes
strange_option names letters [] = None
strange_option names letters (word ∷ words) =
    if bytes_eq word (codes "--") then None else (if is_no_option names letters word then Some word else strange_option names letters words)

-- the option that may have been meant
abbrev pub meant_line : Bytes → Bytes → Bytes
meant_line program name = program ++ (codes ": did you mean '--" ++ (name ++ codes "'?\n"))

-- where the options of the programs by Bazel's makers are listed
abbrev pub unknown_line : Bytes → Bytes → Bytes
unknown_line program word = program
    ++ (codes ": there is no option '" ++ (escaped_text word ++ (codes "' here: see docs/COMING.md, " ++ (program ++ codes "-tree and contrib/compat/compat.sh\n"))))

abbrev pub option_line : Bytes → Bytes → Option Bytes → Bytes
option_line program word (Some name) = meant_line program name
option_line program word None = unknown_line program word

-- a hint, as the program of this name prints it
abbrev pub option_hint_text : Bytes → OptionHint → Bytes
option_hint_text program h.Nothing = []
option_hint_text program (h.Meant name) = meant_line program name.now
option_hint_text program (h.Unknown word) = unknown_line program word.now

-- what is printed of these words, which clap refuses: a line or nothing
abbrev pub option_hint : OptionTable → List Bytes → Bytes
option_hint options words =
    option_map_or (λ word. option_line options.program word (nearest (option_name (after_dashes word)) options.names))
    (strange_option options.names options.letters words) []
