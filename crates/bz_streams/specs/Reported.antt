-- The lines on standard error that speak of files, of whose names control characters are escaped.
use Rattle.std.specs.Prelude.{◌++◌, codes, decimal}
use Rattle.std.specs.Option.{option_map_or}
use Rattle.bz_items.specs.Characters.{Bytes}
use Rattle.bz_streams.specs.Controls.{escaped_text}
use Rattle.bz_streams.specs.Excerpts.{fault_place, fault_sense}
use Rattle.bz_lex.specs.declared.fault.ReadFault.{ReadFault}
use Rattle.bz_lex.specs.declared.fault.ReadFault.TheVariants as f

-- the name by which standard input is reported
abbrev pub stdin : Bytes
stdin = codes "<stdin>"

-- where a file is not accepted, and why; the line and the column as digits
abbrev pub spot_line : Bytes → Bytes → Bytes → Bytes → Bytes
spot_line file line column word = escaped_text file ++ (codes ":" ++ (line ++ (codes ":" ++ (column ++ (codes ": " ++ (word ++ codes "\n"))))))

-- a word on a file, after words of our own
abbrev pub said_line : Bytes → Bytes → Bytes → Bytes
said_line file says word = escaped_text file ++ says ++ word ++ codes "\n"

abbrev pub named_line : Bytes → Bytes → Bytes
named_line file word = said_line file (codes ": ") word

-- why a file is not accepted
abbrev pub fault_word : ReadFault → Bytes
fault_word (f.NotUtf8 at) = codes "NotUtf8"
fault_word f.TooLarge = codes "TooLarge"
fault_word (f.BadCharacter line column) = codes "BadCharacter"
fault_word (f.OpenString line column) = codes "OpenString"
fault_word (f.Indented line column) = codes "Indented"
fault_word (f.Unexpected line column) = codes "Unexpected"
fault_word (f.TooDeep line column) = codes "TooDeep"
fault_word f.Memory = codes "Memory"

abbrev pub placeless_line : Bytes → ReadFault → Bytes
placeless_line file (f.NotUtf8 at) = said_line file (codes ": NotUtf8 at ") (decimal at)
placeless_line file fault = named_line file (fault_word fault)

-- a file that is not accepted: the place, where the fault has one, and why; else what that means
abbrev pub fault_line : Bytes → ReadFault → Bytes
fault_line file fault =
    option_map_or (λ place. spot_line file (decimal place.0) (decimal place.1) (fault_word fault)) (fault_place fault) (placeless_line file fault ++ fault_sense fault)
