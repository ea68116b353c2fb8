-- The innermost bracket that is open at a place of a text: one outside of strings and comments.
use Rattle.std.specs.Prelude.{ℕ, ◌==◌, ◌+◌, ◌++◌, [], ◌∷◌, List, codes, decimal, drop, nat_lt, Bool, true, false, ◌&&◌, if◌then◌else◌, Option, Some, None}
use Rattle.std.specs.List.{slice_get}
use Rattle.bz_items.specs.Characters.{Bytes, backslash, number_sign}
use Rattle.bz_lex.specs.Places.{is_closing, is_opening}
use Rattle.bz_lex.specs.Positions.{is_continuation, is_newline}
use Rattle.bz_lex.specs.declared.fault.ReadFault.{ReadFault}
use Rattle.bz_lex.specs.declared.fault.ReadFault.TheVariants as f
use Rattle.bz_streams.specs.Beginnings.{is_quotation_mark}
use Rattle.bz_streams.specs.declared.brackets.Bracket.{Bracket}
use Rattle.bz_streams.specs.declared.brackets.Within.{Within}
use Rattle.bz_streams.specs.declared.brackets.Within.TheVariants.{Outside, Comment, Marks, Text}

-- where the byte after this one is, which is in no string
abbrev pub outside : ℕ → Within
outside byte = if is_quotation_mark byte then Marks byte 1 else (if byte == number_sign then Comment else Outside)

-- the same of a byte of a string between one such mark or, where it is long, three, of which as many as `marks` says are right before
abbrev pub in_text : ℕ → Bool → ℕ → ℕ → Within
in_text mark long marks byte =
    if byte == backslash then Text mark long 0 true
    else (if byte == mark then (if long && nat_lt marks 2 then Text mark long (marks + 1) false else Outside) else Text mark long 0 false)

-- the same of any byte: two marks are an empty string, or three begin a long one
abbrev pub within_after : Within → ℕ → Within
within_after Outside byte = outside byte
within_after Comment byte = if is_newline byte then Outside else Comment
within_after (Marks mark count) byte =
    if byte == mark then (if count == 1 then Marks mark 2 else Text mark true 0 false) else (if count == 1 then in_text mark false 0 byte else outside byte)
within_after (Text mark long marks true) byte = Text mark long 0 false
within_after (Text mark long marks false) byte = in_text mark long marks byte

abbrev pub is_outside : Within → Bool
is_outside Outside = true
is_outside _ = false

-- a place of a text, by its line and its column, what it is within, and the brackets that are open there, the innermost first
pub record Scan : Type 0 where
  pub within : Within
  pub line : ℕ
  pub column : ℕ
  pub brackets : List Bracket

abbrev pub first_scan : Scan
first_scan = record { within = Outside; line = 1; column = 1; brackets = [] }

abbrev pub brackets_after : Scan → ℕ → List Bracket
brackets_after scan byte =
    if is_opening (byte ∷ []) then record { byte = byte; line = scan.line; column = scan.column } ∷ scan.brackets
    else (if is_closing (byte ∷ []) then drop 1 scan.brackets else scan.brackets)

-- the place after this byte
abbrev pub scan_after : Scan → ℕ → Scan
scan_after scan byte = record {
  within = within_after scan.within byte;
  line = if is_newline byte then scan.line + 1 else scan.line;
  column = if is_newline byte then 1 else (if is_continuation byte then scan.column else scan.column + 1);
  brackets = if is_outside (within_after scan.within byte) then brackets_after scan byte else scan.brackets;
}

-- the brackets that are open at this line and column of a text, which begins at this place
abbrev pub brackets_at : ℕ → ℕ → Scan → Bytes → List Bracket
brackets_at line column scan [] = scan.brackets
brackets_at line column scan (byte ∷ rest) =
    if scan.line == line && scan.column == column then scan.brackets else brackets_at line column (scan_after scan byte) rest

-- the line on a bracket that a place is inside of
abbrev pub inside_line : Bracket → Bytes
inside_line bracket =
    codes "    inside the '" ++ (bracket.byte ∷ (codes "' at " ++ (decimal bracket.line ++ (codes ":" ++ (decimal bracket.column ++ codes "\n")))))

-- the same, where the bracket is on another line than this one
abbrev pub bracket_line : ℕ → Option Bracket → Bytes
bracket_line line None = []
bracket_line line (Some bracket) = if bracket.line == line then [] else inside_line bracket

-- the same of a fault: what is there may be no part of what the bracket began, which lacks its end
abbrev pub fault_bracket : Bytes → ReadFault → Bytes
fault_bracket text (f.Unexpected line column) = bracket_line line (slice_get (brackets_at line column first_scan text) 0)
fault_bracket text _ = []
