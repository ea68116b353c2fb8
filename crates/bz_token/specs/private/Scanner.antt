-- One machine for the lexemes of all classes: what the reader of tokens goes by. Its proofs say that it takes the texts of each class and no others.
use Rattle.std.specs.Prelude.{true, false, ℕ, Bool, List, [], ◌∷◌, ◌||◌, nat_eq, Option, Some, None, is_some, if◌then◌else◌}
use Rattle.std.specs.Option.{option_or}
use Rattle.bz_token.specs.declared.class.Class.{Class}
use Rattle.bz_token.specs.declared.class.Class.TheVariants as v
use Rattle.bz_token.specs.declared.state.State.{State}
use Rattle.bz_token.specs.declared.state.State.TheVariants.{Start, Word, PrefixR, PrefixB, PrefixBoth, High, HighMark, HighOther, Zero, Whole, HexMark, Hex, OctMark, Oct, Point, Fraction, ExponentMark, ExponentSign, Exponent, Opened, Empty, Short, ShortTaken, ShortReturn, Long, LongOne, LongTwo, LongTaken, Closed, Star, Slash, Less, Greater, Bang, Operator, Ended}
use Rattle.bz_token.specs.declared.state.Quote.{Quote}
use Rattle.bz_token.specs.declared.state.Quote.TheVariants.{Single, Double}
use Rattle.bz_token.specs.Bytes.{among, is_digit, is_hexadecimal, is_octal, is_e, is_x, is_o, is_sign, is_high, is_letter}
use Rattle.bz_token.specs.Lexemes.{is_keyword}
use Rattle.bz_token.specs.private.Machine.{and_next, after, longest}

abbrev pub quote_byte : Quote → ℕ
quote_byte Single = 39
quote_byte Double = 34

-- the marks of one byte with which no longer one begins: ~ , ; : ( ) [ ] { }
abbrev pub lone_marks : List ℕ
lone_marks = 126 ∷ 44 ∷ 59 ∷ 58 ∷ 40 ∷ 41 ∷ 91 ∷ 93 ∷ 123 ∷ 125 ∷ []

-- the marks of one byte that are also marks before `=`, and no more: + - % & | ^ =
abbrev pub operator_marks : List ℕ
operator_marks = 43 ∷ 45 ∷ 37 ∷ 38 ∷ 124 ∷ 94 ∷ 61 ∷ []

abbrev pub mark_start : ℕ → Option State
mark_start b =
    if among b lone_marks then Some Ended else (if among b operator_marks then Some Operator else (if nat_eq b 42 then Some Star else (if nat_eq b 47 then Some Slash else (if nat_eq b 60 then Some Less else (if nat_eq b 62 then Some Greater else (if nat_eq b 33 then Some Bang else None))))))

abbrev pub number_start : ℕ → Option State
number_start b = if nat_eq b 48 then Some Zero else (if is_digit b then Some Whole else (if nat_eq b 46 then Some Point else None))

abbrev pub text_start : ℕ → Option State
text_start b =
    if nat_eq b 114 then Some PrefixR else (if nat_eq b 98 then Some PrefixB else (if nat_eq b 34 then Some (Opened Double) else (if nat_eq b 39 then Some (Opened Single) else (if nat_eq b 239 then Some High else (if is_letter b then Some Word else None)))))

abbrev pub word_move : ℕ → Option State
word_move b = if nat_eq b 239 then Some High else (if is_letter b || is_digit b then Some Word else None)

abbrev pub quote_or_word : ℕ → Option State
quote_or_word b = if nat_eq b 34 then Some (Opened Double) else (if nat_eq b 39 then Some (Opened Single) else word_move b)

-- after EF: BB is like U+FEFF so far
abbrev pub high_move : ℕ → Option State
high_move b = if nat_eq b 187 then Some HighMark else (if is_high b then Some HighOther else None)

abbrev pub zero_move : ℕ → Option State
zero_move b = if is_digit b then Some Whole else (if nat_eq b 46 then Some Fraction else (if is_e b then Some ExponentMark else (if is_x b then Some HexMark else (if is_o b then Some OctMark else None))))

abbrev pub whole_move : ℕ → Option State
whole_move b = if is_digit b then Some Whole else (if nat_eq b 46 then Some Fraction else (if is_e b then Some ExponentMark else None))

abbrev pub fraction_move : ℕ → Option State
fraction_move b = if is_digit b then Some Fraction else (if is_e b then Some ExponentMark else None)

abbrev pub exponent_move : ℕ → Option State
exponent_move b = if is_digit b then Some Exponent else (if is_sign b then Some ExponentSign else None)

-- after a mark that may occur twice, or before `=`
abbrev pub doubled_move : ℕ → ℕ → Option State
doubled_move mark b = if nat_eq b mark then Some Operator else (if nat_eq b 61 then Some Ended else None)

abbrev pub short_move : Quote → ℕ → Option State
short_move m b = if nat_eq b (quote_byte m) then Some Closed else (if nat_eq b 92 then Some (ShortTaken m) else (if nat_eq b 10 then None else Some (Short m)))

-- the first argument: the state after one more mark
abbrev pub long_move : State → Quote → ℕ → Option State
long_move r m b = if nat_eq b (quote_byte m) then Some r else (if nat_eq b 92 then Some (LongTaken m) else Some (Long m))

abbrev pub move : State → ℕ → Option State
move Start b = option_or (option_or (mark_start b) (number_start b)) (text_start b)
move Word b = word_move b
move PrefixR b = if nat_eq b 98 then Some PrefixBoth else quote_or_word b
move PrefixB b = if nat_eq b 114 then Some PrefixBoth else quote_or_word b
move PrefixBoth b = quote_or_word b
move High b = high_move b
move HighMark b = if nat_eq b 191 then None else (if is_high b then Some Word else None)
move HighOther b = if is_high b then Some Word else None
move Zero b = zero_move b
move Whole b = whole_move b
move HexMark b = if is_hexadecimal b then Some Hex else None
move Hex b = if is_hexadecimal b then Some Hex else None
move OctMark b = if is_octal b then Some Oct else None
move Oct b = if is_octal b then Some Oct else None
move Point b = if is_digit b then Some Fraction else None
move Fraction b = fraction_move b
move ExponentMark b = exponent_move b
move ExponentSign b = if is_digit b then Some Exponent else None
move Exponent b = if is_digit b then Some Exponent else None
move (Opened m) b = if nat_eq b (quote_byte m) then Some (Empty m) else short_move m b
move (Empty m) b = if nat_eq b (quote_byte m) then Some (Long m) else None
move (Short m) b = short_move m b
move (ShortTaken m) b = if nat_eq b 13 then Some (ShortReturn m) else Some (Short m)
move (ShortReturn m) b = if nat_eq b 10 then Some (Short m) else short_move m b
move (Long m) b = long_move (LongOne m) m b
move (LongOne m) b = long_move (LongTwo m) m b
move (LongTwo m) b = long_move Closed m b
move (LongTaken m) b = Some (Long m)
move Closed b = None
move Star b = if nat_eq b 42 || nat_eq b 61 then Some Ended else None
move Slash b = doubled_move 47 b
move Less b = doubled_move 60 b
move Greater b = doubled_move 62 b
move Bang b = if nat_eq b 61 then Some Ended else None
move Operator b = if nat_eq b 61 then Some Ended else None
move Ended b = None

-- what is read where the text ends here; a keyword is a Name here
abbrev pub ends : State → Option Class
ends Word = Some v.Name
ends PrefixR = Some v.Name
ends PrefixB = Some v.Name
ends PrefixBoth = Some v.Name
ends Zero = Some v.Number
ends Whole = Some v.Number
ends Hex = Some v.Number
ends Oct = Some v.Number
ends Fraction = Some v.Number
ends Exponent = Some v.Number
ends (Empty m) = Some v.String
ends Closed = Some v.String
ends Point = Some v.Mark
ends Star = Some v.Mark
ends Slash = Some v.Mark
ends Less = Some v.Mark
ends Greater = Some v.Mark
ends Operator = Some v.Mark
ends Ended = Some v.Mark
ends _ = None

abbrev pub may_end : State → Bool
may_end q = is_some (ends q)

-- after the first mark of a string that is not closed so far
abbrev pub is_in_string : State → Bool
is_in_string (Opened m) = true
is_in_string (Short m) = true
is_in_string (ShortTaken m) = true
is_in_string (ShortReturn m) = true
is_in_string (Long m) = true
is_in_string (LongOne m) = true
is_in_string (LongTwo m) = true
is_in_string (LongTaken m) = true
is_in_string _ = false

-- the class that the machine gives a whole text, read from a state
abbrev pub reads : State → List ℕ → Option Class
reads q s = and_next (after move q s) ends

-- a Name of the table is a Keyword
abbrev pub keyword_or_name : Class → List ℕ → Class
keyword_or_name v.Name s = if is_keyword s then v.Keyword else v.Name
keyword_or_name c s = c

-- an empty string, with or without a prefix, right before a third mark
abbrev pub before_third : State → List ℕ → Bool
before_third (Empty m) (b ∷ s) = nat_eq b (quote_byte m)
before_third q s = false

-- the state after the longest front, and its length
unfoldable pub longest_front : List ℕ → Option (State × ℕ)
longest_front s = longest move may_end Start s
