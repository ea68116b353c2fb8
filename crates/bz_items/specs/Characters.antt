-- Texts as lists of bytes, and the characters of contracts by their names.
use Rattle.std.specs.Prelude.{ℕ, List}

-- the bytes of a text
abbrev pub Bytes : Type 0
Bytes = List ℕ

abbrev pub tab : ℕ
tab = 9

abbrev pub line_feed : ℕ
line_feed = 10

abbrev pub carriage_return : ℕ
carriage_return = 13

abbrev pub space : ℕ
space = 32

abbrev pub quotation_mark : ℕ
quotation_mark = 34

abbrev pub number_sign : ℕ
number_sign = 35

abbrev pub apostrophe : ℕ
apostrophe = 39

abbrev pub asterisk : ℕ
asterisk = 42

abbrev pub comma : ℕ
comma = 44

abbrev pub full_stop : ℕ
full_stop = 46

abbrev pub colon : ℕ
colon = 58

abbrev pub equals_sign : ℕ
equals_sign = 61

abbrev pub backslash : ℕ
backslash = 92

abbrev pub letter_f : ℕ
letter_f = 102

abbrev pub letter_k : ℕ
letter_k = 107

abbrev pub letter_n : ℕ
letter_n = 110

abbrev pub vertical_bar : ℕ
vertical_bar = 124
