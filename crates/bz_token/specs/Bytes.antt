-- Tests on bytes.
use Rattle.std.specs.Prelude.{ℕ, Bool, true, false, List, [], ◌∷◌, ◌&&◌, ◌||◌, nat_eq, nat_le, if◌then◌else◌}

-- one of these bytes
abbrev pub among : ℕ → List ℕ → Bool
among b [] = false
among b (c ∷ s) = nat_eq b c || among b s

-- a space, a tab or a carriage return
abbrev pub is_blank : ℕ → Bool
is_blank b = nat_eq b 32 || (nat_eq b 9 || nat_eq b 13)

-- no byte of a gap begins a token: neither a blank nor a backslash, a `#` or a newline
abbrev pub is_solid : ℕ → Bool
is_solid b = if is_blank b || (nat_eq b 92 || (nat_eq b 35 || nat_eq b 10)) then false else true

-- a space, a newline, `,` `(` `)` `[` and `]`
abbrev pub separators : List ℕ
separators = 32 ∷ 10 ∷ 44 ∷ 40 ∷ 41 ∷ 91 ∷ 93 ∷ []

abbrev pub is_separator : ℕ → Bool
is_separator b = among b separators

-- `(` `)` `[` `]` and `,`
abbrev pub brackets_and_comma : List ℕ
brackets_and_comma = 40 ∷ 41 ∷ 91 ∷ 93 ∷ 44 ∷ []

abbrev pub is_bracket_or_comma : ℕ → Bool
is_bracket_or_comma b = among b brackets_and_comma

-- 0 to 9
abbrev pub is_digit : ℕ → Bool
is_digit b = nat_le 48 b && nat_le b 57

-- 0 to 7
abbrev pub is_octal : ℕ → Bool
is_octal b = nat_le 48 b && nat_le b 55

-- 0 to 9, A to F, a to f
abbrev pub is_hexadecimal : ℕ → Bool
is_hexadecimal b = is_digit b || ((nat_le 65 b && nat_le b 70) || (nat_le 97 b && nat_le b 102))

-- x or X
abbrev pub is_x : ℕ → Bool
is_x b = nat_eq b 88 || nat_eq b 120

-- o or O
abbrev pub is_o : ℕ → Bool
is_o b = nat_eq b 79 || nat_eq b 111

-- e or E
abbrev pub is_e : ℕ → Bool
is_e b = nat_eq b 69 || nat_eq b 101

-- + or -
abbrev pub is_sign : ℕ → Bool
is_sign b = nat_eq b 43 || nat_eq b 45

-- a byte of a character from U+0080 on
abbrev pub is_high : ℕ → Bool
is_high b = nat_le 128 b

-- A to Z, a to z, `_`, or a byte of a character from U+0080 on
abbrev pub is_letter : ℕ → Bool
is_letter b = (nat_le 65 b && nat_le b 90) || ((nat_le 97 b && nat_le b 122) || (nat_eq b 95 || is_high b))

-- " or '
abbrev pub is_quote : ℕ → Bool
is_quote b = nat_eq b 34 || nat_eq b 39
