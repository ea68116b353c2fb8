-- The quote marks of strings, and what is between them.
use Rattle.std.specs.Prelude.{ℕ, Bool, false, ◌&&◌, ◌||◌, ◌-◌, ◌*◌, [], ◌∷◌, if◌then◌else◌, take, drop, length, nat_eq, nat_le}
use Rattle.bz_grammar.specs.declared.kind.Kind.TheVariants as k
use Rattle.bz_value.specs.declared.value.Expr.{Expr}
use Rattle.bz_items.specs.Characters.{Bytes, apostrophe, quotation_mark}
use Rattle.bz_rule.specs.Values.{has_kind, text_of, first_text, parts_of}

abbrev pub is_quote_mark : ℕ → Bool
is_quote_mark character = nat_eq character quotation_mark || nat_eq character apostrophe

-- the text after a prefix
abbrev pub unprefixed : Bytes → Bytes
unprefixed [] = []
unprefixed (c ∷ s) = if is_quote_mark c then c ∷ s else unprefixed s

abbrev pub begins_thrice : Bytes → Bool
begins_thrice (a ∷ b ∷ c ∷ s) = nat_eq a b && nat_eq b c
begins_thrice _ = false

-- how many quote marks are at each end of a string without prefix
abbrev pub marks_of : Bytes → ℕ
marks_of text = if begins_thrice text && nat_le 6 (length text) then 3 else 1

-- what is between the n characters at each end
abbrev pub inside : ℕ → Bytes → Bytes
inside n text = take (length text - 2 * n) (drop n text)

-- the text between the quote marks of a string
abbrev pub between : Bytes → Bytes
between text = inside (marks_of (unprefixed text)) (unprefixed text)

-- The name that a symbol has in the file that loads it: an alias's name, else the text between the quote marks.
abbrev pub local_name : Expr → Bytes
local_name x = if has_kind k.Alias x then first_text (parts_of x) else between (text_of x)
