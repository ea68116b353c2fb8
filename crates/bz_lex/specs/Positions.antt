-- Lines and columns of a text, from 1.
use Rattle.std.specs.Prelude.{ℕ, ◌+◌, Bool, not, ◌&&◌, nat_eq, nat_le, List, take, count_by, take_while, reverse}
use Rattle.bz_items.specs.Characters.{line_feed}

abbrev pub is_newline : ℕ → Bool
is_newline byte = nat_eq byte line_feed

-- UTF-8: a byte that goes on with a character
abbrev pub is_continuation : ℕ → Bool
is_continuation byte = nat_le 128 byte && nat_le byte 191

-- 1 and the number of newlines before
abbrev pub line_at : List ℕ → ℕ → ℕ
line_at text offset = count_by is_newline (take offset text) + 1

-- 1 and the number of characters since the last newline before
abbrev pub column_of : List ℕ → ℕ → ℕ
column_of text offset = count_by (λ byte. not (is_continuation byte)) (take_while (λ byte. not (is_newline byte)) (reverse (take offset text))) + 1
