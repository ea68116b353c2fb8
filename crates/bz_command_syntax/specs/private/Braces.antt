-- The braces around the name of a group.
use Rattle.std.specs.Prelude.{ℕ}

abbrev pub left_brace : ℕ
left_brace = 123

abbrev pub right_brace : ℕ
right_brace = 125
