-- The number that digits write, digit by digit.
use Rattle.bz_command_line.proofs.Words.{[], ◌&&◌, ◌*◌, ◌+◌, ◌-◌, ◌<◌, ◌^◌, ◌∙◌, ◌∷◌, ◌≡◌, ◌≤◌, ap, arith, count_of, fold, le-ltb, List, lt-ltb, nat_lt, None, refl, Some, ℕ}
use Rattle.std.specs.Str.{all_ascii_digits}
use Rattle.std.proofs.Math.Bool.{and-false}

-- the number whose decimal digits are those of the first number and then these
abbrev pub number_after : ℕ → List ℕ → ℕ
number_after number digits = fold (λ so_far digit. so_far * 10 + (digit - 48)) number digits

-- what a count is does not hang on the digits before what is left
pub record Counted (word : List ℕ) (count : ℕ) (left : List ℕ) : Type 0 where
  pub digits : all_ascii_digits word ≡ all_ascii_digits left
  pub number : number_after 0 word ≡ number_after count left

number_after-grows : (number : ℕ) (digits : List ℕ) → number ≤ number_after number digits
number_after-grows number [] = omega arith
number_after-grows number (digit ∷ rest) = let more = number_after-grows (number * 10 + (digit - 48)) rest in omega arith

too_large : (word : List ℕ) → 2 ^ 32 ≤ number_after 0 word → count_of word ≡ None
too_large word large =
    rw (le-ltb (number_after 0 word) (2 ^ 32) large, and-false (all_ascii_digits word && nat_lt 0 (number_after 0 word))) refl

-- a digit with which the number passes the greatest one
pub count_large : (word : List ℕ) (count : ℕ) (left : List ℕ) (byte : ℕ) (rest : List ℕ) → Counted word count left → left ≡ byte ∷ rest
    → 2 ^ 32 ≤ count * 10 + (byte - 48) → count_of word ≡ None
count_large word count left byte rest so split large =
    too_large word (let e = so.number ∙ ap (number_after count) split in let grows = number_after-grows (count * 10 + (byte - 48)) rest in omega arith)

-- nothing is left
pub count_ends : (word : List ℕ) (count : ℕ) → Counted word count [] → 0 < count → count < 2 ^ 32 → count_of word ≡ Some count
count_ends word count so some small = rw (so.digits, so.number, lt-ltb 0 count some, lt-ltb count (2 ^ 32) small) refl
