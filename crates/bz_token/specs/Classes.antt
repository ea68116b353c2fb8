-- The classes of tokens and their numbers: Name 1, Keyword 2, Number 3, String 4, Mark 5, Newline 6, End 7.
use Rattle.std.specs.Prelude.{ℕ, Option, None, List, [], ◌∷◌, ◌-◌, nat_eq, if◌then◌else◌, slice_get}
use Rattle.bz_token.specs.declared.class.Class.{Class}
use Rattle.bz_token.specs.declared.class.Class.TheVariants as v

abbrev pub class_number : Class → ℕ
class_number v.Name = 1
class_number v.Keyword = 2
class_number v.Number = 3
class_number v.String = 4
class_number v.Mark = 5
class_number v.Newline = 6
class_number v.End = 7

-- in the order of their numbers, from 1
abbrev pub class_list : List Class
class_list = v.Name ∷ v.Keyword ∷ v.Number ∷ v.String ∷ v.Mark ∷ v.Newline ∷ v.End ∷ []

abbrev pub class_of : ℕ → Option Class
class_of n = if nat_eq n 0 then None else slice_get class_list (n - 1)
