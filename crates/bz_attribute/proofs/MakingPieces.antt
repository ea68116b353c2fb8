-- The pieces of a text between its dots, cut off one after the other.
use Rattle.bz_attribute.proofs.Words.{[], ◌+◌, ◌-◌, ◌<◌, ◌∙◌, ◌∷◌, ◌≡◌, ap, arith, Bool, cond, drop, false, full_stop, length, List, nat_eq, nat_lt, None, position, position_or_len, refl, slice_split, Some, sym, take, true, ℕ}
use Rattle.std.proofs.{lemmas.Bool.Decides.nat_tests, lemmas.List.take_rest, lemmas.List.Splits.slice_split_none, lemmas.List.Splits.slice_split_first}
use Rattle.bz_attribute.proofs.ArgumentPlaces.{none_passes}

abbrev is_dot : ℕ → Bool
is_dot byte = nat_eq byte full_stop

-- a choice that gives something
chosen : (b : Bool) (n at : ℕ) → cond b (Some n) None ≡ Some at → (b ≡ true) × (n ≡ at)
chosen true n at e = (refl, cc)
chosen false n at e = cc

below : (m n : ℕ) → nat_lt m n ≡ true → m < n
below m n e = grind (arith, nat_tests)

-- the first piece ends before the first dot
pub piece_found : (xs : List ℕ) (at : ℕ) → Some at ≡ position is_dot xs → take at xs ∷ slice_split is_dot (take (length xs - (at + 1)) (drop (at + 1) xs)) ≡ slice_split is_dot xs
piece_found xs at e =
    let here = chosen (nat_lt (position_or_len is_dot xs) (length xs)) (position_or_len is_dot xs) at (sym e) in
    ap (λ rest. take at xs ∷ slice_split is_dot rest) (take_rest xs (at + 1))
    ∙ sym (slice_split_first is_dot xs 0 (below _ _ here.0) ∙ ap (λ n. take n xs ∷ slice_split is_dot (drop (n + 1) xs)) here.1)

-- where there is none, there is one piece
pub piece_alone : (xs : List ℕ) → None ≡ position is_dot xs → slice_split is_dot xs ≡ xs ∷ []
piece_alone xs e = slice_split_none is_dot xs (none_passes is_dot xs e).all
