-- Templates: numbers and names of groups, references, and what is passed over.
use Rattle.bz_command_syntax.proofs.Imported.{[], ◌&&◌, ◌+◌, ◌<◌, ◌==◌, ◌||◌, ◌∷◌, ◌≡◌, ◌≢◌, ◌≤◌, arith, backslash, Bool, bytes_eq, cases_Bool, dollar_sign, drop, false, false_from_ne_true, group_called, has_escaped_digit, if◌then◌else◌, inl, inr, is_ascii_digit, is_missing, is_name_byte, is_utf8, is_utf8-from_IsUtf8, IsUtf8, IsUtf8-from_is_utf8, le-ltb, length, List, list_any, lt-leb, lt-ltb, missing_after, name_at, name_is_text, Names, nat_le, nat_lt, ne_eqb, None, not, number_in, Option, option_map_or, position_from, prefix_len, refl, slice_index, Some, suc, take, true, zero, ℕ}
use Rattle.regex_hir.specs.Text.{is_some_and}
use Rattle.bz_command_syntax.specs.private.Braces.{left_brace, right_brace}

-- ---- groups

module _ (names : Names) (name : List ℕ) where
  pub missing_number : (number : ℕ) → number_in name ≡ Some number → is_missing names name ≡ nat_le (length names) number
  unfolding group_called
  missing_number number is = rw is refl

  abbrev is_own : Option (List ℕ) → Bool
  is_own other = is_some_and other (bytes_eq name)

  -- by the place of the name from a number on, of as many groups
  missing_from : (at count : ℕ) (groups : Names) → at + length groups ≤ count → option_map_or (nat_le count) (position_from is_own at groups) true ≡ not (list_any is_own groups)
  missing_from at count [] all = refl
  missing_from at count (group ∷ groups) all = elim (cases_Bool (is_own group)) [
    | inl w ↦ rw (w, lt-leb count at (omega (arith, all))) refl
    | inr w ↦ rw w (missing_from (at + 1) count groups (omega (arith, all)))
  ]

  pub missing_name : number_in name ≡ None → is_missing names name ≡ not (list_any is_own names)
  unfolding group_called
  missing_name no_number = rw no_number (missing_from 0 (length names) names (omega arith))

-- ---- references

nowhere : {A : Type 0} (test : Bool) (x : Option A) → (if test && false then x else None) ≡ None
nowhere true x = refl
nowhere false x = refl

module _ (inside : List ℕ) (len : ℕ) (is_len : len ≡ prefix_len (λ byte. not (byte == right_brace)) inside) where
  pub not_closed : length inside ≤ len → name_at (left_brace ∷ inside) ≡ None
  unfolding name_at
  not_closed past = rw (← is_len, le-ltb _ _ past) refl

  pub no_text : (IsUtf8 (take len inside) → ⊥) → name_at (left_brace ∷ inside) ≡ None
  unfolding name_at
  no_text other = rw (← is_len, false_from_ne_true (is_utf8 (take len inside)) (λ is. other (IsUtf8-from_is_utf8 _ is))) (nowhere (nat_lt len (length inside)) _)

  pub in_braces : len < length inside → IsUtf8 (take len inside) → name_at (left_brace ∷ inside) ≡ Some (take len inside, len + 2)
  unfolding name_at
  in_braces closed text = rw (← is_len, lt-ltb _ _ closed, is_utf8-from_IsUtf8 _ text) refl

module _ (rest : List ℕ) (len : ℕ) (is_bare : (slice_index rest 0 == left_brace) ≡ false) (is_len : len ≡ prefix_len is_name_byte rest) where
  pub no_name : len ≡ 0 → name_at rest ≡ None
  unfolding name_at
  no_name none = rw (is_bare, ← is_len, none) refl

  pub name_is_utf8 : IsUtf8 (take len rest)
  name_is_utf8 = rw is_len (name_is_text rest)

  pub bare : len ≢ 0 → name_at rest ≡ Some (take len rest, len)
  unfolding name_at
  bare some = let there : 0 < len = omega (arith, some) in rw (is_bare, ← is_len, lt-ltb _ _ there) refl

pub nothing_there : (rest : List ℕ) → length rest ≡ 0 → name_at rest ≡ None
unfolding name_at
nothing_there [] none = refl
nothing_there (byte ∷ rest) none = absurd cc

module _ (names : Names) (byte : ℕ) (rest : List ℕ) where
  pub no_dollar_sign : byte ≢ dollar_sign → missing_after names (byte ∷ rest) 0 ≡ missing_after names rest 0
  unfolding missing_after
  no_dollar_sign other = rw (ne_eqb byte dollar_sign other) refl

  module _ (is_dollar_sign : byte ≡ dollar_sign) where
    pub two_dollar_signs : slice_index rest 0 ≡ dollar_sign → missing_after names (byte ∷ rest) 0 ≡ missing_after names rest 1
    unfolding missing_after
    two_dollar_signs again = rw (is_dollar_sign, again) refl

    module _ (is_one : slice_index rest 0 ≢ dollar_sign) where
      pub no_reference : None ≡ name_at rest → missing_after names (byte ∷ rest) 0 ≡ missing_after names rest 0
      unfolding missing_after
      no_reference none = rw (is_dollar_sign, ne_eqb _ dollar_sign is_one, ← none) refl

      module _ (name : List ℕ) (len : ℕ) (reference : Some (name, len) ≡ name_at rest) where
        pub missing_there : true ≡ is_missing names name → missing_after names (byte ∷ rest) 0 ≡ Some name
        unfolding missing_after
        missing_there missing = rw (is_dollar_sign, ne_eqb _ dollar_sign is_one, ← reference, ← missing) refl

        pub not_missing_there : false ≡ is_missing names name → missing_after names (byte ∷ rest) 0 ≡ missing_after names rest len
        unfolding missing_after
        not_missing_there found = rw (is_dollar_sign, ne_eqb _ dollar_sign is_one, ← reference, ← found) refl

pub first_there : (rest : List ℕ) → slice_index rest 0 ≡ dollar_sign → 1 ≤ length rest
first_there [] is = absurd cc
first_there (byte ∷ rest) is = omega arith

-- ---- what is passed over

pub after_passed : (names : Names) (template : List ℕ) (passed : ℕ) → missing_after names template passed ≡ missing_after names (drop passed template) 0
unfolding missing_after
after_passed names template zero = refl
after_passed names [] (suc passed) = refl
after_passed names (byte ∷ template) (suc passed) = after_passed names template passed

pub none_missing : (names : Names) (template : List ℕ) → length template ≡ 0 → missing_after names template 0 ≡ None
unfolding missing_after
none_missing names [] none = refl
none_missing names (byte ∷ rest) none = absurd cc

-- ---- digits after a backslash

either_false : (test other : Bool) → (test && false || other) ≡ other
either_false true other = refl
either_false false other = refl

module _ (byte : ℕ) (rest : List ℕ) where
  pub escaped_there : byte ≡ backslash → true ≡ is_ascii_digit (slice_index rest 0) → has_escaped_digit (byte ∷ rest) ≡ true
  unfolding has_escaped_digit
  escaped_there is_backslash is_digit = rw (is_backslash, ← is_digit) refl

  pub no_backslash : byte ≢ backslash → has_escaped_digit (byte ∷ rest) ≡ has_escaped_digit rest
  unfolding has_escaped_digit
  no_backslash other = rw (ne_eqb byte backslash other) refl

  pub no_digit : false ≡ is_ascii_digit (slice_index rest 0) → has_escaped_digit (byte ∷ rest) ≡ has_escaped_digit rest
  unfolding has_escaped_digit
  no_digit other = rw (← other) (either_false (byte == backslash) _)

pub none_escaped : (template : List ℕ) → length template ≡ 0 → has_escaped_digit template ≡ false
unfolding has_escaped_digit
none_escaped [] none = refl
none_escaped (byte ∷ rest) none = absurd cc
