-- The reader of numbers is exact.
use Rattle.bz_journal_format.proofs.Words.{[], ◌%◌, ◌&&◌, ◌*◌, ◌++◌, ◌+◌, ◌-◌, ◌/◌, ◌<◌, ◌>>=◌, ◌∙◌, ◌∷◌, ◌≡◌, ◌≤◌, after_mark, and_parts, ap, append-nil, append_assoc, arith, Bool, cases_Bool, cond, decimal, digits_at, eqb-true, false, inl, inr, is_digit, IsExact, IsUnread, le-leb, leb-true, List, lt-leb, lt-ltb, ltb-true, nat_eq, nat_le, nat_lt, nat_tests, None, number_at, number_limit, numeral, Option, refl, Some, subst, suc, sym, tested, true, Unread, Unread as u, up_to, zero, ℕ}
use Rattle.std.proofs.lemmas.Fmt.{decimal_digit, decimal_step, decimal_by_steps}
use Rattle.bz_journal_format.proofs.Chains.{bind_some, same_read, after_own, after_answered}

-- the digits of a number, whatever follows them
abbrev Goes : ℕ → ℕ → List ℕ → Type 0
Goes stop n ds = 0 < n → n < number_limit → (s : List ℕ) → number_at stop (ds ++ s) ≡ digits_at stop n s

digit_is : (b : ℕ) → 48 ≤ b → b ≤ 57 → is_digit b ≡ true
digit_is b low high = grind (arith, nat_tests)

digit_within : (b : ℕ) → is_digit b ≡ true → (48 ≤ b) × (b ≤ 57)
digit_within b h = let p = and_parts (nat_le 48 b) (nat_le b 57) h in (leb-true 48 b p.0, leb-true b 57 p.1)

cond_reads : {A : Type 0} (t : Bool) (o : Option A) (x : A) → cond t o None ≡ Some x → (t ≡ true) × (o ≡ Some x)
cond_reads true o x e = (refl, e)
cond_reads false o x e = absurd cc

module _ (stop : ℕ) (no_digit : is_digit stop ≡ false) where
  stop_is : (d : ℕ) → 48 ≤ d → d ≤ 57 → nat_eq d stop ≡ false
  stop_is d low high = grind (arith, nat_tests)

  one_digit : (n : ℕ) → n < 10 → Goes stop n ((48 + n) ∷ [])
  unfolding number_at
  one_digit n lt positive fits s =
      let z : nat_eq (48 + n) 48 ≡ false = grind (arith, nat_tests) in
      let d : is_digit (48 + n) ≡ true = digit_is (48 + n) (omega arith) (omega arith) in
      let v : 48 + n - 48 ≡ n = omega arith in
      rw (z, d, v) refl

  more_digits : (n : ℕ) (ds : List ℕ) → 10 ≤ n → Goes stop (n / 10) ds → Goes stop n (ds ++ ((48 + n % 10) ∷ []))
  unfolding digits_at
  more_digits n ds ten before positive fits s =
      let d : ℕ = 48 + n % 10 in
      let first = before (omega arith) (omega arith) (d ∷ s) in
      let a : nat_eq d stop ≡ false = stop_is d (omega arith) (omega arith) in
      let b : is_digit d ≡ true = digit_is d (omega arith) (omega arith) in
      let v : n / 10 * 10 + (d - 48) ≡ n = omega arith in
      let c : nat_lt n number_limit ≡ true = lt-ltb n number_limit fits in
      let step : digits_at stop (n / 10) (d ∷ s) ≡ digits_at stop n s = rw (a, b, v, c) refl in
      ap (number_at stop) (append_assoc ds (d ∷ []) s) ∙ first ∙ step

  all_digits : (n : ℕ) → n < number_limit → Goes stop n (decimal n)
  all_digits n fits = decimal_by_steps (Goes stop) one_digit more_digits n (omega arith)

  at_stop : (n : ℕ) (s : List ℕ) → digits_at stop n (stop ∷ s) ≡ Some (n, s)
  unfolding digits_at
  at_stop n s = let e : nat_eq stop stop ≡ true = grind (arith, nat_tests) in rw e refl

  number_complete : (n : ℕ) (rest : List ℕ) → n < number_limit → number_at stop ((decimal n ++ stop ∷ []) ++ rest) ≡ Some (n, rest)
  unfolding number_at
  number_complete zero rest fits =
      ap (λ t. number_at stop ((t ++ stop ∷ []) ++ rest)) (decimal_digit 0 (omega arith)) ∙ ap (λ (o : Option (List ℕ)). o >>= λ r. Some (0, r)) (after_own (stop ∷ []) rest)
  number_complete (suc n) rest fits =
      ap (number_at stop) (append_assoc (decimal (suc n)) (stop ∷ []) rest) ∙ all_digits (suc n) fits (omega arith) fits (stop ∷ rest) ∙ at_stop (suc n) rest

  -- what was read of digits after those of n
  record Further (n w : ℕ) (s rest : List ℕ) : Type 0 where
    digits : List ℕ
    written : decimal w ≡ decimal n ++ digits
    spelled : s ≡ digits ++ (stop ∷ rest)
    fits : w < number_limit

  next_digits : (n b : ℕ) → 0 < n → n * 10 + (b - 48) < number_limit → 48 ≤ b → b ≤ 57 → decimal (n * 10 + (b - 48)) ≡ decimal n ++ (b ∷ [])
  next_digits n b positive fits low high =
      let m : ℕ = n * 10 + (b - 48) in
      let front : m / 10 ≡ n = omega arith in
      let last : 48 + m % 10 ≡ b = omega arith in
      let e = decimal_step m (omega arith) (omega arith) in
      e ∙ ap (λ k. decimal k ++ ((48 + m % 10) ∷ [])) front ∙ ap (λ k. decimal n ++ (k ∷ [])) last

  digits_sound : (n w : ℕ) (s rest : List ℕ) → 0 < n → n < number_limit → digits_at stop n s ≡ Some (w, rest) → Further n w s rest
  unfolding digits_at
  digits_sound n w [] rest positive fits e = absurd cc
  digits_sound n w (b ∷ s) rest positive fits e = elim (cases_Bool (nat_eq b stop)) [
    | inl yes' ↦
        let g = same_read n w s rest (rw yes' at e) in
        let here : b ≡ stop = eqb-true b stop yes' in
        record {
          digits = [];
          written = ap decimal (sym g.0) ∙ sym (append-nil (decimal n));
          spelled = ap (λ k. k ∷ s) here ∙ ap (λ t. stop ∷ t) g.1;
          fits = subst (λ k. k < number_limit) g.0 fits;
        }
    | inr no' ↦
        let m : ℕ = n * 10 + (b - 48) in
        let g = cond_reads (is_digit b && nat_lt m number_limit) (digits_at stop m s) (w, rest) (rw no' at e) in
        let p = and_parts (is_digit b) (nat_lt m number_limit) g.0 in
        let d = digit_within b p.0 in
        let below : m < number_limit = ltb-true m number_limit p.1 in
        let r = digits_sound m w s rest (omega arith) below g.1 in
        record {
          digits = b ∷ r.digits;
          written = r.written ∙ ap (λ t. t ++ r.digits) (next_digits n b positive below d.0 d.1) ∙ append_assoc (decimal n) (b ∷ []) r.digits;
          spelled = ap (λ t. b ∷ t) r.spelled;
          fits = r.fits;
        }
  ]

  number_sound : (s : List ℕ) (n : ℕ) (rest : List ℕ) → number_at stop s ≡ Some (n, rest) → (n < number_limit) × (s ≡ (decimal n ++ stop ∷ []) ++ rest)
  unfolding number_at
  number_sound [] n rest e = absurd cc
  number_sound (b ∷ s) n rest e = elim (cases_Bool (nat_eq b 48)) [
    | inl yes' ↦
        let g = bind_some (after_mark (stop ∷ []) s) (λ r. Some (0, r)) (n, rest) (rw yes' at e) in
        let h = same_read 0 n g.0 rest g.2 in
        let here : b ≡ 48 = eqb-true b 48 yes' in
        let written : decimal n ≡ 48 ∷ [] = ap decimal (sym h.0) ∙ decimal_digit 0 (omega arith) in (
          omega (arith, h.0),
          ap (λ k. k ∷ s) here ∙ ap (λ t. 48 ∷ t) (after_answered (stop ∷ []) s g.0 g.1 ∙ ap (λ t. stop ∷ t) h.1) ∙ ap (λ t. (t ++ stop ∷ []) ++ rest) (sym written),
        )
    | inr no' ↦
        let g = cond_reads (is_digit b) (digits_at stop (b - 48) s) (n, rest) (rw no' at e) in
        let d = digit_within b g.0 in
        let other : b ≡ 48 → ⊥ = λ h. grind (arith, nat_tests) in
        let r = digits_sound (b - 48) n s rest (omega arith) (omega arith) g.1 in
        let first : decimal (b - 48) ≡ b ∷ [] = decimal_digit (b - 48) (omega arith) ∙ ap (λ k. k ∷ []) (let v : 48 + (b - 48) ≡ b = omega arith in v) in
        let written : decimal n ≡ b ∷ r.digits = r.written ∙ ap (λ t. t ++ r.digits) first in (
          r.fits,
          ap (λ t. b ∷ t) r.spelled ∙ sym (append_assoc (b ∷ r.digits) (stop ∷ []) rest) ∙ ap (λ t. (t ++ stop ∷ []) ++ rest) (sym written),
        )
  ]

  pub number_exact : IsExact ℕ (numeral stop) (λ n. n < number_limit) (number_at stop)
  number_exact = record { sound = number_sound; complete = number_complete }

-- a number up to a limit, by the number that is read
module _ (limit stop : ℕ) (s : List ℕ) where
  pub up_to_read : (n : ℕ) (rest : List ℕ) → number_at stop s ≡ Some (n, rest) → n ≤ limit → up_to limit stop s ≡ Some (n, rest)
  unfolding tested
  up_to_read n rest e le = rw (e, le-leb n limit le) refl

  pub up_to_past : (n : ℕ) (rest : List ℕ) → number_at stop s ≡ Some (n, rest) → limit < n → up_to limit stop s ≡ None
  unfolding tested
  up_to_past n rest e lt = rw (e, lt-leb n limit lt) refl

  pub up_to_unread : (e : Unread) → IsUnread e (number_at stop s) → IsUnread e (up_to limit stop s)
  unfolding tested
  up_to_unread u.Memory read = tt
  up_to_unread u.Damaged read = rw read refl
