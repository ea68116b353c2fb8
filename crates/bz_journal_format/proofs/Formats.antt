-- The readers of fields and digests are exact, and so is what is counted and listed.
use Rattle.bz_journal_format.proofs.Words.{[], ◌*◌, ◌++◌, ◌<◌, ◌>>=◌, ◌∙◌, ◌∷◌, ◌≡◌, ◌≤◌, after_mark, AllByRecursion, ap, append_assoc, arith, Bool, bytes_eq, bytes_eq-Decides, cond, cond_some, counted_at, counted_text, decode_sized, digest_at, drop, drop_at, encode_lower, Err, false, field_at, flat_map, is_digit, IsDigest, IsExact, le-ltb, length, length-append, length-take, line_feed, List, listed_at, lower_digits, ltb, ltb-false, nat_le, None, number_at, number_limit, numeral, Ok, ok_value, Reader, refl, repeated, Result, same_Some, Some, subst, sym, take, take-append-drop, take_at, tested, true, up_to, ℕ}
use Rattle.hex.specs.declared.error.FromHexError.{FromHexError}
use Rattle.hex.proofs.HexLemmas.{decode_of-ok, decode_sized-twice, decode_sized-encode_lower, length-encode_with}
use Rattle.bz_journal_format.proofs.Chains.{bind_some, same_read, after_own, after_answered, AreAll, repeated_exact, then_exact, so}
use Rattle.bz_journal_format.proofs.Counting.{number_exact}

cond_other : {A : Type 0} (b : Bool) (x y : A) → cond b None (Some x) ≡ Some y → (b ≡ false) × (x ≡ y)
cond_other true x y e = absurd cc
cond_other false x y e = (refl, same_Some x y e)

-- ---- bytes

field_sound : (n : ℕ) (s t rest : List ℕ) → field_at n s ≡ Some (t, rest) → (length t ≡ n) × (s ≡ t ++ rest)
unfolding field_at
field_sound n s t rest e =
    let g = cond_other (ltb (length s) n) (take n s, drop n s) (t, rest) e in
    let f = same_read (take n s) t (drop n s) rest (ap (λ x. Some x) g.1) in
    let long : n ≤ length s = ltb-false (length s) n g.0 in
    let len : length (take n s) ≡ n = omega (arith, length-take n s) in
    (sym (ap length f.0) ∙ len, sym (take-append-drop n s) ∙ ap (λ z. z ++ drop n s) f.0 ∙ ap (λ z. t ++ z) f.1)

field_complete : (n : ℕ) (t rest : List ℕ) → length t ≡ n → field_at n (t ++ rest) ≡ Some (t, rest)
unfolding field_at
field_complete n t rest e =
    let long : ltb (length (t ++ rest)) n ≡ false = le-ltb (length (t ++ rest)) n (omega (arith, length-append t rest)) in
    rw (long, take_at t rest n e, drop_at t rest n e) refl

pub field_exact : (n : ℕ) → IsExact (List ℕ) (λ t. t) (λ t. length t ≡ n) (field_at n)
field_exact n = record { sound = field_sound n; complete = field_complete n }

-- ---- a test

pub tested_exact : {X : Type 0} (test : X → Bool) (spell : X → List ℕ) (P : X → Type 0) (go : Reader X) → IsExact X spell P go → IsExact X spell (λ x. P x × (test x ≡ true)) (tested test go)
unfolding tested
tested_exact {X = X} test spell P go exact = record {
  sound = λ s x rest e.
      let b = bind_some (go s) (λ y. cond (test y.0) (Some y) None) (x, rest) e in
      let g = cond_some (test b.0.0) b.0 (x, rest) b.2 in
      let q = exact.sound s x rest (b.1 ∙ ap (λ y. Some y) g.1) in
      ((q.0, ap (λ (y : X × List ℕ). test y.0) (sym g.1) ∙ g.0), q.1);
  complete = λ x rest p.
      let e = exact.complete x rest p.0 in
      let t = p.1 in
      rw (e, t) refl;
}

-- ---- a count, and what is counted

module _ (stop : ℕ) (no_digit : is_digit stop ≡ false) where
  pub counted_exact : IsExact (List ℕ) (counted_text stop) (λ t. length t < number_limit) (counted_at stop)
  unfolding counted_at
  counted_exact = so (λ t. refl) (λ t p. p.0) (λ t p. (p, refl)) (then_exact length (numeral stop) (λ n. n < number_limit) (number_at stop) (λ t. t) (λ n t. length t ≡ n) field_at (λ n t p. p) (number_exact stop no_digit) field_exact)

  pub listed_exact : {X : Type 0} (spell : X → List ℕ) (P : X → Type 0) (go : Reader X) → IsExact X spell P go
      → IsExact (List X) (λ xs. numeral stop (length xs) ++ flat_map spell xs) (λ xs. (length xs < number_limit) × AllByRecursion P xs) (listed_at stop go)
  unfolding listed_at
  listed_exact spell P go exact = so (λ xs. refl) (λ xs p. (p.0, p.1.1)) (λ xs p. (p.0, (refl, p.1))) (then_exact length (numeral stop) (λ n. n < number_limit) (number_at stop) (flat_map spell) (AreAll P) (repeated go) (λ n xs p. p.0) (number_exact stop no_digit) (repeated_exact spell P go exact))

  pub up_to_exact : (limit : ℕ) → IsExact ℕ (numeral stop) (λ n. (n < number_limit) × (nat_le n limit ≡ true)) (up_to limit stop)
  up_to_exact limit = tested_exact (λ n. nat_le n limit) (numeral stop) (λ n. n < number_limit) (number_at stop) (number_exact stop no_digit)

-- ---- digests

ok_is : {A : Type 0} (r : Result A FromHexError) (x : A) → ok_value r ≡ Some x → r ≡ Ok x
ok_is (Ok y) x e = ap (λ z. Ok z) (same_Some y x e)
ok_is (Err f) x e = absurd cc

pub digest_exact : IsExact (List ℕ) (λ d. encode_lower d ++ line_feed ∷ []) IsDigest digest_at
unfolding digest_at
digest_exact = record {
  sound = λ s d rest e.
      let h = bind_some (field_at 64 s) (λ hex. ok_value (decode_sized hex.0 32) >>= λ x. after_mark (line_feed ∷ []) hex.1 >>= λ r. cond (bytes_eq (encode_lower x) hex.0) (Some (x, r)) None) (d, rest) e in
      let hex = h.0.0 in
      let v = bind_some (ok_value (decode_sized hex 32)) (λ x. after_mark (line_feed ∷ []) h.0.1 >>= λ r. cond (bytes_eq (encode_lower x) hex) (Some (x, r)) None) (d, rest) h.2 in
      let w = bind_some (after_mark (line_feed ∷ []) h.0.1) (λ r. cond (bytes_eq (encode_lower v.0) hex) (Some (v.0, r)) None) (d, rest) v.2 in
      let g = cond_some (bytes_eq (encode_lower v.0) hex) (v.0, w.0) (d, rest) w.2 in
      let same : encode_lower v.0 ≡ hex = (bytes_eq-Decides (encode_lower v.0) hex).0 g.0 in
      let f = same_read v.0 d w.0 rest (ap (λ x. Some x) g.1) in
      let b = (field_exact 64).sound s hex h.0.1 h.1 in
      let len : length hex ≡ 2 * 32 = b.0 in
      let k = decode_of-ok hex v.0 (sym (decode_sized-twice hex 32 len) ∙ ok_is (decode_sized hex 32) v.0 v.1) in
      let fits : IsDigest v.0 = (omega (arith, k.2, len), k.3) in
      let line : s ≡ hex ++ (line_feed ∷ rest) = b.1 ∙ ap (λ t. hex ++ t) (after_answered (line_feed ∷ []) h.0.1 w.0 w.1 ∙ ap (λ t. line_feed ∷ t) f.1) in
      (subst IsDigest f.0 fits, line ∙ ap (λ t. t ++ (line_feed ∷ rest)) (sym same ∙ ap encode_lower f.0) ∙ sym (append_assoc (encode_lower d) (line_feed ∷ []) rest));
  complete = λ d rest p.
      let len : length (encode_lower d) ≡ 64 = omega (arith, length-encode_with lower_digits d, p.0) in
      let cut = (field_exact 64).complete (encode_lower d) (line_feed ∷ rest) len in
      let back = decode_sized-encode_lower d 32 p.0 p.1 in
      let mark = after_own (line_feed ∷ []) rest in
      let same : bytes_eq (encode_lower d) (encode_lower d) ≡ true = (bytes_eq-Decides (encode_lower d) (encode_lower d)).1 refl in
      ap digest_at (append_assoc (encode_lower d) (line_feed ∷ []) rest) ∙ rw (cut, back, mark, same) refl;
}
