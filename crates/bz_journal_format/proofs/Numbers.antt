-- Numbers of classes and kinds: which has none, and that they are read exactly.
use Rattle.bz_journal_format.proofs.Words.{[], ◌&&◌, ◌++◌, ◌+◌, ◌-◌, ◌<◌, ◌>>=◌, ◌∙◌, ◌∷◌, ◌≡◌, ◌≤◌, and_parts, ap, arith, Bool, Class, Class as c, class_list, class_number, class_of, cond, eqb-true, false, IsExact, Kind, kind_list, kind_number, kind_of, length, List, lit<, nat_eq, None, number_at, number_limit, numbered_class_at, numbered_kind_at, Option, refl, same_Some, slice_get, slice_get_past, Some, space, spaced_number, suc, sym, true, zero, ℕ}
use Rattle.bz_grammar.specs.declared.kind.Kind.TheVariants as k
use Rattle.bz_grammar.proofs.Numbers.{of_number}
use Rattle.bz_journal_format.proofs.{Chains.bind_some, Chains.same_read, Counting.number_exact}

past_end : (n : ℕ) → 255 < n → length kind_list ≤ n - 1
past_end n h = omega arith

pub past_kinds : (n : ℕ) → 255 < n → kind_of n ≡ None
past_kinds n h = let e = slice_get_past kind_list (n - 1) (past_end n h) in let z : nat_eq n 0 ≡ false = grind (arith) in rw (z, e) refl

cond_some_of : {A : Type 0} (b : Bool) (o : Option A) (y : A) → cond b None o ≡ Some y → o ≡ Some y
cond_some_of true o y e = absurd cc
cond_some_of false o y e = e

abbrev are_numbered : {K : Type 0} → (K → ℕ) → ℕ → List K → Bool
are_numbered number n [] = true
are_numbered number n (k ∷ ks) = nat_eq (number k) n && are_numbered number (suc n) ks

numbered_so : {K : Type 0} (number : K → ℕ) (ks : List K) (n i : ℕ) (k : K) → are_numbered number n ks ≡ true → slice_get ks i ≡ Some k → number k ≡ n + i
numbered_so number [] n i k t e = absurd cc
numbered_so number (x ∷ ks) n zero k t e = let p = and_parts (nat_eq (number x) n) (are_numbered number (suc n) ks) t in omega (arith, eqb-true (number x) n p.0, ap number (same_Some x k e))
numbered_so number (x ∷ ks) n (suc i) k t e = let p = and_parts (nat_eq (number x) n) (are_numbered number (suc n) ks) t in omega (arith, numbered_so number ks (suc n) i k p.1 e)

class_number_of : (n : ℕ) (k : Class) → class_of n ≡ Some k → class_number k ≡ n
class_number_of zero k e = absurd cc
class_number_of (suc n) k e = let g = cond_some_of (nat_eq (suc n) 0) (slice_get class_list (suc n - 1)) k e in omega (arith, numbered_so class_number class_list 1 (suc n - 1) k refl g)

class_of_number : (k : Class) → class_of (class_number k) ≡ Some k
class_of_number c.Name = refl
class_of_number _ = refl

kind_number_of : (n : ℕ) (k : Kind) → kind_of n ≡ Some k → kind_number k ≡ n
kind_number_of zero k e = absurd cc
kind_number_of (suc n) k e = let g = cond_some_of (nat_eq (suc n) 0) (slice_get kind_list (suc n - 1)) k e in omega (arith, numbered_so kind_number kind_list 1 (suc n - 1) k refl g)

class_small : (k : Class) → class_number k < number_limit
class_small c.Name = lit< tt
class_small _ = lit< tt

kind_small : (k : Kind) → kind_number k < number_limit
kind_small k.File = lit< tt
kind_small _ = lit< tt

pub numbered_class_exact : IsExact Class (λ k. spaced_number (class_number k)) (λ k. Unit {0}) numbered_class_at
unfolding numbered_class_at
numbered_class_exact = record {
  sound = λ s k rest e.
      let b = bind_some (number_at space s) (λ n. class_of n.0 >>= λ x. Some (x, n.1)) (k, rest) e in
      let d = bind_some (class_of b.0.0) (λ x. Some (x, b.0.1)) (k, rest) b.2 in
      let f = same_read d.0 k b.0.1 rest d.2 in
      let p = (number_exact space refl).sound s b.0.0 b.0.1 b.1 in
      let same : class_number k ≡ b.0.0 = ap class_number (sym f.0) ∙ class_number_of b.0.0 d.0 d.1 in
      (tt, p.1 ∙ ap (λ n. spaced_number n ++ b.0.1) (sym same) ∙ ap (λ t. spaced_number (class_number k) ++ t) f.1);
  complete = λ k rest p.
      let e = (number_exact space refl).complete (class_number k) rest (class_small k) in
      ap (λ o. o >>= λ (n : ℕ × List ℕ). class_of n.0 >>= λ x. Some (x, n.1)) e ∙ ap (λ o. o >>= λ x. Some (x, rest)) (class_of_number k);
}

pub numbered_kind_exact : IsExact Kind (λ k. spaced_number (kind_number k)) (λ k. Unit {0}) numbered_kind_at
unfolding numbered_kind_at
numbered_kind_exact = record {
  sound = λ s k rest e.
      let b = bind_some (number_at space s) (λ n. kind_of n.0 >>= λ x. Some (x, n.1)) (k, rest) e in
      let d = bind_some (kind_of b.0.0) (λ x. Some (x, b.0.1)) (k, rest) b.2 in
      let f = same_read d.0 k b.0.1 rest d.2 in
      let p = (number_exact space refl).sound s b.0.0 b.0.1 b.1 in
      let same : kind_number k ≡ b.0.0 = ap kind_number (sym f.0) ∙ kind_number_of b.0.0 d.0 d.1 in
      (tt, p.1 ∙ ap (λ n. spaced_number n ++ b.0.1) (sym same) ∙ ap (λ t. spaced_number (kind_number k) ++ t) f.1);
  complete = λ k rest p.
      let e = (number_exact space refl).complete (kind_number k) rest (kind_small k) in
      ap (λ o. o >>= λ (n : ℕ × List ℕ). kind_of n.0 >>= λ x. Some (x, n.1)) e ∙ ap (λ o. o >>= λ x. Some (x, rest)) (of_number k);
}
