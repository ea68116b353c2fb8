-- What is known at a glance is the longest front.
use Rattle.bz_token.proofs.Words.{◌+◌, ◌<◌, ◌∙◌, ◌≡◌, ◌≤◌, ap, arith, cases_Bool, cases_lt, Class as v, Closed, Double, drop, Ended, eqb, get_or, IfSome, inl, inr, IsCharBoundary, IsUtf8, keyword_or_name, length, List, longest, longest_front, may_end, move, None, Opened, Operator, Option, or_best, or_found, refl, Short, Some, Start, State, sym, take, TokenAt, true, Word, ℕ}
use Rattle.bz_token.specs.declared.scan.Found.{Found}
use Rattle.bz_token.proofs.{Longest.goes_on, Longest.sticks, Longest.ends_here, Longest.ran, Tokens.some_token, Boundaries.boundary_at}

from_none : (o : Option (State × ℕ)) → or_found None 0 o ≡ o
from_none None = refl
from_none (Some x) = let e : 0 + x.1 ≡ x.1 = omega arith in ap (λ (n : ℕ). Some (x.0, n)) e

-- after the first byte
begun : (q : State) (s : List ℕ) → 0 < length s → move Start (get_or s 0 0) ≡ Some q → or_found None 1 (longest move may_end q (drop 1 s)) ≡ longest_front s
unfolding longest_front
begun q s lt e = sym (goes_on move may_end Start q 0 s None lt e) ∙ from_none (longest move may_end Start (drop 0 s))

-- where a lexeme may end that does not go on
ended : (q : State) (j : ℕ) (s : List ℕ) → may_end q ≡ true → (j < length s → move q (get_or s j 0) ≡ None) → or_found None j (longest move may_end q (drop j s)) ≡ Some (q, j)
ended q j s m h =
    let best : or_best (may_end q) q j None ≡ Some (q, j) = rw m refl in
    elim (cases_lt j (length s)) [ inl lt ↦ sticks move may_end q j s None lt (h lt) ∙ best | inr le ↦ ends_here move may_end q j s None le ∙ best ]

pub mark_token : (s : List ℕ) → 0 < length s → move Start (get_or s 0 0) ≡ Some Ended → TokenAt v.Mark 1 s
mark_token s lt e = some_token s (Ended, 1) v.Mark (sym (ended Ended 1 s refl (λ l. refl)) ∙ begun Ended s lt e) refl refl

pub operator_token : (s : List ℕ) → 0 < length s → move Start (get_or s 0 0) ≡ Some Operator → (1 < length s → move Operator (get_or s 1 0) ≡ None) → TokenAt v.Mark 1 s
operator_token s lt e stops = some_token s (Operator, 1) v.Mark (sym (ended Operator 1 s refl stops) ∙ begun Operator s lt e) refl refl

pub word_token : (s : List ℕ) (j : ℕ) → 0 < length s → move Start (get_or s 0 0) ≡ Some Word → 1 ≤ j → j ≤ length s → ((k : ℕ) → 1 ≤ k → k < j → move Word (get_or s k 0) ≡ Some Word) → (j < length s → move Word (get_or s j 0) ≡ None)
    → TokenAt (keyword_or_name v.Name (take j s)) j s
word_token s j lt e above within stays stops =
    some_token s (Word, j) v.Name (sym (ended Word j s refl stops) ∙ ran move may_end Word 1 j s None above within stays ∙ begun Word s lt e) refl refl

-- a byte with which a string goes on after its first mark too
opened : (b : ℕ) → move (Short Double) b ≡ Some (Short Double) → move (Opened Double) b ≡ Some (Short Double)
opened b e =
    elim (cases_Bool (eqb b 34)) [
      | inl y ↦ let no : Some Closed ≡ Some (Short Double) = rw y at e in absurd cc
      | inr n ↦ rw n (rw n at e)
    ]

pub string_token : (s : List ℕ) (j : ℕ) → move Start (get_or s 0 0) ≡ Some (Opened Double) → 2 ≤ j → j < length s → ((k : ℕ) → 1 ≤ k → k < j → move (Short Double) (get_or s k 0) ≡ Some (Short Double)) → get_or s j 0 ≡ 34
    → TokenAt v.String (j + 1) s
string_token s j e above within stays mark =
    let closed : move (Short Double) (get_or s j 0) ≡ Some Closed = rw mark refl in
    let first = opened (get_or s 1 0) (stays 1 (omega arith) (omega arith)) in
    some_token s (Closed, j + 1) v.String (
    sym (ended Closed (j + 1) s refl (λ l. refl)) ∙
    sym (goes_on move may_end (Short Double) Closed j s None within closed) ∙
    ran move may_end (Short Double) 2 j s None above (omega arith) (λ k a b. stays k (omega arith) b) ∙
    sym (goes_on move may_end (Opened Double) (Short Double) 1 s None (omega arith) first) ∙
    begun (Opened Double) s (omega arith) e
    ) refl refl

pub found_boundary : (s : List ℕ) (o : Option Found) → IfSome o (λ found. TokenAt found.class found.len s) → IsUtf8 s → IfSome o (λ found. IsCharBoundary s found.len)
found_boundary s None h u = tt
found_boundary s (Some found) h u = boundary_at found.class found.len s h u
