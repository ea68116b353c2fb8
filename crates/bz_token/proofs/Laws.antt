-- The laws of tokens.
use Rattle.bz_token.proofs.Words.{[], ◌++◌, ◌||◌, ◌∙◌, ◌∷◌, ◌≡◌, ◌≤◌, ◌⊎◌, after, among, ap, arith, Begins, Bool, both_ways, brackets_and_comma, cases_Bool, Class, Double, Empty, Ended, ends, false, inl, inr, is_mark, is_none, is_quote, is_solid, IsLexeme, IsToken, keyword_or_name, length, length-append, List, move, nat_tests, None, none-some, not, not-true, OneToken, Opened, Option, or_cases, refl, same_Some, Separated, separators, Single, Some, Start, State, subst, sym, true, ℕ}
use Rattle.bz_token.specs.Laws.{Single as SingleLaw}
use Rattle.bz_token.proofs.{Fronts.longer, Fronts.same_front, Fronts.some_next, Fronts.after_append, Tables.every, Tables.one_of, Tables.is_none_at, Complete.complete}

-- the state after a lexeme
pub state_of : (c : Class) (s : List ℕ) → IsLexeme c s → (q : State) × (k : Class) × (after move Start s ≡ Some q) × (ends q ≡ Some k) × (keyword_or_name k s ≡ c)
state_of c s h =
    let w = complete c s h in
    let x = some_next (after move Start s) ends w.0 w.1 in
    (x.0, w.0, x.1, x.2, w.2)

-- the machine does not go on with the text
abbrev pub Stops : State → List ℕ → Type 0
Stops q [] = Unit {0}
Stops q (b ∷ s) = move q b ≡ None

-- after a state that does not go on with the rest, no longer front is a lexeme
pub longest_at : (t r : List ℕ) (q : State) → after move Start t ≡ Some q → Stops q r → (d : Class) (u s : List ℕ) → u ++ s ≡ t ++ r → IsLexeme d u → length u ≤ length t
longest_at t r q e h d u s is l =
    elim (longer u s t r is) [
      | inl k ↦ k
      | inr w ↦
          let stop : move q w.0 ≡ None = subst (Stops q) w.3 h in
          let none : after move Start u ≡ None = rw (w.2, after_append move Start q t (w.0 ∷ w.1) e, stop) refl in
          let some = (state_of d u l).2 in
          absurd cc
    ]

one_class : (c d : Class) (t : List ℕ) → IsLexeme c t → IsLexeme d t → c ≡ d
one_class c d t h k =
    let x = complete c t h in
    let y = complete d t k in
    let e : x.0 ≡ y.0 = same_Some x.0 y.0 (sym x.1 ∙ y.1) in
    sym x.2 ∙ ap (λ (j : Class). keyword_or_name j t) e ∙ y.2

pub one_token : OneToken
one_token c d t r u s h k e =
    let a = h.longest d u s (sym e) k.lexeme in
    let b = k.longest c t r e h.lexeme in
    let is : t ≡ u = same_front t r u s e (omega arith) in
    (one_class c d t h.lexeme (subst (λ (x : List ℕ). IsLexeme d x) (sym is) k.lexeme), is)

-- a space, a newline, `,` `:` and brackets
abbrev pub stop_bytes : List ℕ
stop_bytes = 32 ∷ 10 ∷ 44 ∷ 58 ∷ 40 ∷ 41 ∷ 91 ∷ 93 ∷ 123 ∷ 125 ∷ []

abbrev pub is_stop : ℕ → Bool
is_stop b = among b stop_bytes

-- no state after a lexeme goes on with one of these
fine_end : (q : State) → (is_none (ends q) || every (λ b. is_none (move q b)) stop_bytes) ≡ true
fine_end Start = refl
fine_end (Opened Single) = refl
fine_end (Opened Double) = refl
fine_end (Empty Single) = refl
fine_end (Empty Double) = refl
fine_end _ = refl

stops_before : (q : State) (k : Class) (b : ℕ) (r : List ℕ) → ends q ≡ Some k → is_stop b ≡ true → Stops q (b ∷ r)
stops_before q k b r e h =
    elim (or_cases (is_none (ends q)) (every (λ c. is_none (move q c)) stop_bytes) (fine_end q)) [
      | inl n ↦ absurd (both_ways false refl (rw e at n))
      | inr n ↦ is_none_at (move q b) (one_of (λ c. is_none (move q c)) stop_bytes n b h)
    ]

pub not_quote : (b m : ℕ) (r back : List ℕ) → is_quote b ≡ false → is_quote m ≡ true → b ∷ r ≡ m ∷ back → ⊥
not_quote b m r back h y e = let i : b ≡ m = cc in both_ways (is_quote m) (rw i at h) y

-- each lexeme is a token before such a byte
pub stop_before : (c : Class) (t r : List ℕ) (b : ℕ) → IsLexeme c t → is_stop b ≡ true → IsToken c t (b ∷ r)
stop_before c t r b h n =
    let w = state_of c t h in
    record {
      lexeme = h;
      longest = λ d u s is l. longest_at t (b ∷ r) w.0 w.2 (stops_before w.0 w.1 b r w.3 n) d u s is l;
      no_third = λ p m s k y e i. not_quote b m r s (not-true (is_quote b) (one_of (λ c. not (is_quote c)) stop_bytes refl b n)) y i;
    }

pub separated : Separated
separated c t r b h n = stop_before c t r b h (one_of is_stop separators refl b n)

abbrev pub is_ended : Option State → Bool
is_ended (Some Ended) = true
is_ended _ = false

pub ended_at : (o : Option State) → is_ended o ≡ true → o ≡ Some Ended
ended_at (Some Ended) h = refl
ended_at _ h = absurd (both_ways false refl h)

pub nothing_stops : (r : List ℕ) → Stops Ended r
nothing_stops [] = tt
nothing_stops (b ∷ r) = refl

too_short : (b m : ℕ) (p : List ℕ) → b ∷ [] ≡ p ++ (m ∷ m ∷ []) → ⊥
too_short b m p e = let n : length (b ∷ []) ≡ length (p ++ (m ∷ m ∷ [])) = ap length e in omega (arith, n, length-append p (m ∷ m ∷ []))

pub single : SingleLaw
single b r h =
    let e : move Start b ≡ Some Ended = ended_at (move Start b) (one_of (λ c. is_ended (move Start c)) brackets_and_comma refl b h) in
    record {
      lexeme = one_of (λ c. is_mark (c ∷ [])) brackets_and_comma refl b h;
      longest = λ d u s is l. longest_at (b ∷ []) r Ended (rw e refl) (nothing_stops r) d u s is l;
      no_third = λ p m s k y i _. too_short b m p i;
    }

-- the bytes with which a gap goes on begin no lexeme
solid_or : (b : ℕ) → (is_solid b ≡ true) ⊎ (among b (32 ∷ 9 ∷ 13 ∷ 92 ∷ 35 ∷ 10 ∷ []) ≡ true)
solid_or b = elim (cases_Bool (is_solid b)) [ inl h ↦ inl h | inr h ↦ inr (grind (arith, nat_tests)) ]

begun : (t : List ℕ) (q : State) (k : Class) → after move Start t ≡ Some q → ends q ≡ Some k → (b : ℕ) × (u : List ℕ) × (t ≡ b ∷ u) × (is_solid b ≡ true)
begun [] q k e h = let i : Start ≡ q = same_Some Start q e in absurd (none-some k (ap ends i ∙ h))
begun (b ∷ u) q k e h =
    elim (solid_or b) [
      | inl y ↦ (b, u, refl, y)
      | inr y ↦
          let n : move Start b ≡ None = is_none_at (move Start b) (one_of (λ c. is_none (move Start c)) (32 ∷ 9 ∷ 13 ∷ 92 ∷ 35 ∷ 10 ∷ []) refl b y) in
          let x = some_next (move Start b) (λ r. after move r u) q e in
          absurd (none-some (x.0) (sym n ∙ x.1))
    ]

pub begins : Begins
begins c t r h = let w = state_of c t h.lexeme in begun t (w.0) (w.1) w.2 w.3
