-- Before which bytes a lexeme is a token: laws for all the pairs of neighbours that the layout joins without a space.
use Rattle.bz_layout.proofs.Words.{[], ◌++◌, ◌||◌, ◌∙◌, ◌∷◌, ◌≡◌, ap, Bool, both_ways, brackets_and_separators, cases_Bool, Class, Class as c, eqb, eqb-true, false, if◌then◌else◌, in_table, inl, inr, is_mark, is_none_at, IsLexeme, IsToken, List, marks, None, not, not-true, one_text, Option, or_cases, or_parts, refl, same_Some, Some, subst, sym, true, ℕ}
use Rattle.std.proofs.Common.{is_none}
use Rattle.bz_token.specs.declared.state.State.{State}
use Rattle.bz_token.specs.declared.state.State.TheVariants.{Start, Opened, Empty, Ended, Operator, Star}
use Rattle.bz_token.specs.declared.state.Quote.TheVariants.{Single, Double}
use Rattle.bz_token.specs.Bytes.{is_quote}
use Rattle.bz_token.specs.private.Machine.{after, and_next}
use Rattle.bz_token.specs.private.Scanner.{move, ends, keyword_or_name}
use Rattle.bz_token.proofs.Laws.{state_of, not_quote, is_ended, ended_at, nothing_stops, longest_at, begins}
pub use Rattle.bz_token.proofs.Laws.{is_stop, stop_before}
use Rattle.bz_layout.proofs.Neighbours.{fronts, well_text, is_number}

-- ---- before a dot

abbrev number_end : Option Class → Bool
number_end (Some class) = is_number class
number_end None = false

dot_end : (q : State) → (is_none (ends q) || (number_end (ends q) || is_none (move q 46))) ≡ true
dot_end Start = refl
dot_end (Opened Single) = refl
dot_end (Opened Double) = refl
dot_end (Empty Single) = refl
dot_end (Empty Double) = refl
dot_end _ = refl

number_named : (k : Class) (t : List ℕ) → is_number k ≡ true → keyword_or_name k t ≡ c.Number
number_named c.Number t h = refl
number_named _ t h = absurd (both_ways false refl h)

-- each lexeme but a number is a token before a dot
pub dot_before : (class : Class) (t r : List ℕ) → IsLexeme class t → is_number class ≡ false → IsToken class t (46 ∷ r)
dot_before class t r h n =
    let w = state_of class t h in
    let no : is_none (ends w.0) ≡ false = rw w.3 refl in
    let stop : move w.0 46 ≡ None =
    elim (or_cases (is_none (ends w.0)) _ (dot_end w.0)) [
      | inl x ↦ absurd (both_ways (is_none (ends w.0)) no x)
      | inr x ↦
          elim (or_cases (number_end (ends w.0)) _ x) [
            | inl y ↦ absurd (both_ways (is_number class) n (ap is_number (sym w.4 ∙ number_named w.1 t (rw w.3 at y))))
            | inr y ↦ is_none_at (move w.0 46) y
          ]
    ] in
    record {
      lexeme = h;
      longest = λ d u s is l. longest_at t (46 ∷ r) w.0 w.2 stop d u s is l;
      no_third = λ p m s k y e i. not_quote 46 m r s refl y i;
    }

-- ---- marks before any byte with which they do not go on

abbrev pub stops_in : Option State → ℕ → Bool
stops_in (Some q) b = is_none (move q b)
stops_in None b = true

abbrev has_quote : List ℕ → Bool
has_quote [] = false
has_quote (b ∷ s) = is_quote b || has_quote s

quoted : (p : List ℕ) (m : ℕ) → is_quote m ≡ true → has_quote (p ++ (m ∷ m ∷ [])) ≡ true
quoted [] m h = rw h refl
quoted (b ∷ p) m h = rw (quoted p m h) (or_true (is_quote b)) where
  or_true : (a : Bool) → (a || true) ≡ true
  or_true true = refl
  or_true false = refl

no_quote : (t : List ℕ) → is_mark t ≡ true → has_quote t ≡ false
no_quote t h = not-true (has_quote t) (one_text (λ s. not (has_quote s)) marks refl t h)

pub mark_before : (t r : List ℕ) (b : ℕ) → is_mark t ≡ true → stops_in (after move Start t) b ≡ true → IsToken c.Mark t (b ∷ r)
mark_before t r b h n =
    let w = state_of c.Mark t h in
    record {
      lexeme = h;
      longest = λ d u s is l. longest_at t (b ∷ r) w.0 w.2 (is_none_at (move w.0 b) (subst (λ o. stops_in o b ≡ true) w.2 n)) d u s is l;
      no_third = λ p m s k y e i. both_ways (has_quote t) (no_quote t h) (rw e (quoted p m y));
    }

-- ---- a mark that no longer one begins with, before any text

pub lone_before : (t r : List ℕ) → in_table t brackets_and_separators ≡ true → IsToken c.Mark t r
lone_before t r h =
    let e : after move Start t ≡ Some Ended = ended_at _ (one_text (λ s. is_ended (after move Start s)) brackets_and_separators refl t h) in
    let m : is_mark t ≡ true = one_text is_mark brackets_and_separators refl t h in
    record {
      lexeme = m;
      longest = λ d u s is l. longest_at t r Ended e (nothing_stops r) d u s is l;
      no_third = λ p m' s k y i _. both_ways (has_quote t) (no_quote t m) (rw i (quoted p m' y));
    }

-- ---- signs and stars before a byte that is neither `=` nor `*`

abbrev is_front : Option State → Bool
is_front (Some Operator) = true
is_front (Some Star) = true
is_front (Some Ended) = true
is_front _ = false

neither : (b : ℕ) → not (eqb b 61 || eqb b 42) ≡ true → (eqb b 61 ≡ false) × (eqb b 42 ≡ false)
neither b h = or_parts (eqb b 61) (eqb b 42) (not-true _ h)

front_stops : (o : Option State) (b : ℕ) → is_front o ≡ true → not (eqb b 61 || eqb b 42) ≡ true → stops_in o b ≡ true
front_stops (Some Operator) b h n = rw (neither b n).0 refl
front_stops (Some Star) b h n = rw ((neither b n).0, (neither b n).1) refl
front_stops (Some Ended) b h n = refl
front_stops _ b h n = absurd (both_ways false refl h)

pub front_before : (t r : List ℕ) (b : ℕ) → in_table t fronts ≡ true → not (eqb b 61 || eqb b 42) ≡ true → IsToken c.Mark t (b ∷ r)
front_before t r b h n = mark_before t r b (one_text is_mark fronts refl t h) (front_stops (after move Start t) b (one_text (λ s. is_front (after move Start s)) fronts refl t h) n)

-- ---- a dot before a name

pub dot_before_name : (t r : List ℕ) → IsLexeme c.Name t → IsToken c.Mark (46 ∷ []) (t ++ r)
dot_before_name [] r h = absurd h.0
dot_before_name (b ∷ t) r h = mark_before (46 ∷ []) (t ++ r) b refl (rw h.0.0 refl)

-- ---- no name, number or string begins with `=` or `*`

abbrev marky : Option State → Bool
marky (Some Operator) = true
marky (Some Star) = true
marky (Some Ended) = true
marky None = true
marky _ = false

marky_if : (x : Bool) → marky (if x then Some Ended else None) ≡ true
marky_if true = refl
marky_if false = refl

marky_move : (q : State) (b : ℕ) → marky (Some q) ≡ true → marky (move q b) ≡ true
marky_move Operator b h = marky_if (eqb b 61)
marky_move Star b h = marky_if (eqb b 42 || eqb b 61)
marky_move Ended b h = refl
marky_move _ b h = absurd (both_ways false refl h)

on_option : (o : Option State) (f : State → Option State) → marky o ≡ true → ((r : State) → marky (Some r) ≡ true → marky (f r) ≡ true) → marky (and_next o f) ≡ true
on_option None f k g = refl
on_option (Some r) f k g = g r k

marky_after : (s : List ℕ) (q : State) → marky (Some q) ≡ true → marky (after move q s) ≡ true
marky_after [] q h = h
marky_after (b ∷ s) q h = on_option (move q b) (λ r. after move r s) (marky_move q b h) (λ r k. marky_after s r k)

marky_ends : (q : State) (k : Class) → marky (Some q) ≡ true → ends q ≡ Some k → k ≡ c.Mark
marky_ends Operator k h e = sym (same_Some c.Mark k e)
marky_ends Star k h e = sym (same_Some c.Mark k e)
marky_ends Ended k h e = sym (same_Some c.Mark k e)
marky_ends _ k h e = absurd (both_ways false refl h)

mark_class : (class : Class) (t : List ℕ) → IsLexeme class t → marky (after move Start t) ≡ true → class ≡ c.Mark
mark_class class t h m =
    let w = state_of class t h in
    sym w.4 ∙ ap (λ k. keyword_or_name k t) (marky_ends w.0 w.1 (subst (λ o. marky o ≡ true) w.2 m) w.3)

begins_mark : (b : ℕ) (u : List ℕ) → (eqb b 61 || eqb b 42) ≡ true → marky (after move Start (b ∷ u)) ≡ true
begins_mark b u h =
    elim (or_cases (eqb b 61) (eqb b 42) h) [
      | inl e ↦ subst (λ x. marky (after move Start (x ∷ u)) ≡ true) (sym (eqb-true b 61 e)) (marky_after u Operator refl)
      | inr e ↦ subst (λ x. marky (after move Start (x ∷ u)) ≡ true) (sym (eqb-true b 42 e)) (marky_after u Star refl)
    ]

abbrev pub is_mark_class : Class → Bool
is_mark_class c.Mark = true
is_mark_class _ = false

pub begins_well : (class : Class) (t : List ℕ) → IsLexeme class t → is_mark_class class ≡ false → well_text t ≡ true
begins_well class [] h n = let w = begins class [] (32 ∷ []) (stop_before class [] [] 32 h refl) in absurd (let z : [] ≡ w.0 ∷ w.1 = w.2 in cc)
begins_well class (b ∷ u) h n =
    elim (cases_Bool (eqb b 61 || eqb b 42)) [
      | inl e ↦ absurd (both_ways (is_mark_class class) n (ap is_mark_class (mark_class class (b ∷ u) h (begins_mark b u e))))
      | inr e ↦ rw e refl
    ]
