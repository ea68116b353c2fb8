-- The longest front that the machine takes is the token, or there is none.
use Rattle.bz_token.proofs.Words.{[], ◌++◌, ◌-◌, ◌∙◌, ◌∷◌, ◌≡◌, ◌≤◌, after, ap, arith, before_third, both_ways, Class, Class as v, Closed, drop, Empty, ends, eq-eqb, eqb-true, false, inl, inr, is_prefix, is_quote, is_some, IsLexeme, IsString, keyword_or_name, length, length-drop, length-take-le, List, longest_front, may_end, move, None, NoToken, Quote, quote_byte, refl, same_Some, Some, Start, State, subst, sym, take, take-append-drop, take-length, takes, TokenAt, true, ℕ}
use Rattle.bz_token.proofs.{Fronts.same_front, Fronts.rest_same, Laws.state_of, Longest.IsLongest, Longest.Found, Longest.found, Sound.sound, Strings.quote_of, Strings.quote_is, Strings.empty_state, Strings.string_state}

abbrev pub Front : List ℕ → State × ℕ → Type 0
Front s x = IsLongest State move may_end Start s x

pub front_of : (s : List ℕ) (x : State × ℕ) → Some x ≡ longest_front s → Front s x
unfolding longest_front
front_of s x e = subst (Found State move may_end Start s) (sym e) (found State move may_end Start s)

no_front : (s : List ℕ) → None ≡ longest_front s → (a b : List ℕ) → a ++ b ≡ s → takes move may_end Start a ≡ false
unfolding longest_front
no_front s e = subst (Found State move may_end Start s) (sym e) (found State move may_end Start s)

-- the machine takes each lexeme
taken_of : (c : Class) (t : List ℕ) → IsLexeme c t → takes move may_end Start t ≡ true
taken_of c t h = let w = state_of c t h in rw (w.2, w.3) refl

pub none_token : (s : List ℕ) → None ≡ longest_front s → NoToken s
none_token s e c t r is h = both_ways (takes move may_end Start t) (no_front s e t r is) (taken_of c t h.lexeme)

pub no_class : (s : List ℕ) (x : State × ℕ) → Some x ≡ longest_front s → None ≡ ends (x.0) → ⊥
no_class s x e n = let f = front_of s x e in both_ways (is_some (ends (x.0))) (rw (← n) refl) f.ended

-- the longest front is a lexeme
lexeme_at : (s : List ℕ) (x : State × ℕ) (k : Class) → Front s x → Some k ≡ ends (x.0) → IsLexeme (keyword_or_name k (take (x.1) s)) (take (x.1) s)
lexeme_at s x k f e = sound k (take (x.1) s) (rw f.taken (sym e))

front_length : (s : List ℕ) (n : ℕ) → n ≤ length s → length (take n s) ≡ n
front_length s n h = length-take-le n s h

pub whole_rest : (s : List ℕ) (n : ℕ) → n ≤ length s → take (length s - n) (drop n s) ≡ drop n s
whole_rest s n h = rw (← length-drop n s) (take-length (drop n s))

-- two marks and a third
third_of : (q : State) (p : List ℕ) (m : Quote) (b : ℕ) (t u : List ℕ) → after move Start t ≡ Some q → is_prefix p ≡ true → b ≡ quote_byte m → t ≡ p ++ (quote_byte m ∷ quote_byte m ∷ []) → before_third q (b ∷ u) ≡ true
third_of q p m b t u a y n e =
    let i : after move Start t ≡ Some (Empty m) = rw e (empty_state m p y) in
    let j : Empty m ≡ q = same_Some (Empty m) q (sym i ∙ a) in
    rw (← j) (eq-eqb b (quote_byte m) n)

pub third_at : (q : State) (s : List ℕ) (p : List ℕ) (m : ℕ) (t u : List ℕ) → after move Start t ≡ Some q → is_prefix p ≡ true → is_quote m ≡ true → t ≡ p ++ (m ∷ m ∷ []) → s ≡ m ∷ u → before_third q s ≡ true
third_at q s p m t u a y n e i =
    let w = quote_of m n in
    rw i (third_of q p (w.0) m t u a y w.1 (subst (λ (x : ℕ). t ≡ p ++ (x ∷ x ∷ [])) w.1 e))

pub some_token : (s : List ℕ) (x : State × ℕ) (k : Class) → Some x ≡ longest_front s → before_third (x.0) (drop (x.1) s) ≡ false → Some k ≡ ends (x.0) → TokenAt (keyword_or_name k (take (x.1) s)) (x.1) s
some_token s x k e n i =
    let f = front_of s x e in (
      f.within,
      record {
        lexeme = lexeme_at s x k f i;
        longest = λ d u w is l.
            let j : u ++ w ≡ s = is ∙ take-append-drop (x.1) s in
            let m = f.most u w j (taken_of d u l) in
            omega (arith, front_length s (x.1) f.within, m);
        no_third = λ p m u y z a b. both_ways (before_third (x.0) (drop (x.1) s)) n (third_at (x.0) (drop (x.1) s) p m (take (x.1) s) u f.taken y z a b);
      },
    )

-- what a third mark says
pub third_parts : (q : State) (s : List ℕ) → before_third q s ≡ true → (m : Quote) × (u : List ℕ) × (q ≡ Empty m) × (s ≡ quote_byte m ∷ u)
third_parts (Empty m) (b ∷ u) h = (m, u, refl, ap (λ (x : ℕ). x ∷ u) (eqb-true b (quote_byte m) h))
third_parts _ _ h = absurd (both_ways false refl h)

pub third_token : (s : List ℕ) (x : State × ℕ) → Some x ≡ longest_front s → before_third (x.0) (drop (x.1) s) ≡ true → NoToken s
third_token s x e n c t r is h =
    let f = front_of s x e in
    let w = third_parts (x.0) (drop (x.1) s) n in
    let here : Some v.String ≡ ends (x.0) = rw w.2 refl in
    let l : IsString (take (x.1) s) = lexeme_at s x v.String f here in
    let all : take (x.1) s ++ drop (x.1) s ≡ s = take-append-drop (x.1) s in
    let a = h.longest v.String (take (x.1) s) (drop (x.1) s) (all ∙ sym is) l in
    let b = f.most t r is (taken_of c t h.lexeme) in
    let same : t ≡ take (x.1) s = same_front t r (take (x.1) s) (drop (x.1) s) (is ∙ sym all) (omega (arith, a, b, front_length s (x.1) f.within)) in
    let rest : r ≡ drop (x.1) s = rest_same t r (take (x.1) s) (drop (x.1) s) (is ∙ sym all) same in
    let state : after move Start (take (x.1) s) ≡ Some (Empty (w.0)) = f.taken ∙ ap Some w.2 in
    elim (string_state (take (x.1) s) l) [
      | inl i ↦ let j : Some Closed ≡ Some (Empty (w.0)) = sym i ∙ state in absurd cc
      | inr y ↦
          let i : after move Start (take (x.1) s) ≡ Some (Empty (y.1)) = rw y.3 (empty_state (y.1) (y.0) y.2) in
          let j : Empty (y.1) ≡ Empty (w.0) = same_Some (Empty (y.1)) (Empty (w.0)) (sym i ∙ state) in
          let m : w.0 ≡ y.1 = cc in
          h.no_third (y.0) (quote_byte (y.1)) (w.1) y.2 (quote_is (y.1)) (same ∙ y.3) (rest ∙ w.3 ∙ ap (λ (q : Quote). quote_byte q ∷ w.1) m)
    ]
