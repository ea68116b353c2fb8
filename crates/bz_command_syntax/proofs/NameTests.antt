-- An identifier is a lexeme of class Name, and what the reader of tokens says of one.
use Rattle.bz_command_syntax.proofs.Imported.{[], ◌&&◌, ◌++◌, ◌==◌, ◌||◌, ◌∙◌, ◌∷◌, ◌≡◌, ◌≤◌, ◌⊎◌, and_from, and_parts, ap, append-nil, are_letters, arith, Bool, Bytes, cases_Bool, Class, Class as class, drop, drop_all, end_a_letter, eqb-false, eqb-true, false, false_from_ne_true, IdentifiersAreNames, if◌then◌else◌, inl, inr, is_digit, is_high, is_identifier, is_keyword, is_letter, is_word_of_letters, IsLetters, IsLexeme, IsWord, length, length-append, length-take-le, none, not, not-true, not_from_false, one, refl, subst, sym, take, take-append-drop, take-length, three, true, ℕ}
use Rattle.bz_token.specs.Tokens.{IsToken, NoToken, TokenAt}
use Rattle.bz_token.proofs.Laws.{one_token}

-- ---- letters

-- a test by cases, of either case
either : (t x y : Bool) → (if t then x else y) ≡ true → ((t ≡ true) × (x ≡ true)) ⊎ ((t ≡ false) × (y ≡ true))
either true x y h = inl (refl, h)
either false x y h = inr (refl, h)

mutual
  letters_of : (s : Bytes) → are_letters s ≡ true → IsLetters s
  letters_of [] h = none
  letters_of (byte ∷ s) h = elim (either (byte == 239) (end_a_letter s) _ h) [
    | inl w ↦ subst (λ (first : ℕ). IsLetters (first ∷ s)) (sym (eqb-true byte 239 w.0)) (whole_letter s w.1)
    | inr w ↦ let v = and_parts (is_letter byte || is_digit byte) (are_letters s) w.1 in one v.0 w.0 (letters_of s v.1)
  ]

  whole_letter : (s : Bytes) → end_a_letter s ≡ true → IsLetters (239 ∷ s)
  whole_letter [] h = absurd cc
  whole_letter (b ∷ []) h = absurd cc
  whole_letter (b ∷ c ∷ s) h =
      let v = and_parts (is_high b && is_high c && not (b == 187 && c == 191)) (are_letters s) h in
      let w = and_parts (is_high b && is_high c) (not (b == 187 && c == 191)) v.0 in
      let x = and_parts (is_high b) (is_high c) w.0 in
      three x.0 x.1 (not-true (b == 187 && c == 191) w.1) (letters_of s v.1)

test_of : {s : Bytes} → IsLetters s → are_letters s ≡ true
test_of none = refl
test_of (one h e l) = rw (e, h) (test_of l)
test_of (three h k n l) = rw (h, k, n) (test_of l)

-- ---- identifiers

word_of : (s : Bytes) → is_word_of_letters s ≡ true → IsWord s
word_of [] h = absurd cc
word_of (b ∷ s) h = let w = and_parts (not (is_digit b)) (are_letters (b ∷ s)) h in (not-true (is_digit b) w.0, letters_of (b ∷ s) w.1)

word_test : (s : Bytes) → IsWord s → is_word_of_letters s ≡ true
word_test [] h = absurd h
word_test (b ∷ s) h = and_from (not (is_digit b)) (are_letters (b ∷ s)) (not_from_false (is_digit b) h.0) (test_of h.1)

pub identifiers_are_names : IdentifiersAreNames
identifiers_are_names s = (
  λ h. let w = and_parts (is_word_of_letters s) (not (is_keyword s)) h in (word_of s w.0, not-true (is_keyword s) w.1),
  λ h. and_from (is_word_of_letters s) (not (is_keyword s)) (word_test s h.0) (not_from_false (is_keyword s) h.1),
)

-- ---- what is read at the front of a text

-- a lexeme is the token of the text that it is
whole_token : (c : Class) (s : Bytes) → IsLexeme c s → IsToken c s []
whole_token c s h = record {
  lexeme = h;
  longest = λ other front back e l.
      let n : length (front ++ back) ≡ length (s ++ []) = ap length e in
      omega (arith, n, length-append front back, length-append s []);
  no_third = λ p m back y k i j. absurd cc;
}

-- and no shorter one is
whole_length : (c : Class) (n : ℕ) (s : Bytes) → TokenAt c n s → IsLexeme class.Name s → n ≡ length s
whole_length c n s h l =
    let m : length s ≤ length (take n s) = h.1.longest class.Name s [] (append-nil s ∙ sym (take-append-drop n s)) l in
    omega (arith, m, h.0, length-take-le n s h.0)

pub no_identifier : (s : Bytes) → NoToken s → is_identifier s ≡ false
no_identifier s no_token =
    false_from_ne_true (is_identifier s) (λ h. no_token class.Name s [] (append-nil s) (whole_token class.Name s ((identifiers_are_names s).0 h)))

-- a token that is the whole text
whole_text : (c : Class) (n : ℕ) (s : Bytes) → TokenAt c n s → n ≡ length s → IsToken c s []
whole_text c n s h e =
    let all : take n s ≡ s = ap (λ (k : ℕ). take k s) e ∙ take-length s in
    let rest : drop n s ≡ [] = drop_all n s (omega arith) in
    subst (λ (x : Bytes). IsToken c x []) all (subst (λ (x : Bytes). IsToken c (take n s) x) rest h.1)

pub name_found : (c : Class) (n : ℕ) (s : Bytes) → TokenAt c n s → c ≡ class.Name → (n == length s) ≡ is_identifier s
name_found c n s h is =
    elim (cases_Bool (n == length s)) [
      | inl e ↦
          let l : IsLexeme c s = (whole_text c n s h (eqb-true n (length s) e)).lexeme in
          e ∙ sym ((identifiers_are_names s).1 (subst (λ (x : Class). IsLexeme x s) is l))
      | inr e ↦
          e ∙ sym (false_from_ne_true (is_identifier s) (λ i. eqb-false n (length s) e (whole_length c n s h ((identifiers_are_names s).0 i))))
    ]

pub other_found : (c : Class) (n : ℕ) (s : Bytes) → TokenAt c n s → (c ≡ class.Name → ⊥) → is_identifier s ≡ false
other_found c n s h other = false_from_ne_true (is_identifier s) (λ i.
    let l = (identifiers_are_names s).0 i in
    other ((one_token c class.Name s [] s [] (whole_text c n s h (whole_length c n s h l)) (whole_token class.Name s l) refl).0))
