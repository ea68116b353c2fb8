-- The leaves that come, as they are cut off the text.
use Rattle.bz_states.proofs.Words.{[], ◌&&◌, ◌+◌, ◌||◌, ◌↔◌, ◌∙◌, ◌∷◌, ◌≡◌, ◌≤◌, after_front, AnswersFront, any, ap, bare, Bool, both_ways, bytes_eq, come_first, come_none, DecidesFirst, drop, example, false, Front, front_leaf, front_token, is_class, is_one_of, IsFront, IsTrue, length, List, next, NoLeaf, None, Option, Place, refl, Some, starts_with, sym, Symbol, Symbol as y, symbol_of_token, Terminal, terminals_of, this, to_come, true, ℕ}
use Rattle.bz_lex.specs.declared.leaf.Leaf.{Leaf}
use Rattle.bz_states.proofs.Answered.{symbol_answered, nothing}

-- no terminal requires a gap
pub same_token : (terminals : List Terminal) (l : Leaf) → is_one_of terminals l ≡ is_one_of terminals (bare l.class l.token)
same_token [] l = refl
same_token (any class ∷ terminals) l = ap (λ (b : Bool). is_class l.class class || b) (same_token terminals l)
same_token (this class token ∷ terminals) l = ap (λ (b : Bool). (is_class l.class class && bytes_eq l.token token) || b) (same_token terminals l)

module _ (p : Place) (s : List ℕ) (now : List Leaf) (view : to_come p s ≡ now) (after : Option Front) (answered : AnswersFront p s after) where
  pub none_comes : after ≡ None → now ≡ []
  none_comes e = let none : NoLeaf p s = rw e at answered in sym view ∙ come_none p s none

  pub none_answered : (symbol : Symbol) → after ≡ None → symbol ≡ y.Nothing → DecidesFirst symbol now
  none_answered symbol e h t = ap (λ (z : Symbol). is_one_of (terminals_of t) (example z)) h ∙ nothing t ∙ ap (starts_with (terminals_of t)) (sym (none_comes e))

  pub first_comes : (f : Front) → after ≡ Some f → now ≡ front_leaf f s ∷ to_come (next p (front_leaf f s)) (after_front f s)
  first_comes f e = let w : IsFront p f s = rw e at answered in sym view ∙ come_first p s f w

  pub first_within : (f : Front) → after ≡ Some f → f.gap + f.token ≤ length s
  first_within f e = let w : IsFront p f s = rw e at answered in w.within

  pub none_empty : after ≡ None → IsTrue true ↔ (now ≡ [])
  none_empty e = (λ h. none_comes e, λ h. refl)

  pub some_full : (f : Front) → after ≡ Some f → IsTrue false ↔ (now ≡ [])
  some_full f e = (λ h. absurd (both_ways false refl h), λ h. absurd (let full : front_leaf f s ∷ to_come (next p (front_leaf f s)) (after_front f s) ≡ [] = sym (first_comes f e) ∙ h in cc))

  pub first_answered : (f : Front) (token : List ℕ) (symbol : Symbol) → after ≡ Some f → token ≡ front_token f s → symbol ≡ symbol_of_token f.class token → DecidesFirst symbol now
  first_answered f token symbol e i h t =
      ap (λ (z : Symbol). is_one_of (terminals_of t) (example z)) h ∙ symbol_answered f.class token t ∙ ap (λ (u : List ℕ). is_one_of (terminals_of t) (bare f.class u)) i ∙ sym (same_token (terminals_of t) (front_leaf f s)) ∙
      ap (starts_with (terminals_of t)) (sym (first_comes f e))

  pub first_cut : (f : Front) (l : Leaf) (q : Place) (t : List ℕ) → after ≡ Some f → l ≡ front_leaf f s → q ≡ next p l → t ≡ after_front f s → now ≡ l ∷ to_come q t
  first_cut f l q t e i j k =
      first_comes f e ∙ ap (λ (x : Leaf). x ∷ to_come (next p x) (after_front f s)) (sym i) ∙ ap (λ (z : Place). l ∷ to_come z (after_front f s)) (sym j) ∙ ap (λ (u : List ℕ). l ∷ to_come q u) (sym k)

  pub none_skipped : after ≡ None → now ≡ drop 1 now
  none_skipped e = none_comes e ∙ sym (ap (drop 1) (none_comes e))

  pub first_skipped : (f : Front) (q : Place) (t : List ℕ) → after ≡ Some f → q ≡ next p (front_leaf f s) → t ≡ after_front f s → to_come q t ≡ drop 1 now
  first_skipped f q t e j k = sym (ap (drop 1) (first_cut f (front_leaf f s) q t e refl j k))

  pub first_taken : (f : Front) (l : Leaf) (rest : List Leaf) → after ≡ Some f → l ≡ front_leaf f s → rest ≡ drop 1 now → now ≡ l ∷ rest
  first_taken f l rest e i j =
      first_comes f e ∙ ap (λ (x : Leaf). x ∷ to_come (next p (front_leaf f s)) (after_front f s)) (sym i) ∙ ap (λ (us : List Leaf). l ∷ us) (sym (j ∙ ap (drop 1) (first_comes f e)))
