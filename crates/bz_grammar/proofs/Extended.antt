-- A token of a text that ends in a newline is one where more is after that text, if no string is left open.
use Rattle.bz_grammar.proofs.Words.{[], ◌++◌, ◌∙◌, ◌∷◌, ◌≡◌, ◌⊎◌, ap, append_assoc, blank, Bool, Class, comment, end, end_at_once, escaped, escaped_return, false, false≢true, inl, inner, inr, IsGap, IsToken, last_comment, later, Leaf, List, May, newline, no_newline, None, nothing, NoToken, OpensString, Option, Place, refl, same_Some, Some, spell_leaves, Stand, subst, sym, true, unescaped, ℕ}
use Rattle.bz_token.specs.declared.state.State.{State}
use Rattle.bz_token.specs.declared.state.State.TheVariants.{Start, Opened, Empty, Short, ShortReturn, Long, LongOne, LongTwo}
use Rattle.bz_token.specs.declared.state.Quote.TheVariants.{Single, Double}
use Rattle.bz_token.specs.Bytes.{is_blank, is_quote}
use Rattle.bz_token.specs.private.Machine.{after, and_next}
use Rattle.bz_token.specs.private.Scanner.{move, is_in_string, quote_byte}
use Rattle.bz_token.proofs.{Fronts.some_next, Laws.state_of, Opening.last_state, Opening.answered, Opening.opens_after_prefix, Strings.quote_of}
use Rattle.bz_lex.specs.Places.{first}

-- ---- only within a string does the machine take a newline

abbrev is_within : Option State → Bool
is_within None = true
is_within (Some q) = is_in_string q

within_line : (q : State) → is_within (move q 10) ≡ true
within_line (Opened Single) = refl
within_line (Opened Double) = refl
within_line (Empty Single) = refl
within_line (Empty Double) = refl
within_line (Short Single) = refl
within_line (Short Double) = refl
within_line (ShortReturn Single) = refl
within_line (ShortReturn Double) = refl
within_line (Long Single) = refl
within_line (Long Double) = refl
within_line (LongOne Single) = refl
within_line (LongOne Double) = refl
within_line (LongTwo Single) = refl
within_line (LongTwo Double) = refl
within_line _ = refl

module _ (y : State) (a b : List ℕ) where
  abbrev Between : Option State → Type 0
  Between o = (x : State) × (and_next o (λ r. after move r a) ≡ Some x) × (after move x b ≡ Some y)

  after_step : (o : Option State) → ((r : State) → after move r (a ++ b) ≡ Some y → Between (Some r)) → and_next o (λ r. after move r (a ++ b)) ≡ Some y → Between o
  after_step None f e = absurd cc
  after_step (Some r) f e = f r e

after_parts : (q y : State) (a b : List ℕ) → after move q (a ++ b) ≡ Some y → (x : State) × (after move q a ≡ Some x) × (after move x b ≡ Some y)
after_parts q y [] b e = (q, refl, e)
after_parts q y (c ∷ a) b e = after_step y a b (move q c) (λ r h. after_parts r y a b h) e

last_after : (q r : State) (t : List ℕ) → after move q t ≡ Some r → last_state q t ≡ r
last_after q r [] e = same_Some q r e
last_after q r (b ∷ t) e = let w = some_next (move q b) (λ p. after move p t) r e in rw w.1 (last_after w.0 r t w.2)

line_opens : (t : List ℕ) (q : State) → after move Start (t ++ 10 ∷ []) ≡ Some q → OpensString (t ++ 10 ∷ [])
line_opens t q e =
    let v = after_parts Start q t (10 ∷ []) e in
    let w = some_next (move v.0 10) Some q v.2 in
    let here : w.0 ≡ q = same_Some w.0 q w.2 in
    let within : is_in_string q ≡ true = subst (λ z. is_in_string z ≡ true) here (subst (λ z. is_within z ≡ true) w.1 (within_line v.0)) in
    (answered (t ++ 10 ∷ []) true (sym within ∙ ap is_in_string (sym (last_after Start q (t ++ 10 ∷ []) e)))).0 refl

-- ---- one token

-- of two fronts of a text one begins with the other
two_fronts : (a b c d : List ℕ) → a ++ b ≡ c ++ d → ((x : List ℕ) × (a ++ x ≡ c)) ⊎ ((x : List ℕ) × (a ≡ c ++ x))
two_fronts [] b c d e = inl (c, refl)
two_fronts (x ∷ a) b [] d e = inr (x ∷ a, refl)
two_fronts (x ∷ a) b (y ∷ c) d e =
    let i : x ≡ y = cc in
    let j : a ++ b ≡ c ++ d = cc in
    elim (two_fronts a b c d j) [
      | inl w ↦ inl (w.0, rw i (ap (λ (t : List ℕ). y ∷ t) w.1))
      | inr w ↦ inr (w.0, rw i (ap (λ (t : List ℕ). y ∷ t) w.1))
    ]

same_head : (r more : List ℕ) (m : ℕ) (back : List ℕ) → (r ++ 10 ∷ []) ++ more ≡ m ∷ back → (x : List ℕ) × (r ++ 10 ∷ [] ≡ m ∷ x)
same_head [] more m back e = let i : 10 ≡ m = cc in ([], ap (λ (b : ℕ). b ∷ []) i)
same_head (b ∷ r) more m back e = let i : b ≡ m = cc in (r ++ 10 ∷ [], ap (λ (a : ℕ). a ∷ (r ++ 10 ∷ [])) i)

extended : (c : Class) (t r more : List ℕ) → IsToken c t (r ++ 10 ∷ []) → (OpensString (t ++ (r ++ 10 ∷ [])) → ⊥) → IsToken c t ((r ++ 10 ∷ []) ++ more)
extended c t r more h n = record {
  lexeme = h.lexeme;
  longest = λ d u w is l. elim (two_fronts u w (t ++ (r ++ 10 ∷ [])) more (is ∙ sym (append_assoc t (r ++ 10 ∷ []) more))) [
    | inl v ↦ h.longest d u v.0 v.1 l
    | inr v ↦
        let all : (t ++ r) ++ 10 ∷ [] ≡ t ++ (r ++ 10 ∷ []) = append_assoc t r (10 ∷ []) in
        let q = state_of d u l in
        let within = after_parts Start q.0 ((t ++ r) ++ 10 ∷ []) v.0 (ap (after move Start) (ap (λ (z : List ℕ). z ++ v.0) all ∙ sym v.1) ∙ q.2) in
        absurd (n (subst OpensString all (line_opens (t ++ r) within.0 within.1)))
  ];
  no_third = λ p m back y z a b. let v = same_head r more m back b in h.no_third p m v.0 y z a v.1;
}

-- ---- no string is left open before leaves

no_quote : (b m : ℕ) → is_quote m ≡ true → b ≡ m → is_quote b ≡ false → ⊥
no_quote b m n e f = false≢true (sym f ∙ (ap is_quote e ∙ n))

blank_no_quote : (b m : ℕ) → is_quote m ≡ true → b ≡ m → is_blank b ≡ true → ⊥
blank_no_quote b m n e f = on_quote (quote_of m n)
  where
    on_quote : (q : _) × (m ≡ quote_byte q) → ⊥
    on_quote (Single, i) = let g : is_blank 39 ≡ true = subst (λ (z : ℕ). is_blank z ≡ true) (e ∙ i) f in false≢true g
    on_quote (Double, i) = let g : is_blank 34 ≡ true = subst (λ (z : ℕ). is_blank z ≡ true) (e ∙ i) f in false≢true g

-- a gap before a quotation mark is empty
no_gap : (n u : Bool) (gap rest : List ℕ) (m : ℕ) (back : List ℕ) → IsGap n u gap → is_quote m ≡ true → gap ++ rest ≡ m ∷ back → gap ≡ []
no_gap n u gap rest m back (nothing e) y is = e
no_gap n u gap rest m back (blank b r e k g) y is = let i : b ∷ (r ++ rest) ≡ m ∷ back = subst (λ (z : List ℕ). z ++ rest ≡ m ∷ back) e is in let j : b ≡ m = cc in absurd (blank_no_quote b m y j k)
no_gap n u gap rest m back (escaped r e g) y is = let i : 92 ∷ 10 ∷ (r ++ rest) ≡ m ∷ back = subst (λ (z : List ℕ). z ++ rest ≡ m ∷ back) e is in let j : 92 ≡ m = cc in absurd (no_quote 92 m y j refl)
no_gap n u gap rest m back (escaped_return r e g) y is = let i : 92 ∷ 13 ∷ 10 ∷ (r ++ rest) ≡ m ∷ back = subst (λ (z : List ℕ). z ++ rest ≡ m ∷ back) e is in let j : 92 ≡ m = cc in absurd (no_quote 92 m y j refl)
no_gap n u gap rest m back (unescaped r e k g) y is = let i : 10 ∷ (r ++ rest) ≡ m ∷ back = subst (λ (z : List ℕ). z ++ rest ≡ m ∷ back) e is in let j : 10 ≡ m = cc in absurd (no_quote 10 m y j refl)
no_gap n u gap rest m back (comment w r e o k g) y is = let i : 35 ∷ ((w ++ 10 ∷ r) ++ rest) ≡ m ∷ back = subst (λ (z : List ℕ). z ++ rest ≡ m ∷ back) e is in let j : 35 ≡ m = cc in absurd (no_quote 35 m y j refl)
no_gap n u gap rest m back (last_comment w e o k) y is = let i : 35 ∷ (w ++ rest) ≡ m ∷ back = subst (λ (z : List ℕ). z ++ rest ≡ m ∷ back) e is in let j : 35 ≡ m = cc in absurd (no_quote 35 m y j refl)

token_there : (n u : Bool) (class : Class) (gap token rest : List ℕ) (m : ℕ) (back : List ℕ) → IsGap n u gap → IsToken class token rest → is_quote m ≡ true → gap ++ (token ++ rest) ≡ m ∷ back → NoToken (m ∷ back) → ⊥
token_there n u class gap token rest m back g t y is nt =
    let none = no_gap n u gap (token ++ rest) m back g y is in
    nt class token rest (subst (λ (z : List ℕ). z ++ (token ++ rest) ≡ m ∷ back) none is) t

line_there : (u : Bool) (gap rest : List ℕ) (m : ℕ) (back : List ℕ) → IsGap false u gap → is_quote m ≡ true → gap ++ (10 ∷ rest) ≡ m ∷ back → ⊥
line_there u gap rest m back g y is =
    let none = no_gap false u gap (10 ∷ rest) m back g y is in
    let i : 10 ∷ rest ≡ m ∷ back = subst (λ (z : List ℕ). z ++ (10 ∷ rest) ≡ m ∷ back) none is in
    let j : 10 ≡ m = cc in no_quote 10 m y j refl

nothing_there : (n u : Bool) (gap : List ℕ) (m : ℕ) (back : List ℕ) → IsGap n u gap → is_quote m ≡ true → gap ++ [] ≡ m ∷ back → ⊥
nothing_there n u gap m back g y is =
    let none = no_gap n u gap [] m back g y is in
    let i : [] ≡ m ∷ back = subst (λ (z : List ℕ). z ++ [] ≡ m ∷ back) none is in absurd cc

begins_some : (p : Place) (l : Leaf) (s : List ℕ) (m : ℕ) (back : List ℕ) → May IsToken p l s → is_quote m ≡ true → l.gap ++ (l.token ++ s) ≡ m ∷ back → NoToken (m ∷ back) → ⊥
begins_some p l s m back (first g t) y is nt = token_there true false l.class l.gap l.token s m back g t y is nt
begins_some p l s m back (later g t) y is nt = token_there false false l.class l.gap l.token s m back g t y is nt
begins_some p l s m back (inner g t) y is nt = token_there true false l.class l.gap l.token s m back g t y is nt
begins_some p l s m back (newline u g) y is nt = line_there u l.gap s m back g y is
begins_some p l s m back (no_newline u g) y is nt = nothing_there false u l.gap m back g y is
begins_some p l s m back (end u g) y is nt = nothing_there true u l.gap m back g y is
begins_some p l s m back end_at_once y is nt = absurd cc

pub not_open : (class : Class) (token : List ℕ) (p : Place) (ls : List Leaf) → IsToken class token (spell_leaves ls) → Stand (May IsToken) p ls → OpensString (token ++ spell_leaves ls) → ⊥
not_open class token p [] t h o = let w = opens_after_prefix class token [] t o in let i : [] ≡ w.0 ∷ w.1 = w.3 in absurd cc
not_open class token p (l ∷ ls) t h o =
    let w = opens_after_prefix class token (spell_leaves (l ∷ ls)) t o in
    begins_some p l (spell_leaves ls) w.0 w.1 h.0 w.4 w.3 (subst NoToken w.3 w.5)

-- ---- one leaf

nothing_last : (r : List ℕ) → [] ≡ r ++ 10 ∷ [] → ⊥
nothing_last [] e = absurd cc
nothing_last (b ∷ r) e = absurd cc

token_extends : (class : Class) (token s r more : List ℕ) → s ≡ r ++ 10 ∷ [] → (IsToken class token s → OpensString (token ++ s) → ⊥) → IsToken class token s → IsToken class token (s ++ more)
token_extends class token s r more e n t =
    subst (λ (z : List ℕ). IsToken class token (z ++ more)) (sym e)
    (extended class token r more (subst (IsToken class token) e t) (subst (λ (z : List ℕ). OpensString (token ++ z) → ⊥) e (n t)))

pub may_extend : (p : Place) (l : Leaf) (s r more : List ℕ) → s ≡ r ++ 10 ∷ [] → (IsToken l.class l.token s → OpensString (l.token ++ s) → ⊥) → May IsToken p l s → May IsToken p l (s ++ more)
may_extend p l s r more e n (first g t) = first g (token_extends l.class l.token s r more e n t)
may_extend p l s r more e n (later g t) = later g (token_extends l.class l.token s r more e n t)
may_extend p l s r more e n (inner g t) = inner g (token_extends l.class l.token s r more e n t)
may_extend p l s r more e n (newline u g) = newline u g
may_extend p l s r more e n (no_newline u g) = absurd (nothing_last r e)
may_extend p l s r more e n (end u g) = absurd (nothing_last r e)
may_extend p l s r more e n end_at_once = absurd (nothing_last r e)
