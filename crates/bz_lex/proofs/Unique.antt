-- No text has two lists of leaves.
use Rattle.bz_lex.proofs.Words.{[], ◌++◌, ◌∙◌, ◌∷◌, ◌≡◌, After, ap, append_cancel_left, Class, End, Fresh, GapState, inl, inr, Inside, IsToken, Last, Leaf, List, May, Newline, newlines_at, next, OneLexing, Open, Over, Place, refl, spell_leaves, Stand, subst, sym, ℕ}
use Rattle.bz_lex.proofs.{Gaps.one_stop, Tokens.one_token, Tokens.token_holds, Tokens.token_no_newline, Forms.ByToken, Forms.ByNewline, Forms.Empty, Forms.Form, Forms.form, Forms.same_leaf}

empty_text : (k : Class) (q : GapState) (l : Leaf) (s : List ℕ) → Empty k q l s → l.token ++ s ≡ []
empty_text k q l s h = rw (h.token, h.rest) refl

two_tokens : (q r : GapState) (l m : Leaf) (s t : List ℕ) → l.gap ≡ m.gap → ByToken q l s → ByToken r m t → l.token ++ s ≡ m.token ++ t → (l ≡ m) × (s ≡ t)
two_tokens q r l m s t g h k e =
    let o = one_token l.class m.class l.token s m.token t h.token k.token e in
    (same_leaf l m o.0 g o.1, append_cancel_left m.token s t (subst (λ (u : List ℕ). u ++ s ≡ m.token ++ t) o.1 e))

token_or_empty : (k : Class) (q r : GapState) (l m : Leaf) (s t : List ℕ) → ByToken q l s → Empty k r m t → l.token ++ s ≡ m.token ++ t → ⊥
token_or_empty k q r l m s t h i e = token_holds l.class l.token s h.token (e ∙ empty_text k r m t i)

two_empty : (k : Class) (q r : GapState) (l m : Leaf) (s t : List ℕ) → l.gap ≡ m.gap → Empty k q l s → Empty k r m t → (l ≡ m) × (s ≡ t)
two_empty k q r l m s t g h i = (same_leaf l m (h.class ∙ sym i.class) g (h.token ∙ sym i.token), h.rest ∙ sym i.rest)

line_text : (q : GapState) (l : Leaf) (s : List ℕ) → ByNewline q l → l.token ++ s ≡ 10 ∷ s
line_text q l s h = ap (λ (t : List ℕ). t ++ s) h.token

token_or_line : (q r : GapState) (l m : Leaf) (s t : List ℕ) → ByToken q l s → ByNewline r m → l.token ++ s ≡ m.token ++ t → ⊥
token_or_line q r l m s t h i e = token_no_newline l.class l.token s t h.token (e ∙ line_text r m t i)

line_or_empty : (k : Class) (q r : GapState) (l m : Leaf) (s t : List ℕ) → ByNewline q l → Empty k r m t → l.token ++ s ≡ m.token ++ t → ⊥
line_or_empty k q r l m s t h i e = let f : 10 ∷ s ≡ [] = sym (line_text q l s h) ∙ e ∙ empty_text k r m t i in cc

two_lines : (q r : GapState) (l m : Leaf) (s t : List ℕ) → l.gap ≡ m.gap → ByNewline q l → ByNewline r m → l.token ++ s ≡ m.token ++ t → (l ≡ m) × (s ≡ t)
two_lines q r l m s t g h i e =
    (same_leaf l m (h.class ∙ sym i.class) g (h.token ∙ sym i.token), let f : 10 ∷ s ≡ 10 ∷ t = sym (line_text q l s h) ∙ e ∙ line_text r m t i in cc)

one_form : (p : Place) (q r : GapState) (l m : Leaf) (s t : List ℕ) → l.gap ≡ m.gap → Form p q l s → Form p r m t → l.token ++ s ≡ m.token ++ t → (l ≡ m) × (s ≡ t)
one_form Fresh q r l m s t g (inl h) (inl i) e = two_tokens q r l m s t g h i e
one_form Fresh q r l m s t g (inl h) (inr i) e = absurd (token_or_empty End q r l m s t h i e)
one_form Fresh q r l m s t g (inr h) (inl i) e = absurd (token_or_empty End r q m l t s i h (sym e))
one_form Fresh q r l m s t g (inr h) (inr i) e = two_empty End q r l m s t g h i
one_form After q r l m s t g (inl h) (inl i) e = two_tokens q r l m s t g h i e
one_form After q r l m s t g (inl h) (inr (inl i)) e = absurd (token_or_line q r l m s t h i e)
one_form After q r l m s t g (inl h) (inr (inr i)) e = absurd (token_or_empty Newline q r l m s t h i e)
one_form After q r l m s t g (inr (inl h)) (inl i) e = absurd (token_or_line r q m l t s i h (sym e))
one_form After q r l m s t g (inr (inl h)) (inr (inl i)) e = two_lines q r l m s t g h i e
one_form After q r l m s t g (inr (inl h)) (inr (inr i)) e = absurd (line_or_empty Newline q r l m s t h i e)
one_form After q r l m s t g (inr (inr h)) (inl i) e = absurd (token_or_empty Newline r q m l t s i h (sym e))
one_form After q r l m s t g (inr (inr h)) (inr (inl i)) e = absurd (line_or_empty Newline r q m l t s i h (sym e))
one_form After q r l m s t g (inr (inr h)) (inr (inr i)) e = two_empty Newline q r l m s t g h i
one_form (Inside n) q r l m s t g h i e = two_tokens q r l m s t g h i e
one_form Last q r l m s t g h i e = two_empty End q r l m s t g h.1 i.1
one_form Over q r l m s t g h i e = absurd h

-- one leaf is at a place in a text
pub one_leaf : (p : Place) (l m : Leaf) (s t : List ℕ) → May IsToken p l s → May IsToken p m t → l.gap ++ (l.token ++ s) ≡ m.gap ++ (m.token ++ t) → (l ≡ m) × (s ≡ t)
one_leaf p l m s t h k e =
    let x = form p l s h in
    let y = form p m t k in
    let o = one_stop (newlines_at p) Open x.0 y.0 l.gap (l.token ++ s) m.gap (m.token ++ t) x.1.taken x.1.stops y.1.taken y.1.stops e in
    one_form p x.0 y.0 l m s t o.0 x.2 y.2 o.1

pub not_over : (l : Leaf) (s : List ℕ) → May IsToken Over l s → ⊥
not_over l s h = elim h [ ]

one_list : (p : Place) (ls ms : List Leaf) → Stand (May IsToken) p ls → Stand (May IsToken) p ms → spell_leaves ls ≡ spell_leaves ms → ls ≡ ms
one_list p [] [] h k e = refl
one_list p [] (m ∷ ms) h k e = absurd (not_over m (spell_leaves ms) (subst (λ (q : Place). May IsToken q m (spell_leaves ms)) h k.0))
one_list p (l ∷ ls) [] h k e = absurd (not_over l (spell_leaves ls) (subst (λ (q : Place). May IsToken q l (spell_leaves ls)) k h.0))
one_list p (l ∷ ls) (m ∷ ms) h k e =
    let o = one_leaf p l m (spell_leaves ls) (spell_leaves ms) h.0 k.0 e in
    let there : Stand (May IsToken) (next p l) ms = subst (λ (x : Leaf). Stand (May IsToken) (next p x) ms) (sym o.0) k.1 in
    rw (o.0, one_list (next p l) ls ms h.1 there o.1) refl

pub one_lexing : OneLexing
one_lexing ls ms h k e = one_list Fresh ls ms h k e
