-- Which leaf is at a place, by the state in which its gap ends.
use Rattle.bz_lex.proofs.Words.{[], ◌++◌, ◌∙◌, ◌∷◌, ◌≡◌, ◌⊎◌, After, ap, Bool, both_ways, Class, Comment, End, end, end_at_once, Escape, EscapeReturn, false, first, Fresh, gap_move, gap_state_after, GapState, inl, inner, inr, Inside, is_end, IsToken, Last, later, Leaf, List, May, Newline, newline, newlines_at, no_newline, None, Open, Over, Place, refl, Some, Stops, true, ℕ}
use Rattle.bz_lex.proofs.{Gaps.gap_after, Gaps.gap_from, Tokens.token_stops}

-- a token after a gap that ends between two pieces
pub record ByToken (q : GapState) (l : Leaf) (s : List ℕ) : Type 0 where
  pub closed : q ≡ Open
  pub token : IsToken l.class l.token s

-- no token, at the end of the text
pub record Empty (k : Class) (q : GapState) (l : Leaf) (s : List ℕ) : Type 0 where
  pub class : l.class ≡ k
  pub token : l.token ≡ []
  pub rest : s ≡ []
  pub ends : is_end true q ≡ true

pub record ByNewline (q : GapState) (l : Leaf) : Type 0 where
  pub class : l.class ≡ Newline
  pub token : l.token ≡ 10 ∷ []
  pub ends : is_end true q ≡ true

abbrev pub Form : Place → GapState → Leaf → List ℕ → Type 0
Form Fresh q l s = ByToken q l s ⊎ Empty End q l s
Form After q l s = ByToken q l s ⊎ (ByNewline q l ⊎ Empty Newline q l s)
Form (Inside n) q l s = ByToken q l s
Form Last q l s = (l.gap ≡ []) × Empty End q l s
Form Over q l s = ⊥

-- a gap that ends in this state, with which nothing of the text after it goes on
pub record Ended (n : Bool) (q : GapState) (g b : List ℕ) : Type 0 where
  pub taken : gap_state_after n Open g ≡ Some q
  pub stops : Stops n q b

pub closed_is : (q : GapState) → is_end false q ≡ true → q ≡ Open
closed_is Open h = refl
closed_is Escape h = absurd (both_ways false refl h)
closed_is EscapeReturn h = absurd (both_ways false refl h)
closed_is Comment h = absurd (both_ways false refl h)

line_stops : (q : GapState) → is_end true q ≡ true → gap_move false q 10 ≡ None
line_stops Open h = refl
line_stops Comment h = refl
line_stops Escape h = absurd (both_ways false refl h)
line_stops EscapeReturn h = absurd (both_ways false refl h)

wider : (u : Bool) (q : GapState) → is_end u q ≡ true → is_end true q ≡ true
wider u Open h = refl
wider u Comment h = refl
wider u Escape h = absurd (both_ways false refl h)
wider u EscapeReturn h = absurd (both_ways false refl h)

-- the state in which the gap of a leaf ends, and what the leaf then is
pub form : (p : Place) (l : Leaf) (s : List ℕ) → May IsToken p l s → (q : GapState) × Ended (newlines_at p) q l.gap (l.token ++ s) × Form p q l s
form p l s (first g t) =
    let w = gap_after true false l.gap g in let o = closed_is w.0 w.2 in
    (w.0, record { taken = w.1; stops = rw o (token_stops true l.class l.token s t) }, inl (record { closed = o; token = t }))
form p l s (later g t) =
    let w = gap_after false false l.gap g in let o = closed_is w.0 w.2 in
    (w.0, record { taken = w.1; stops = rw o (token_stops false l.class l.token s t) }, inl (record { closed = o; token = t }))
form p l s (inner g t) =
    let w = gap_after true false l.gap g in let o = closed_is w.0 w.2 in
    (w.0, record { taken = w.1; stops = rw o (token_stops true l.class l.token s t) }, record { closed = o; token = t })
form p l s (newline {gap = g} u h) =
    let w = gap_after false u g h in let o = wider u w.0 w.2 in
    (w.0, record { taken = w.1; stops = line_stops w.0 o }, inr (inl (record { class = refl; token = refl; ends = o })))
form p l s (no_newline {gap = g} u h) =
    let w = gap_after false u g h in
    (w.0, record { taken = w.1; stops = tt }, inr (inr (record { class = refl; token = refl; rest = refl; ends = wider u w.0 w.2 })))
form p l s (end {gap = g} u h) =
    let w = gap_after true u g h in
    (w.0, record { taken = w.1; stops = tt }, inr (record { class = refl; token = refl; rest = refl; ends = wider u w.0 w.2 }))
form p l s end_at_once = (Open, record { taken = refl; stops = tt }, (refl, record { class = refl; token = refl; rest = refl; ends = refl }))

pub same_leaf : (l m : Leaf) → l.class ≡ m.class → l.gap ≡ m.gap → l.token ≡ m.token → l ≡ m
same_leaf l m a b c =
    let x : l ≡ record { class = m.class; gap = l.gap; token = l.token } = ap (λ (k : Class). record { class = k; gap = l.gap; token = l.token }) a in
    let y : record { class = m.class; gap = l.gap; token = l.token } ≡ record { class = m.class; gap = m.gap; token = l.token } = ap (λ (g : List ℕ). record { class = m.class; gap = g; token = l.token }) b in
    let z : record { class = m.class; gap = m.gap; token = l.token } ≡ m = ap (λ (t : List ℕ). record { class = m.class; gap = m.gap; token = t }) c in
    x ∙ y ∙ z

-- the leaf of such a form is there
pub may : (p : Place) (q : GapState) (l : Leaf) (s : List ℕ) → gap_state_after (newlines_at p) Open l.gap ≡ Some q → Form p q l s → May IsToken p l s
may Fresh q l s e (inl h) = first (gap_from true false q l.gap e (rw h.closed refl)) h.token
may Fresh q l s e (inr h) =
    rw (same_leaf l (record { class = End; gap = l.gap; token = [] }) h.class refl h.token, h.rest) (end true (gap_from true true q l.gap e h.ends))
may After q l s e (inl h) = later (gap_from false false q l.gap e (rw h.closed refl)) h.token
may After q l s e (inr (inl h)) =
    rw (same_leaf l (record { class = Newline; gap = l.gap; token = 10 ∷ [] }) h.class refl h.token) (newline true (gap_from false true q l.gap e h.ends))
may After q l s e (inr (inr h)) =
    rw (same_leaf l (record { class = Newline; gap = l.gap; token = [] }) h.class refl h.token, h.rest) (no_newline true (gap_from false true q l.gap e h.ends))
may (Inside n) q l s e h = inner (gap_from true false q l.gap e (rw h.closed refl)) h.token
may Last q l s e h = rw (same_leaf l (record { class = End; gap = []; token = [] }) h.1.class h.0 h.1.token, h.1.rest) end_at_once
may Over q l s e h = absurd h
