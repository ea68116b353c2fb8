-- Reading the leaf at the front of a text.
use Rattle.bz_lex.proofs.Words.{[], ◌++◌, ◌+◌, ◌-◌, ◌<◌, ◌==◌, ◌∙◌, ◌∷◌, ◌≡◌, ◌≢◌, ◌≤◌, After, after_front, AnswersFront, ap, arith, Bool, both_ways, cases_lt, Class, Comment, drop, drop-cons, drop_of_length-le, End, end_at_once, eqb, eqb-true, Escape, EscapeReturn, false, Fresh, Front, front_leaf, gap_state_after, GapFront, GapState, get_or, get_or_from_slice_get, if◌then◌else◌, inl, inr, Inside, is_end, IsFront, IsGapFront, IsToken, Last, Leaf, length, length-drop, List, MatchOption, ne_eqb, Newline, newlines_at, NoLeaf, None, NoToken, Open, Option, Over, Place, refl, slice_get, slice_get-get_or, slice_get_past, slice_get_within, Some, Stops, subst, suc, sym, take, take-append-drop, TokenAt, true, ℕ}
use Rattle.bz_lex.proofs.{Gaps.one_stop, Tokens.token_holds, Forms.Empty, Forms.Form, Forms.form, Forms.may}

-- what the byte at n says of the text from there on
pub rest_none : (s : List ℕ) (n : ℕ) → slice_get s n ≡ None → drop n s ≡ []
rest_none s n e = elim (cases_lt n (length s)) [
  | inl lt ↦ absurd (let f : Some (get_or s n 0) ≡ None = sym (slice_get-get_or s n 0 lt) ∙ e in cc)
  | inr le ↦ drop_of_length-le s le
]

pub rest_some : (s : List ℕ) (n c : ℕ) → slice_get s n ≡ Some c → drop n s ≡ c ∷ drop (suc n) s
rest_some s n c e = drop-cons s n 0 (slice_get_within s n c e) ∙ ap (λ (x : ℕ). x ∷ drop (suc n) s) (get_or_from_slice_get s n c 0 e)

two_ways : (b : Bool) (q r : GapState) → (let o : Option GapState = if b then Some q else Some r in o ≡ None) → ⊥
two_ways true q r e = cc
two_ways false q r e = cc

-- before a byte that no gap goes on with, a gap that may end ends between two pieces
pub open_true : (q : GapState) (c : ℕ) (r : List ℕ) → Stops true q (c ∷ r) → is_end true q ≡ true → q ≡ Open
open_true Open c r h e = refl
open_true Escape c r h e = absurd (both_ways false refl e)
open_true EscapeReturn c r h e = absurd (both_ways false refl e)
open_true Comment c r h e = absurd (two_ways (eqb c 10) Open Comment h)

open_false : (q : GapState) (c : ℕ) (r : List ℕ) → Stops false q (c ∷ r) → is_end true q ≡ true → c ≢ 10 → q ≡ Open
open_false Open c r h e i = refl
open_false Escape c r h e i = absurd (both_ways false refl e)
open_false EscapeReturn c r h e i = absurd (both_ways false refl e)
open_false Comment c r h e i = absurd (let f : Some Comment ≡ None = rw (ne_eqb c 10 i) at h in cc)

-- no leaf, where none has a form
no_leaf : (p : Place) (q : GapState) (n : ℕ) (s : List ℕ) → gap_state_after (newlines_at p) Open (take n s) ≡ Some q → Stops (newlines_at p) q (drop n s)
    → ((l : Leaf) (t : List ℕ) → Form p q l t → l.gap ≡ take n s → l.token ++ t ≡ drop n s → ⊥) → NoLeaf p s
no_leaf p q n s e h f l t m i =
    let x = form p l t m in
    let o = one_stop (newlines_at p) Open x.0 q l.gap (l.token ++ t) (take n s) (drop n s) x.1.taken x.1.stops e h (i ∙ sym (take-append-drop n s)) in
    f l t (subst (λ (r : GapState). Form p r l t) o.2 x.2) o.0 o.1

form_ends : (p : Place) (q : GapState) (l : Leaf) (t : List ℕ) → Form p q l t → is_end true q ≡ true
form_ends Fresh q l t (inl h) = rw h.closed refl
form_ends Fresh q l t (inr h) = h.ends
form_ends After q l t (inl h) = rw h.closed refl
form_ends After q l t (inr (inl h)) = h.ends
form_ends After q l t (inr (inr h)) = h.ends
form_ends (Inside n) q l t h = rw h.closed refl
form_ends Last q l t h = h.1.ends
form_ends Over q l t h = absurd h

-- no leaf after a gap that breaks off
broken_gap : (p : Place) (q : GapState) (n : ℕ) (s : List ℕ) → gap_state_after (newlines_at p) Open (take n s) ≡ Some q → Stops (newlines_at p) q (drop n s) → is_end true q ≡ false → NoLeaf p s
broken_gap p q n s e h b = no_leaf p q n s e h (λ l t f g i. both_ways (is_end true q) b (form_ends p q l t f))

-- a leaf of the form at hand
leaf_of : (p : Place) (gap : GapFront) (front : Front) (s : List ℕ) → IsGapFront (newlines_at p) gap s → front.gap ≡ gap.length → front.gap + front.token ≤ length s → Form p gap.state (front_leaf front s) (after_front front s) → IsFront p front s
leaf_of p gap front s g e w f = record { within = w; may = may p gap.state (front_leaf front s) (after_front front s) (rw e g.taken) f }

abbrev pub AnswersToken : ℕ → List ℕ → Option Front → Type 0
AnswersToken n s r = MatchOption r (NoToken (drop n s)) (λ (front : Front). (front.gap ≡ n) × TokenAt front.class front.token (drop n s))

token_of : (n : ℕ) (front : Front) (s : List ℕ) → front.gap ≡ n → TokenAt front.class front.token (drop n s) → IsToken front.class (front_leaf front s).token (after_front front s)
token_of n front s e t = rw e t.1

pub token_within : (n : ℕ) (front : Front) (s : List ℕ) → n ≤ length s → front.gap ≡ n → TokenAt front.class front.token (drop n s) → front.gap + front.token ≤ length s
token_within n front s w e t = let k : front.token ≤ length s - n = rw length-drop at t.0 in omega arith

no_token : (p : Place) (gap : GapFront) (s : List ℕ) → IsGapFront (newlines_at p) gap s → ((l : Leaf) (t : List ℕ) → Form p gap.state l t → l.token ++ t ≡ drop gap.length s → IsToken l.class l.token t) → NoToken (drop gap.length s) → NoLeaf p s
no_token p gap s g only none = no_leaf p gap.state gap.length s g.taken g.stops (λ l t f e i. none l.class l.token t i (only l t f i))

starts : (t : List ℕ) (s : List ℕ) (n c : ℕ) → drop n s ≡ c ∷ drop (suc n) s → t ≡ drop n s → t ≡ [] → ⊥
starts t s n c e f g = let h : c ∷ drop (suc n) s ≡ [] = sym e ∙ sym f ∙ g in cc

-- what the token after the gap says, place by place
pub inside_token : (d : ℕ) (gap : GapFront) (s : List ℕ) (c : ℕ) (r : Option Front) → IsGapFront true gap s → slice_get s gap.length ≡ Some c → AnswersToken gap.length s r → AnswersFront (Inside d) s r
inside_token d gap s c (Some front) g b t =
    leaf_of (Inside d) gap front s g t.0 (token_within gap.length front s g.within t.0 t.1)
    (record { closed = open_true gap.state c (drop (suc gap.length) s) (subst (Stops true gap.state) (rest_some s gap.length c b) g.stops) g.ends; token = token_of gap.length front s t.0 t.1 })
inside_token d gap s c None g b t = no_token (Inside d) gap s g (λ l t f i. f.token) t

empty_form : (k : Class) (q : GapState) (l : Leaf) (t : List ℕ) (s : List ℕ) (n c : ℕ) → slice_get s n ≡ Some c → Empty k q l t → l.token ++ t ≡ drop n s → ⊥
empty_form k q l t s n c b h i = starts (l.token ++ t) s n c (rest_some s n c b) i (rw (h.token, h.rest) refl)

pub following_token : (gap : GapFront) (s : List ℕ) (c : ℕ) (r : Option Front) → IsGapFront false gap s → slice_get s gap.length ≡ Some c → c ≢ 10 → AnswersToken gap.length s r → AnswersFront After s r
following_token gap s c (Some front) g b off t =
    leaf_of After gap front s g t.0 (token_within gap.length front s g.within t.0 t.1)
    (inl (record { closed = open_false gap.state c (drop (suc gap.length) s) (subst (Stops false gap.state) (rest_some s gap.length c b) g.stops) g.ends off; token = token_of gap.length front s t.0 t.1 }))
following_token gap s c None g b off t = no_token After gap s g only t
  where
    only : (l : Leaf) (t : List ℕ) → Form After gap.state l t → l.token ++ t ≡ drop gap.length s → IsToken l.class l.token t
    only l t (inl h) i = h.token
    only l t (inr (inl h)) i = absurd (off (let j : 10 ∷ t ≡ c ∷ drop (suc gap.length) s = sym (ap (λ (x : List ℕ). x ++ t) h.token) ∙ i ∙ rest_some s gap.length c b in cc))
    only l t (inr (inr h)) i = absurd (empty_form Newline gap.state l t s gap.length c b h i)

pub fresh_token : (gap : GapFront) (s : List ℕ) (c : ℕ) (front : Front) → IsGapFront true gap s → slice_get s gap.length ≡ Some c → AnswersToken gap.length s (Some front) → IsFront Fresh front s
fresh_token gap s c front g b t =
    leaf_of Fresh gap front s g t.0 (token_within gap.length front s g.within t.0 t.1)
    (inl (record { closed = open_true gap.state c (drop (suc gap.length) s) (subst (Stops true gap.state) (rest_some s gap.length c b) g.stops) g.ends; token = token_of gap.length front s t.0 t.1 }))

pub fresh_no_token : (gap : GapFront) (s : List ℕ) (c : ℕ) → IsGapFront true gap s → slice_get s gap.length ≡ Some c → NoToken (drop gap.length s) → NoLeaf Fresh s
fresh_no_token gap s c g b t = no_token Fresh gap s g only t
  where
    only : (l : Leaf) (t : List ℕ) → Form Fresh gap.state l t → l.token ++ t ≡ drop gap.length s → IsToken l.class l.token t
    only l t (inl h) i = h.token
    only l t (inr h) i = absurd (empty_form End gap.state l t s gap.length c b h i)

pub fresh_answered : (gap : GapFront) (s : List ℕ) (c : ℕ) (r : Option Front) → IsGapFront true gap s → slice_get s gap.length ≡ Some c → AnswersToken gap.length s r → AnswersFront Fresh s r
fresh_answered gap s c (Some front) g b t = fresh_token gap s c front g b t
fresh_answered gap s c None g b t = fresh_no_token gap s c g b t

pub fresh_end : (gap : GapFront) (s : List ℕ) (front : Front) → IsGapFront true gap s → slice_get s gap.length ≡ None → front ≡ record { class = End; gap = gap.length; token = 0 } → IsFront Fresh front s
fresh_end gap s front g b e =
    let r = rest_none s gap.length b in
    rw e (leaf_of Fresh gap (record { class = End; gap = gap.length; token = 0 }) s g refl (let w : gap.length ≤ length s = g.within in omega arith) (inr (record { class = refl; token = refl; rest = r; ends = g.ends })))

pub after_end : (gap : GapFront) (s : List ℕ) (front : Front) → IsGapFront false gap s → slice_get s gap.length ≡ None → front ≡ record { class = Newline; gap = gap.length; token = 0 } → IsFront After front s
after_end gap s front g b e =
    let r = rest_none s gap.length b in
    rw e (leaf_of After gap (record { class = Newline; gap = gap.length; token = 0 }) s g refl (let w : gap.length ≤ length s = g.within in omega arith) (inr (inr (record { class = refl; token = refl; rest = r; ends = g.ends }))))

pub after_line : (gap : GapFront) (s : List ℕ) (front : Front) → IsGapFront false gap s → slice_get s gap.length ≡ Some 10 → front ≡ record { class = Newline; gap = gap.length; token = 1 } → IsFront After front s
after_line gap s front g b e =
    let r = rest_some s gap.length 10 b in
    let w : gap.length + 1 ≤ length s = let k = slice_get_within s gap.length 10 b in omega arith in
    rw e (leaf_of After gap (record { class = Newline; gap = gap.length; token = 1 }) s g refl w (inr (inl (record { class = refl; token = rw r refl; ends = g.ends }))))

pub inside_end : (d : ℕ) (gap : GapFront) (s : List ℕ) → IsGapFront true gap s → slice_get s gap.length ≡ None → NoLeaf (Inside d) s
inside_end d gap s g b = no_leaf (Inside d) gap.state gap.length s g.taken g.stops (λ l t f e i. token_holds l.class l.token t f.token (i ∙ rest_none s gap.length b))

pub last_end : (s : List ℕ) (front : Front) → s ≡ [] → front ≡ record { class = End; gap = 0; token = 0 } → IsFront Last front s
last_end s front e f = rw (e, f) (record { within = omega arith; may = end_at_once })

pub last_more : (s : List ℕ) → s ≢ [] → NoLeaf Last s
last_more s h l t m i = let x = form Last l t m in h (sym i ∙ rw (x.2.0, x.2.1.token, x.2.1.rest) refl)

pub no_byte : (s : List ℕ) (n : ℕ) → n ≡ length s → slice_get s n ≡ None
no_byte s n e = slice_get_past s n (omega arith)

pub byte_at : (s : List ℕ) (n : ℕ) → n ≤ length s → n ≢ length s → slice_get s n ≡ Some (get_or s n 0)
byte_at s n w e = let lt : n < length s = omega arith in slice_get-get_or s n 0 lt

pub empty_list : (s : List ℕ) (b : Bool) → b ≡ (length s == 0) → b ≡ true → s ≡ []
empty_list [] b e h = refl
empty_list (c ∷ s) b e h = let k : length (c ∷ s) ≡ 0 = eqb-true (length (c ∷ s)) 0 (sym e ∙ h) in absurd (omega arith)

pub no_empty_list : (s : List ℕ) (b : Bool) → b ≡ (length s == 0) → b ≡ false → s ≢ []
no_empty_list [] b e h i = both_ways b h e
no_empty_list (c ∷ s) b e h i = cc

pub broken_front : (p : Place) (m : Bool) (gap : GapFront) (s : List ℕ) → m ≡ newlines_at p → is_end true gap.state ≡ false → gap_state_after m Open (take gap.length s) ≡ Some gap.state → Stops m gap.state (drop gap.length s) → NoLeaf p s
broken_front p m gap s i b h k = broken_gap p gap.state gap.length s (rw i at h) (rw i at k) b
