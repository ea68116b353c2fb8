-- The tokens of a text without lines.
use Rattle.bz_lex.proofs.Words.{[], ◌++◌, ◌+◌, ◌-◌, ◌<◌, ◌∙◌, ◌∷◌, ◌≡◌, ◌≢◌, ◌≤◌, ◌⊎◌, after_front, ap, append-nil, append_assoc, append_cancel_left, AreLexemes, arith, both_ways, Class, drop, false, Front, front_token, gap_state_after, GapFront, GapState, inl, inr, is_end, IsGap, IsLexemeFront, IsToken, length, length-append, length-drop, LexedTo, List, no_token, NoLexemes, NoToken, Open, OpensString, refl, slice_get, Some, Stops, subst, suc, sym, take, take-append-drop, take-length, token_more, TokenAt, true, ℕ}
use Rattle.bz_lex.proofs.{Gaps.gap_after, Gaps.gap_from, Gaps.one_stop, Tokens.one_token, Tokens.token_stops, Tokens.token_holds, Lists.token_length, Forms.closed_is, Fronts.open_true, Fronts.rest_some, Fronts.token_within}

-- what is after the first gap of a text that has tokens: nothing, or a token
abbrev Begun : GapState → List ℕ → Type 0
Begun q b = ((b ≡ []) × (is_end true q ≡ true)) ⊎ ((k : Class) × (u : List ℕ) × (r : List ℕ) × (vs : List (List ℕ)) × (b ≡ u ++ r) × (q ≡ Open) × IsToken k u r × AreLexemes vs r)

record First (s : List ℕ) : Type 0 where
  gap : List ℕ
  following : List ℕ
  state : GapState
  parts : s ≡ gap ++ following
  taken : gap_state_after true Open gap ≡ Some state
  stops : Stops true state following
  begun : Begun state following

first : (s : List ℕ) (us : List (List ℕ)) → AreLexemes us s → First s
first s [] h =
    let w = gap_after true true s h in
    record { gap = s; following = []; state = w.0; parts = sym (append-nil s); taken = w.1; stops = tt; begun = inl (refl, w.2) }
first s (u ∷ us) (k, g, r, e, i, t, m) =
    let w = gap_after true false g i in
    let o = closed_is w.0 w.2 in
    record { gap = g; following = u ++ r; state = Open; parts = e; taken = rw o at w.1; stops = token_stops true k u r t; begun = inr (k, u, r, us, refl, refl, t, m) }

-- the first gap as it was read
met : (q : GapState) (n : ℕ) (s : List ℕ) (us : List (List ℕ)) → gap_state_after true Open (take n s) ≡ Some q → Stops true q (drop n s) → AreLexemes us s → Begun q (drop n s)
met q n s us e h k =
    let f = first s us k in
    let o = one_stop true Open f.state q f.gap f.following (take n s) (drop n s) f.taken f.stops e h (sym f.parts ∙ sym (take-append-drop n s)) in
    rw (o.1, o.2) at f.begun

begun_ends : (q : GapState) (b : List ℕ) → Begun q b → is_end true q ≡ true
begun_ends q b (inl h) = h.1
begun_ends q b (inr (k, u, r, vs, e, o, t, m)) = rw o refl

pub broken_lexeme : (gap : GapFront) (s : List ℕ) → gap_state_after true Open (take gap.length s) ≡ Some gap.state → Stops true gap.state (drop gap.length s) → is_end true gap.state ≡ false → NoLexemes s
broken_lexeme gap s e h b us k = both_ways (is_end true gap.state) b (begun_ends gap.state (drop gap.length s) (met gap.state gap.length s us e h k))

pub all_gap : (gap : GapFront) (s : List ℕ) → gap_state_after true Open (take gap.length s) ≡ Some gap.state → is_end true gap.state ≡ true → gap.length ≡ length s → IsGap true true s
all_gap gap s e b i = subst (IsGap true true) (take_all s gap.length i) (gap_from true true gap.state (take gap.length s) e b)
  where
    take_all : (s : List ℕ) (n : ℕ) → n ≡ length s → take n s ≡ s
    take_all s n i = rw i (take-length s)

pub no_lexeme : (gap : GapFront) (s : List ℕ) (c : ℕ) → gap_state_after true Open (take gap.length s) ≡ Some gap.state → Stops true gap.state (drop gap.length s) → slice_get s gap.length ≡ Some c → NoToken (drop gap.length s) → NoLexemes s
no_lexeme gap s c e h b t us k = by_begun (met gap.state gap.length s us e h k)
  where
    by_begun : Begun gap.state (drop gap.length s) → ⊥
    by_begun (inl w) = let i : c ∷ drop (suc gap.length) s ≡ [] = sym (rest_some s gap.length c b) ∙ w.0 in cc
    by_begun (inr (k, u, r, vs, i, o, m, l)) = t k u r (sym i) m

pub lexeme : (gap : GapFront) (s : List ℕ) (c : ℕ) (front : Front) → gap.length ≤ length s → gap_state_after true Open (take gap.length s) ≡ Some gap.state → Stops true gap.state (drop gap.length s) → is_end true gap.state ≡ true
    → slice_get s gap.length ≡ Some c → front.gap ≡ gap.length → TokenAt front.class front.token (drop gap.length s) → (OpensString (drop front.gap s) → ⊥) → IsLexemeFront front s
lexeme gap s c front w e h b i f t n =
    let o = open_true gap.state c (drop (suc gap.length) s) (subst (Stops true gap.state) (rest_some s gap.length c i) h) b in
    record {
      within = token_within gap.length front s w f t;
      gap = rw f (gap_from true false gap.state (take gap.length s) e (rw o refl));
      token = rw f t.1;
      unopened = n;
    }

-- ---- the tokens so far

next_tokens : (front : Front) (s : List ℕ) (us : List (List ℕ)) → IsGap true false (take front.gap s) → IsToken front.class (front_token front s) (after_front front s) → AreLexemes us s
    → (vs : List (List ℕ)) × AreLexemes vs (after_front front s)
next_tokens front s us gap token k =
    let g = gap_after true false (take front.gap s) gap in
    let o = closed_is g.0 g.2 in
    let parts = take-append-drop front.token (drop front.gap s) in
    let stops : Stops true Open (drop front.gap s) = subst (Stops true Open) parts (token_stops true front.class (front_token front s) (after_front front s) token) in
    by_begun (met Open front.gap s us (rw o at g.1) stops k) parts
  where
    by_begun : Begun Open (drop front.gap s) → front_token front s ++ after_front front s ≡ drop front.gap s → (vs : List (List ℕ)) × AreLexemes vs (after_front front s)
    by_begun (inl w) parts = absurd (token_holds front.class (front_token front s) (after_front front s) token (parts ∙ w.0))
    by_begun (inr (k, u, r, vs, i, o, m, l)) parts =
        let one = one_token k front.class u r (front_token front s) (after_front front s) m token (sym i ∙ sym parts) in
        (vs, subst (AreLexemes vs) (append_cancel_left (front_token front s) r (after_front front s) (subst (λ (x : List ℕ). x ++ r ≡ front_token front s ++ after_front front s) one.1 (sym i ∙ sym parts))) l)

-- a token after which neither a gap nor a token begins
pub no_rest : (front : Front) (s : List ℕ) → IsGap true false (take front.gap s) → IsToken front.class (front_token front s) (after_front front s) → Stops true Open (after_front front s) × (after_front front s ≢ [])
    → NoToken (after_front front s) → NoLexemes s
no_rest front s gap token here none us k =
    let w = next_tokens front s us gap token k in
    by_begun (met Open 0 (after_front front s) w.0 refl here.0 w.1)
  where
    by_begun : Begun Open (after_front front s) → ⊥
    by_begun (inl w) = here.1 w.0
    by_begun (inr (k, u, r, vs, i, o, m, l)) = none k u r (sym i) m

-- the tokens read so far, and the rest of the text
pub record IsLexedTo (text : List ℕ) (tokens : List (List ℕ)) (rest : List ℕ) : Type 0 where
  pub sound : (us : List (List ℕ)) → AreLexemes us rest → AreLexemes (tokens ++ us) text
  pub complete : (us : List (List ℕ)) → AreLexemes us text → (vs : List (List ℕ)) × AreLexemes vs rest
  pub within : length rest ≤ length text
  pub lexed : LexedTo text rest

pub begin : (text : List ℕ) → IsLexedTo text [] text
begin text = record { sound = λ us h. h; complete = λ us h. (us, h); within = omega arith; lexed = no_token }

-- a text by the gap, the token and what is after it
whole : (front : Front) (s : List ℕ) → s ≡ take front.gap s ++ (front_token front s ++ after_front front s)
whole front s = sym (ap (λ (t : List ℕ). take front.gap s ++ t) (take-append-drop front.token (drop front.gap s)) ∙ take-append-drop front.gap s)

unopened_at : (front : Front) (s : List ℕ) → IsLexemeFront front s → OpensString (front_token front s ++ after_front front s) → ⊥
unopened_at front s f o = f.unopened (subst OpensString (take-append-drop front.token (drop front.gap s)) o)

-- one token more
pub lexed_more : (text rest : List ℕ) (front : Front) → LexedTo text rest → IsLexemeFront front rest → LexedTo text (after_front front rest)
lexed_more text rest front h f = token_more front.class (take front.gap rest) (front_token front rest) (after_front front rest) (subst (LexedTo text) (whole front rest) h) f.gap f.token (unopened_at front rest f)

pub go_on : (text : List ℕ) (ts : List (List ℕ)) (rest : List ℕ) (front : Front) → IsLexedTo text ts rest → IsLexemeFront front rest → IsLexedTo text (ts ++ (front_token front rest ∷ [])) (after_front front rest)
go_on text ts rest front h f = record {
  sound = λ us k. rw (append_assoc ts (front_token front rest ∷ []) us)
      (h.sound (front_token front rest ∷ us) (front.class, take front.gap rest, after_front front rest, whole front rest, f.gap, f.token, k));
  complete = λ us k. let w = h.complete us k in next_tokens front rest w.0 f.gap f.token w.1;
  within = let n = h.within in simp length-drop (omega arith);
  lexed = lexed_more text rest front h.lexed f;
}

pub done : (text : List ℕ) (ts : List (List ℕ)) (rest : List ℕ) → IsLexedTo text ts rest → IsGap true true rest → AreLexemes ts text
done text ts rest h g = rw append-nil at (h.sound [] g)

-- one turn of the loop
pub next_turn : (text : List ℕ) (ts us : List (List ℕ)) (rest following token : List ℕ) (front : Front) → IsLexedTo text ts rest → IsLexemeFront front rest → token ≡ front_token front rest → us ≡ ts ++ (token ∷ []) → following ≡ after_front front rest → IsLexedTo text us following
next_turn text ts us rest following token front h f e i j = rw (i, e, j) (go_on text ts rest front h f)

pub shorter : (rest following : List ℕ) (front : Front) → IsLexemeFront front rest → following ≡ after_front front rest → length following < length rest
shorter rest following front f e =
    let n = token_length front.class (front_token front rest) (after_front front rest) f.token in
    let m : length (front_token front rest) + length (after_front front rest) ≡ length rest - front.gap = sym (length-append (front_token front rest) (after_front front rest)) ∙ ap length (take-append-drop front.token (drop front.gap rest)) ∙ length-drop front.gap rest in
    let w = f.within in
    rw e (omega arith)
