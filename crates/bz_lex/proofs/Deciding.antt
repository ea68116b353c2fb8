-- Which leaf is at the front of a text is decided.
use Rattle.bz_lex.proofs.Words.{[], ◌∷◌, ◌≡◌, ◌≤◌, ◌⊎◌, After, arith, Bool, cases_Bool, Class, drop, End, eqb, eqb-false, eqb-true, false, Fresh, Front, gap_move, gap_state_after, GapFront, GapState, inl, inr, Inside, is_end, IsFront, IsGapFront, Last, length, List, Newline, newlines_at, no_class, NoLeaf, None, none_token, NoToken, Open, Option, Over, Place, refl, slice_get, Some, some_token, Stops, suc, take, third_token, TokenAt, true, ℕ}
use Rattle.bz_token.specs.declared.state.State.{State}
use Rattle.bz_token.specs.private.Scanner.{ends, keyword_or_name, before_third, longest_front}
use Rattle.bz_lex.proofs.Forms.{form}
use Rattle.bz_lex.proofs.Fronts.{fresh_token, fresh_no_token, fresh_end, following_token, after_end, after_line, inside_token, inside_end, last_end, last_more, broken_front}

-- as much of a text as a gap goes on with
record GapAt (n : Bool) (q : GapState) (s : List ℕ) : Type 0 where
  length_is : ℕ
  state : GapState
  within : length_is ≤ length s
  taken : gap_state_after n q (take length_is s) ≡ Some state
  stops : Stops n state (drop length_is s)

gap_by : (n : Bool) (q : GapState) (c : ℕ) (s : List ℕ) (o : Option GapState) → gap_move n q c ≡ o → ((r : GapState) → GapAt n r s) → GapAt n q (c ∷ s)
gap_by n q c s None e f = record { length_is = 0; state = q; within = omega arith; taken = refl; stops = e }
gap_by n q c s (Some r) e f =
    let w = f r in
    record { length_is = suc w.length_is; state = w.state; within = let k = w.within in omega arith; taken = rw e w.taken; stops = w.stops }

gap_found : (n : Bool) (q : GapState) (s : List ℕ) → GapAt n q s
gap_found n q [] = record { length_is = 0; state = q; within = omega arith; taken = refl; stops = tt }
gap_found n q (c ∷ s) = gap_by n q c s (gap_move n q c) refl (λ r. gap_found n r s)

token_found : (s : List ℕ) → ((c : Class) × (k : ℕ) × TokenAt c k s) ⊎ NoToken s
token_found s = by_front (longest_front s) refl
  where
    by_class : (x : State × ℕ) (o : Option Class) → Some x ≡ longest_front s → before_third (x.0) (drop (x.1) s) ≡ false → o ≡ ends (x.0) → ((c : Class) × (k : ℕ) × TokenAt c k s) ⊎ NoToken s
    by_class x None e h f = absurd (no_class s x e f)
    by_class x (Some k) e h f = inl (keyword_or_name k (take (x.1) s), x.1, some_token s x k e h f)

    by_front : (o : Option (State × ℕ)) → o ≡ longest_front s → ((c : Class) × (k : ℕ) × TokenAt c k s) ⊎ NoToken s
    by_front None e = inr (none_token s e)
    by_front (Some x) e = elim (cases_Bool (before_third (x.0) (drop (x.1) s))) [
      | inl h ↦ inr (third_token s x e h)
      | inr h ↦ by_class x (ends (x.0)) e h refl
    ]

-- a leaf at a place, or none
abbrev pub Decided : Place → List ℕ → Type 0
Decided p s = ((f : Front) × IsFront p f s) ⊎ NoLeaf p s

-- the gap may end, or no leaf is there
by_gap : (p : Place) (s : List ℕ) → ((gap : GapFront) → IsGapFront (newlines_at p) gap s → Decided p s) → Decided p s
by_gap p s f =
    let w = gap_found (newlines_at p) Open s in
    let gap : GapFront = record { length = w.length_is; state = w.state } in
    elim (cases_Bool (is_end true w.state)) [
      | inl e ↦ f gap (record { within = w.within; taken = w.taken; stops = w.stops; ends = e })
      | inr e ↦ inr (broken_front p (newlines_at p) gap s refl e w.taken w.stops)
    ]

abbrev front : Class → ℕ → ℕ → Front
front class gap token = record { class = class; gap = gap; token = token }

fresh_found : (s : List ℕ) (gap : GapFront) → IsGapFront true gap s → (o : Option ℕ) → slice_get s gap.length ≡ o → Decided Fresh s
fresh_found s gap g None e = inl (front End gap.length 0, fresh_end gap s (front End gap.length 0) g e refl)
fresh_found s gap g (Some c) e = elim (token_found (drop gap.length s)) [
  | inr none ↦ inr (fresh_no_token gap s c g e none)
  | inl w ↦ inl (front w.0 gap.length w.1, fresh_token gap s c (front w.0 gap.length w.1) g e (refl, w.2))
]

after_found : (s : List ℕ) (gap : GapFront) → IsGapFront false gap s → (o : Option ℕ) → slice_get s gap.length ≡ o → Decided After s
after_found s gap g None e = inl (front Newline gap.length 0, after_end gap s (front Newline gap.length 0) g e refl)
after_found s gap g (Some c) e = elim (cases_Bool (eqb c 10)) [
  | inl b ↦ inl (front Newline gap.length 1, after_line gap s (front Newline gap.length 1) g (rw (eqb-true c 10 b) at e) refl)
  | inr b ↦ elim (token_found (drop gap.length s)) [
    | inr none ↦ inr (following_token gap s c None g e (eqb-false c 10 b) none)
    | inl w ↦ inl (front w.0 gap.length w.1, following_token gap s c (Some (front w.0 gap.length w.1)) g e (eqb-false c 10 b) (refl, w.2))
  ]
]

inside_found : (d : ℕ) (s : List ℕ) (gap : GapFront) → IsGapFront true gap s → (o : Option ℕ) → slice_get s gap.length ≡ o → Decided (Inside d) s
inside_found d s gap g None e = inr (inside_end d gap s g e)
inside_found d s gap g (Some c) e = elim (token_found (drop gap.length s)) [
  | inr none ↦ inr (inside_token d gap s c None g e none)
  | inl w ↦ inl (front w.0 gap.length w.1, inside_token d gap s c (Some (front w.0 gap.length w.1)) g e (refl, w.2))
]

pub leaf_found : (p : Place) (s : List ℕ) → Decided p s
leaf_found Fresh s = by_gap Fresh s (λ gap g. fresh_found s gap g (slice_get s gap.length) refl)
leaf_found After s = by_gap After s (λ gap g. after_found s gap g (slice_get s gap.length) refl)
leaf_found (Inside d) s = by_gap (Inside d) s (λ gap g. inside_found d s gap g (slice_get s gap.length) refl)
leaf_found Last [] = inl (front End 0 0, last_end [] (front End 0 0) refl refl)
leaf_found Last (c ∷ s) = inr (last_more (c ∷ s) (λ e. cc))
leaf_found Over s = inr (λ l t m i. absurd (form Over l t m).2)
