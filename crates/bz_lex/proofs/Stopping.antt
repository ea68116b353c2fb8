-- Where the tokens of a text stop, and why.
use Rattle.bz_lex.proofs.Words.{[], ◌++◌, ◌+◌, ◌-◌, ◌∙◌, ◌∷◌, ◌≡◌, ◌≢◌, ◌≤◌, ◌⊎◌, after_front, and_then, ap, append_assoc, arith, Bool, both_ways, broken_off, cases_Bool, Comment, drop, drop-append_seam, eqb, eqb-true, Escape, EscapeReturn, false, Front, front_token, gap_move, gap_state_after, GapFront, GapState, inl, inr, is_blank, is_end, is_quote, is_solid, IsFaultAt, IsGap, IsLexemeStop, IsToken, length, length-append, length-drop, length-take-le, LexedTo, List, min, nat_eq, ne_eqb, no_token, NoLexemes, None, none-some, NothingBegins, NoToken, NoTokenFor, Open, OpensString, Option, or_cases, refl, same_Some, slice_get, Some, Stops, StopsAt, StopsFor, subst, suc, sym, take, take-append-drop, take-append_seam, token_more, TokenAt, true, ℕ}
use Rattle.bz_token.specs.Lexemes.{is_prefix}
use Rattle.bz_token.proofs.Opening.{opens_after_prefix}
use Rattle.bz_lex.specs.{declared.fault.ReadFault.ReadFault, declared.front.Reason.Reason, declared.front.Stop.Stop, Faults.fault_of, Faults.is_lexical, Positions.line_at, Positions.column_of}
use Rattle.bz_lex.specs.declared.front.Reason.TheVariants as r
use Rattle.bz_lex.proofs.{Fronts.open_true, Fronts.rest_none, Fronts.rest_some, Gaps.gap_after, Gaps.gap_from, Lexing.no_rest, Tokens.begins}

-- ---- no gap begins where one stops

no_gap_on : (s g t : List ℕ) → Stops true Open s → g ++ t ≡ s → IsGap true true g → g ≡ []
no_gap_on s [] t h e k = refl
no_gap_on s (c ∷ g) t h e k =
    let w = gap_after true true (c ∷ g) k in
    let stuck : gap_move true Open c ≡ None = subst (Stops true Open) (sym e) h in
    let none : None ≡ Some (w.0) = rw stuck at w.1 in
    absurd (none-some (w.0) none)

-- ---- a gap that breaks off at a backslash

-- the last byte before a state
abbrev Last : Bool → GapState → GapState → List ℕ → Type 0
Last n q r s = ((s ≡ []) × (q ≡ r)) ⊎ ((u : List ℕ) × (c : ℕ) × (p : GapState) × (s ≡ u ++ (c ∷ [])) × (gap_state_after n q u ≡ Some p) × (gap_move n p c ≡ Some r))

last_byte : (n : Bool) (q r : GapState) (s : List ℕ) → gap_state_after n q s ≡ Some r → Last n q r s
last_byte n q r [] e = inl (refl, same_Some q r e)
last_byte n q r (c ∷ s) e = by_move (gap_move n q c) refl e (λ p k. last_byte n p r s k)
  where
    by_move : (o : Option GapState) → gap_move n q c ≡ o → and_then o (λ p. gap_state_after n p s) ≡ Some r → ((p : GapState) → gap_state_after n p s ≡ Some r → Last n p r s) → Last n q r (c ∷ s)
    by_move None m k f = absurd (none-some r k)
    by_move (Some p) m k f =
        elim (f p k) [
          | inl w ↦ inr ([], c, q, ap (λ (t : List ℕ). c ∷ t) w.0, refl, m ∙ ap Some w.1)
          | inr w ↦ inr (c ∷ w.0, w.1, w.2, ap (λ (t : List ℕ). c ∷ t) w.3, rw m w.4, w.5)
        ]

to_escape : (p : GapState) (c : ℕ) → gap_move true p c ≡ Some Escape → (p ≡ Open) × (c ≡ 92)
to_escape Open c h =
    elim (cases_Bool (is_blank c)) [
      | inl b ↦ let e : Some Open ≡ Some Escape = rw b at h in absurd cc
      | inr b ↦ elim (cases_Bool (eqb c 92)) [
        | inl e ↦ (refl, eqb-true c 92 e)
        | inr e ↦ elim (cases_Bool (eqb c 35)) [
          | inl f ↦ let k : Some Comment ≡ Some Escape = rw (b, e, f) at h in absurd cc
          | inr f ↦ elim (cases_Bool (eqb c 10)) [
            | inl g ↦ let k : Some Open ≡ Some Escape = rw (b, e, f, g) at h in absurd cc
            | inr g ↦ absurd (none-some Escape (rw (b, e, f, g) at h))
          ]
        ]
      ]
    ]
to_escape Escape c h =
    elim (cases_Bool (eqb c 10)) [
      | inl e ↦ let k : Some Open ≡ Some Escape = rw e at h in absurd cc
      | inr e ↦ elim (cases_Bool (eqb c 13)) [
        | inl f ↦ let k : Some EscapeReturn ≡ Some Escape = rw (e, f) at h in absurd cc
        | inr f ↦ absurd (none-some Escape (rw (e, f) at h))
      ]
    ]
to_escape EscapeReturn c h =
    elim (cases_Bool (eqb c 10)) [
      | inl e ↦ let k : Some Open ≡ Some Escape = rw e at h in absurd cc
      | inr e ↦ absurd (none-some Escape (rw e at h))
    ]
to_escape Comment c h =
    elim (cases_Bool (eqb c 10)) [
      | inl e ↦ let k : Some Open ≡ Some Escape = rw e at h in absurd cc
      | inr e ↦ let k : Some Comment ≡ Some Escape = rw e at h in absurd cc
    ]

to_return : (p : GapState) (c : ℕ) → gap_move true p c ≡ Some EscapeReturn → (p ≡ Escape) × (c ≡ 13)
to_return Open c h =
    elim (cases_Bool (is_blank c)) [
      | inl b ↦ let e : Some Open ≡ Some EscapeReturn = rw b at h in absurd cc
      | inr b ↦ elim (cases_Bool (eqb c 92)) [
        | inl e ↦ let k : Some Escape ≡ Some EscapeReturn = rw (b, e) at h in absurd cc
        | inr e ↦ elim (cases_Bool (eqb c 35)) [
          | inl f ↦ let k : Some Comment ≡ Some EscapeReturn = rw (b, e, f) at h in absurd cc
          | inr f ↦ elim (cases_Bool (eqb c 10)) [
            | inl g ↦ let k : Some Open ≡ Some EscapeReturn = rw (b, e, f, g) at h in absurd cc
            | inr g ↦ absurd (none-some EscapeReturn (rw (b, e, f, g) at h))
          ]
        ]
      ]
    ]
to_return Escape c h =
    elim (cases_Bool (eqb c 10)) [
      | inl e ↦ let k : Some Open ≡ Some EscapeReturn = rw e at h in absurd cc
      | inr e ↦ elim (cases_Bool (eqb c 13)) [
        | inl f ↦ (refl, eqb-true c 13 f)
        | inr f ↦ absurd (none-some EscapeReturn (rw (e, f) at h))
      ]
    ]
to_return EscapeReturn c h =
    elim (cases_Bool (eqb c 10)) [
      | inl e ↦ let k : Some Open ≡ Some EscapeReturn = rw e at h in absurd cc
      | inr e ↦ absurd (none-some EscapeReturn (rw e at h))
    ]
to_return Comment c h =
    elim (cases_Bool (eqb c 10)) [
      | inl e ↦ let k : Some Open ≡ Some EscapeReturn = rw e at h in absurd cc
      | inr e ↦ let k : Some Comment ≡ Some EscapeReturn = rw e at h in absurd cc
    ]

-- a gap before the backslash
abbrev Broken : List ℕ → List ℕ → Type 0
Broken tail s = (u : List ℕ) × (s ≡ u ++ tail) × (gap_state_after true Open u ≡ Some Open)

at_escape : (s : List ℕ) → gap_state_after true Open s ≡ Some Escape → Broken (92 ∷ []) s
at_escape s h = elim (last_byte true Open Escape s h) [
  | inl w ↦ let e : Open ≡ Escape = w.1 in absurd cc
  | inr w ↦
      let x = to_escape (w.2) (w.1) w.5 in
      (w.0, rw (← x.1) w.3, rw x.0 at w.4)
]

at_return : (s : List ℕ) → gap_state_after true Open s ≡ Some EscapeReturn → Broken (92 ∷ 13 ∷ []) s
at_return s h = elim (last_byte true Open EscapeReturn s h) [
  | inl w ↦ let e : Open ≡ EscapeReturn = w.1 in absurd cc
  | inr w ↦
      let x = to_return (w.2) (w.1) w.5 in
      let y = at_escape (w.0) (rw x.0 at w.4) in
      (y.0, w.3 ∙ ap (λ (c : ℕ). w.0 ++ (c ∷ [])) x.1 ∙ ap (λ (t : List ℕ). t ++ (13 ∷ [])) y.1 ∙ append_assoc (y.0) (92 ∷ []) (13 ∷ []), y.2)
]

no_backslash_token : (s : List ℕ) → NoToken (92 ∷ s)
no_backslash_token s k t r e h =
    let w = begins k t r h in
    let f : (w.0 ∷ w.1) ++ r ≡ 92 ∷ s = subst (λ (x : List ℕ). x ++ r ≡ 92 ∷ s) w.2 e in
    let same : w.0 ≡ 92 = cc in
    both_ways (is_solid 92) refl (subst (λ (x : ℕ). is_solid x ≡ true) same w.3)

no_backslash_string : (s : List ℕ) → OpensString (92 ∷ s) → ⊥
no_backslash_string s o = by_prefix o.marked
  where
    by_prefix : ((p : List ℕ) × (m : ℕ) × (back : List ℕ) × (92 ∷ s ≡ p ++ (m ∷ back)) × (is_prefix p ≡ true) × (is_quote m ≡ true)) → ⊥
    by_prefix ([], m, back, e, y, n) = let same : m ≡ 92 = cc in both_ways (is_quote 92) refl (rw same at n)
    by_prefix (c ∷ p, m, back, e, y, n) =
        let same : c ≡ 92 = cc in
        both_ways (is_prefix (92 ∷ p)) refl (subst (λ (x : ℕ). is_prefix (x ∷ p) ≡ true) same y)

no_backslash_gap : (c : ℕ) → c ≡ 92 → IsGap true true (c ∷ []) → ⊥
no_backslash_gap c same k =
    let w = gap_after true true (92 ∷ []) (subst (λ (x : ℕ). IsGap true true (x ∷ [])) same k) in
    let q : Escape ≡ w.0 = same_Some Escape (w.0) w.1 in
    both_ways (is_end true Escape) refl (rw (← q) at w.2)

escape_stops : (s : List ℕ) → Stops true Escape s → NothingBegins (92 ∷ s)
escape_stops s h = record { more = λ e. cc; no_token = no_backslash_token s; no_gap = only }
  where
    only : (g t : List ℕ) → g ++ t ≡ 92 ∷ s → IsGap true true g → g ≡ []
    only [] t e k = refl
    only (c ∷ []) t e k = let same : c ≡ 92 = cc in absurd (no_backslash_gap c same k)
    only (c ∷ d ∷ g) t e k =
        let same : c ≡ 92 = cc in
        let rest : d ∷ (g ++ t) ≡ s = cc in
        let w = gap_after true true (92 ∷ d ∷ g) (subst (λ (x : ℕ). IsGap true true (x ∷ d ∷ g)) same k) in
        let stuck : gap_move true Escape d ≡ None = subst (Stops true Escape) (sym rest) h in
        let none : None ≡ Some (w.0) = rw stuck at w.1 in
        absurd (none-some (w.0) none)

return_stops : (s : List ℕ) → Stops true EscapeReturn s → NothingBegins (92 ∷ 13 ∷ s)
return_stops s h = record { more = λ e. cc; no_token = no_backslash_token (13 ∷ s); no_gap = only }
  where
    only : (g t : List ℕ) → g ++ t ≡ 92 ∷ 13 ∷ s → IsGap true true g → g ≡ []
    only [] t e k = refl
    only (c ∷ []) t e k = let same : c ≡ 92 = cc in absurd (no_backslash_gap c same k)
    only (c ∷ d ∷ []) t e k =
        let same : c ≡ 92 = cc in
        let next : d ≡ 13 = cc in
        let w = gap_after true true (92 ∷ 13 ∷ []) (subst (λ (x : ℕ). IsGap true true (92 ∷ x ∷ [])) next (subst (λ (x : ℕ). IsGap true true (x ∷ d ∷ [])) same k)) in
        let q : EscapeReturn ≡ w.0 = same_Some EscapeReturn (w.0) w.1 in
        absurd (both_ways (is_end true EscapeReturn) refl (rw (← q) at w.2))
    only (c ∷ d ∷ b ∷ g) t e k =
        let same : c ≡ 92 = cc in
        let next : d ≡ 13 = cc in
        let rest : b ∷ (g ++ t) ≡ s = cc in
        let w = gap_after true true (92 ∷ 13 ∷ b ∷ g) (subst (λ (x : ℕ). IsGap true true (92 ∷ x ∷ b ∷ g)) next (subst (λ (x : ℕ). IsGap true true (x ∷ d ∷ b ∷ g)) same k)) in
        let stuck : gap_move true EscapeReturn b ≡ None = subst (Stops true EscapeReturn) (sym rest) h in
        let none : None ≡ Some (w.0) = rw stuck at w.1 in
        absurd (none-some (w.0) none)

abbrev stop_at : Reason → ℕ → Stop
stop_at reason at = record { reason = reason; at = at }

-- a stop after a gap u, where the text is that and v
stop_after : (s u v : List ℕ) (at : ℕ) → s ≡ u ++ v → at ≡ length u → gap_state_after true Open u ≡ Some Open → NothingBegins v → (OpensString v → ⊥) → IsLexemeStop (stop_at r.BadCharacter at) s
stop_after s u v at e n g h k =
    let front : take at s ≡ u = rw (n, e) (take-append_seam u v) in
    let back : drop at s ≡ v = rw (n, e) (drop-append_seam u v) in
    record {
      within = rw (n, e, length-append) (omega arith);
      gap = rw front (gap_from true false Open u g refl);
      stops = rw back (h, k);
    }

pub broken_stop : (gap : GapFront) (s : List ℕ) (at : ℕ) → gap.length ≤ length s → gap_state_after true Open (take gap.length s) ≡ Some gap.state → Stops true gap.state (drop gap.length s)
    → is_end true gap.state ≡ false → at ≡ gap.length - broken_off gap.state → IsLexemeStop (stop_at r.BadCharacter at) s
broken_stop gap s at w e h b i = by_state gap.state e h b i
  where
    whole : take gap.length s ++ drop gap.length s ≡ s
    whole = take-append-drop gap.length s

    taken : length (take gap.length s) ≡ gap.length
    taken = length-take-le gap.length s w

    by_state : (q : GapState) → gap_state_after true Open (take gap.length s) ≡ Some q → Stops true q (drop gap.length s) → is_end true q ≡ false → at ≡ gap.length - broken_off q → IsLexemeStop (stop_at r.BadCharacter at) s
    by_state Open e h b i = absurd (both_ways true b refl)
    by_state Comment e h b i = absurd (both_ways true b refl)
    by_state Escape e h b i =
        let x = at_escape (take gap.length s) e in
        let n : length (take gap.length s) ≡ length (x.0) + 1 = ap length x.1 ∙ length-append (x.0) (92 ∷ []) in
        stop_after s (x.0) (92 ∷ drop gap.length s) at (sym whole ∙ ap (λ (t : List ℕ). t ++ drop gap.length s) x.1 ∙ append_assoc (x.0) (92 ∷ []) (drop gap.length s))
        (omega (arith, i, n, taken)) x.2 (escape_stops (drop gap.length s) h) (no_backslash_string (drop gap.length s))
    by_state EscapeReturn e h b i =
        let x = at_return (take gap.length s) e in
        let n : length (take gap.length s) ≡ length (x.0) + 2 = ap length x.1 ∙ length-append (x.0) (92 ∷ 13 ∷ []) in
        stop_after s (x.0) (92 ∷ 13 ∷ drop gap.length s) at (sym whole ∙ ap (λ (t : List ℕ). t ++ drop gap.length s) x.1 ∙ append_assoc (x.0) (92 ∷ 13 ∷ []) (drop gap.length s))
        (omega (arith, i, n, taken)) x.2 (return_stops (drop gap.length s) h) (no_backslash_string (13 ∷ drop gap.length s))

-- ---- no token is after a gap

-- the gap before a byte with which none goes on
gap_of : (gap : GapFront) (s : List ℕ) (c : ℕ) → gap_state_after true Open (take gap.length s) ≡ Some gap.state → Stops true gap.state (drop gap.length s) → is_end true gap.state ≡ true → slice_get s gap.length ≡ Some c
    → (gap.state ≡ Open) × IsGap true false (take gap.length s)
gap_of gap s c e h b i =
    let o = open_true gap.state c (drop (suc gap.length) s) (subst (Stops true gap.state) (rest_some s gap.length c i) h) b in
    (o, gap_from true false gap.state (take gap.length s) e (rw o refl))

nothing_at : (s v : List ℕ) (n c : ℕ) → drop n s ≡ v → slice_get s n ≡ Some c → Stops true Open v → NoToken v → NothingBegins v
nothing_at s v n c e i h t = record {
  more = λ z. let f : c ∷ drop (suc n) s ≡ [] = sym (rest_some s n c i) ∙ e ∙ z in cc;
  no_token = t;
  no_gap = λ g r e k. no_gap_on v g r h e k;
}

pub token_stop : (gap : GapFront) (s rest : List ℕ) (c : ℕ) (reason : Reason) (stop : Stop) → gap.length ≤ length s → gap_state_after true Open (take gap.length s) ≡ Some gap.state → Stops true gap.state (drop gap.length s) → is_end true gap.state ≡ true
    → slice_get s gap.length ≡ Some c → stop ≡ stop_at reason gap.length → rest ≡ drop gap.length s → NoToken (drop gap.length s) → NoTokenFor reason rest → IsLexemeStop stop s
token_stop gap s rest c reason stop w e h b i z same t y =
    let g = gap_of gap s c e h b i in
    rw z (record { within = w; gap = g.1; stops = by_reason reason (subst (NoTokenFor reason) same y) })
  where
    by_reason : (reason : Reason) → NoTokenFor reason (drop gap.length s) → StopsFor reason (drop gap.length s)
    by_reason r.OpenString y = y
    by_reason r.BadCharacter y =
        let g = gap_of gap s c e h b i in
        let stops : Stops true Open (drop gap.length s) = subst (λ (q : GapState). Stops true q (drop gap.length s)) g.0 h in
        (nothing_at s (drop gap.length s) gap.length c refl i stops t, y)
    by_reason r.Indented y = absurd y
    by_reason r.Unexpected y = absurd y

-- ---- a token that is the prefix of an open string

pub prefix_stop : (gap : GapFront) (s : List ℕ) (c : ℕ) (front : Front) (stop : Stop) → gap.length ≤ length s → gap_state_after true Open (take gap.length s) ≡ Some gap.state → Stops true gap.state (drop gap.length s) → is_end true gap.state ≡ true
    → slice_get s gap.length ≡ Some c → front.gap ≡ gap.length → OpensString (drop front.gap s) → stop ≡ stop_at r.OpenString front.gap → IsLexemeStop stop s
prefix_stop gap s c front stop w e h b i a o z =
    let g = gap_of gap s c e h b i in
    rw z (record { within = rw a w; gap = rw a g.1; stops = o })

-- its text has no lexemes
pub prefix_refused : (gap : GapFront) (s : List ℕ) (c : ℕ) (front : Front) → gap.length ≤ length s → gap_state_after true Open (take gap.length s) ≡ Some gap.state → Stops true gap.state (drop gap.length s) → is_end true gap.state ≡ true
    → slice_get s gap.length ≡ Some c → front.gap ≡ gap.length → TokenAt front.class front.token (drop gap.length s) → OpensString (drop front.gap s) → NoLexemes s
prefix_refused gap s c front w e h b i a t o =
    let g = gap_of gap s c e h b i in
    let token : IsToken front.class (front_token front s) (after_front front s) = rw a t.1 in
    let x = opens_after_prefix front.class (front_token front s) (after_front front s) token (subst OpensString (sym (take-append-drop front.token (drop front.gap s))) o) in
    no_rest front s (rw a g.1) token (no_quote_gap (x.0) (x.1) x.3 x.4) x.5
  where
    no_quote_gap : (m : ℕ) (back : List ℕ) → after_front front s ≡ m ∷ back → is_quote m ≡ true → Stops true Open (after_front front s) × (after_front front s ≢ [])
    no_quote_gap m back is n = (rw is (quote_stops m n), λ z. let f : m ∷ back ≡ [] = sym is ∙ z in cc)
      where
        quote_stops : (m : ℕ) → is_quote m ≡ true → gap_move true Open m ≡ None
        quote_stops m n = elim (or_cases (eqb m 34) (eqb m 39) n) [ inl f ↦ rw (eqb-true m 34 f) refl | inr f ↦ rw (eqb-true m 39 f) refl ]

-- ---- whether a token is such a prefix

pub unmarked : (s t : List ℕ) (front : Front) (b : Bool) → TokenAt front.class front.token (drop front.gap s) → b ≡ false
    → ((b ≡ false) → (mark : ℕ) (back : List ℕ) → drop front.token t ≡ mark ∷ back → is_quote mark ≡ false) → t ≡ drop front.gap s → OpensString (drop front.gap s) → ⊥
unmarked s t front b token e f i o =
    let x = opens_after_prefix front.class (front_token front s) (after_front front s) token.1 (subst OpensString (sym (take-append-drop front.token (drop front.gap s))) o) in
    both_ways (is_quote (x.0)) (f e (x.0) (x.1) (ap (drop front.token) i ∙ x.3)) x.4

pub no_quote_past : (s : List ℕ) (n m : ℕ) (back : List ℕ) → slice_get s n ≡ None → drop n s ≡ m ∷ back → ⊥
no_quote_past s n m back e is = let f : m ∷ back ≡ [] = sym is ∙ rest_none s n e in cc

pub no_quote_there : (s : List ℕ) (n c m : ℕ) (back : List ℕ) → slice_get s n ≡ Some c → c ≢ 34 → nat_eq c 39 ≡ false → drop n s ≡ m ∷ back → is_quote m ≡ false
no_quote_there s n c m back e a b is =
    let f : m ∷ back ≡ c ∷ drop (suc n) s = sym is ∙ rest_some s n c e in
    let same : m ≡ c = cc in
    rw (same, ne_eqb c 34 a, b) refl

-- the token at the place of its gap's end
pub at_token : (s : List ℕ) (n : ℕ) (front : Front) → front.gap ≡ n → TokenAt front.class front.token (drop n s) → TokenAt front.class front.token (drop front.gap s)
at_token s n front e t = rw e t

pub unopened_front : (s : List ℕ) (n : ℕ) (b : Bool) → (OpensString (drop n s) → b ≡ true) → b ≡ false → OpensString (drop n s) → ⊥
unopened_front s n b f e o = both_ways b e (f o)

-- ---- the fault

-- what was lexed is in front of the rest
lexed_split : (text rest : List ℕ) → LexedTo text rest → (front : List ℕ) × (text ≡ front ++ rest)
lexed_split text _ no_token = ([], refl)
lexed_split text _ (token_more class gap token rest h g t o) =
    let w = lexed_split text (gap ++ (token ++ rest)) h in
    (w.0 ++ (gap ++ token), w.1 ∙ ap (λ (u : List ℕ). w.0 ++ u) (sym (append_assoc gap token rest)) ∙ sym (append_assoc (w.0) (gap ++ token) rest))

-- the fault of a stop
pub stop_placed : (text rest : List ℕ) (stop : Stop) (fault : ReadFault) (from : ℕ) → LexedTo text rest → length rest ≤ length text → IsLexemeStop stop rest
    → fault ≡ fault_of stop.reason (min (line_at text (min (from + stop.at) (length text))) 4294967295) (min (column_of text (min (from + stop.at) (length text))) 4294967295) → from ≡ length text - length rest → IsFaultAt (λ _. ⊥) text fault
stop_placed text rest stop fault from h le k f n =
    let back : List ℕ = drop stop.at rest in
    let b = k.within in
    let left : length back ≡ length rest - stop.at = length-drop stop.at rest in
    let split = lexed_split text rest h in
    let whole : text ≡ (split.0 ++ take stop.at rest) ++ back = split.1 ∙ ap (λ (t : List ℕ). split.0 ++ t) (sym (take-append-drop stop.at rest)) ∙ sym (append_assoc (split.0) (take stop.at rest) back) in
    let sizes : length text ≡ length (split.0 ++ take stop.at rest) + length back = ap length whole ∙ length-append (split.0 ++ take stop.at rest) back in
    let at : min (from + stop.at) (length text) ≡ length (split.0 ++ take stop.at rest) = omega arith in
    (split.0 ++ take stop.at rest, back, stop.reason, whole, by_reason stop.reason k.stops, rw at at f)
  where
    by_reason : (reason : Reason) → StopsFor reason (drop stop.at rest) → StopsAt (λ _. ⊥) text (drop stop.at rest) reason
    by_reason r.OpenString y = (take stop.at rest, subst (LexedTo text) (sym (take-append-drop stop.at rest)) h, k.gap, y)
    by_reason r.BadCharacter y = (take stop.at rest, subst (LexedTo text) (sym (take-append-drop stop.at rest)) h, k.gap, y)
    by_reason r.Indented y = absurd y
    by_reason r.Unexpected y = tt

pub stop_lexical : (stop : Stop) (s : List ℕ) (fault : ReadFault) (line column : ℕ) → IsLexemeStop stop s → fault ≡ fault_of stop.reason line column → is_lexical fault ≡ true
stop_lexical stop s fault line column h e = rw e (by_reason stop.reason h.stops)
  where
    by_reason : (reason : Reason) → StopsFor reason (drop stop.at s) → is_lexical (fault_of reason line column) ≡ true
    by_reason r.OpenString y = refl
    by_reason r.BadCharacter y = refl
    by_reason r.Indented y = absurd y
    by_reason r.Unexpected y = absurd y
