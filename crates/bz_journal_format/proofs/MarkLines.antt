-- The reader of lines is exact, and where a line ends.
use Rattle.bz_journal_format.proofs.Words.{[], ◌++◌, ◌+◌, ◌<◌, ◌∙◌, ◌∷◌, ◌≡◌, ◌≢◌, ◌≤◌, ap, arith, Bool, cases_Bool, cond, drop, ended_line_at, eqb-true, false, get_or, inl, inr, IsExact, IsLine, length, line_feed, List, nat_eq, nat_lt, nat_tests, None, position, position_or_len, refl, Some, subst, suc, take, true, zero, ℕ}
use Rattle.std.proofs.{lemmas.List.Quantifiers.position-Some, lemmas.List.Sums.fails_before_first}
use Rattle.bz_journal_format.proofs.Chains.{bind_some, same_read}

abbrev pub ends_line : ℕ → Bool
ends_line b = nat_eq b line_feed

other_byte : (b : ℕ) → ends_line b ≡ false → b ≢ line_feed
other_byte b h = λ e. grind (arith, nat_tests)

goes_past : (b : ℕ) → b ≢ line_feed → ends_line b ≡ false
goes_past b h = grind (arith, nat_tests)

line_sound : (s line rest : List ℕ) → ended_line_at s ≡ Some (line, rest) → IsLine line × (s ≡ (line ++ line_feed ∷ []) ++ rest)
unfolding ended_line_at
line_sound [] line rest e = absurd cc
line_sound (b ∷ s) line rest e = elim (cases_Bool (ends_line b)) [
  | inl yes' ↦
      let g = same_read [] line s rest (rw yes' at e) in
      let here : b ≡ line_feed = eqb-true b line_feed yes' in
      let spelled : b ∷ s ≡ ([] ++ line_feed ∷ []) ++ rest = ap (λ k. k ∷ s) here ∙ ap (λ t. line_feed ∷ t) g.1 in
      subst (λ (l : List ℕ). IsLine l × (b ∷ s ≡ (l ++ line_feed ∷ []) ++ rest)) g.0 (tt, spelled)
  | inr no' ↦
      let c = bind_some (ended_line_at s) (λ x. Some (b ∷ x.0, x.1)) (line, rest) (rw no' at e) in
      let g = same_read (b ∷ c.0.0) line c.0.1 rest c.2 in
      let r = line_sound s c.0.0 c.0.1 c.1 in
      let spelled : b ∷ s ≡ ((b ∷ c.0.0) ++ line_feed ∷ []) ++ rest = ap (λ t. b ∷ t) (r.1 ∙ ap (λ t. (c.0.0 ++ line_feed ∷ []) ++ t) g.1) in
      subst (λ (l : List ℕ). IsLine l × (b ∷ s ≡ (l ++ line_feed ∷ []) ++ rest)) g.0 ((other_byte b no', r.0), spelled)
]

line_complete : (line rest : List ℕ) → IsLine line → ended_line_at ((line ++ line_feed ∷ []) ++ rest) ≡ Some (line, rest)
unfolding ended_line_at
line_complete [] rest h = refl
line_complete (b ∷ line) rest h =
    let past = goes_past b h.0 in
    let others = line_complete line rest h.1 in
    rw (past, others) refl

pub line_exact : IsExact (List ℕ) (λ line. line ++ line_feed ∷ []) IsLine ended_line_at
line_exact = record { sound = line_sound; complete = line_complete }

-- ---- where a line ends

ends_at : (s : List ℕ) (at : ℕ) → at < length s → ends_line (get_or s at 0) ≡ true → ((k : ℕ) → k < at → ends_line (get_or s k 0) ≡ false) → ended_line_at s ≡ Some (take at s, drop (suc at) s)
unfolding ended_line_at
ends_at [] at within here before = absurd (omega (arith, within))
ends_at (b ∷ s) zero within here before = rw here refl
ends_at (b ∷ s) (suc at) within here before =
    let first : ends_line b ≡ false = before 0 (omega arith) in
    let others = ends_at s at (omega (arith, within)) here (λ k h. before (suc k) (omega (arith, h))) in
    rw (first, others) refl

pub line_ends : (s : List ℕ) (at : ℕ) → position ends_line s ≡ Some at → ended_line_at s ≡ Some (take at s, drop (at + 1) s)
line_ends s at e =
    let p = position-Some ends_line s at 0 e in
    let next : at + 1 ≡ suc at = omega arith in
    rw next (ends_at s at p.0 p.1 p.2)

goes_on : (s : List ℕ) → ((k : ℕ) → k < length s → ends_line (get_or s k 0) ≡ false) → ended_line_at s ≡ None
unfolding ended_line_at
goes_on [] all = refl
goes_on (b ∷ s) all =
    let first : ends_line b ≡ false = all 0 (omega arith) in
    let others = goes_on s (λ k h. all (suc k) (omega (arith, h))) in
    rw (first, others) refl

-- a choice that gives nothing was of nothing
unchosen : (b : Bool) (n : ℕ) → cond b (Some n) None ≡ None → b ≡ false
unchosen true n e = cc
unchosen false n e = refl

not_below : (m n : ℕ) → nat_lt m n ≡ false → n ≤ m
not_below m n e = grind (arith, nat_tests)

pub no_line_ends : (s : List ℕ) → position ends_line s ≡ None → ended_line_at s ≡ None
no_line_ends s e =
    let far : length s ≤ position_or_len ends_line s = not_below _ _ (unchosen _ _ e) in
    goes_on s (λ k h. fails_before_first ends_line s k 0 (omega (arith, h, far)))
