-- What the histories of sessions keep, and what a new text makes of a session.
use Rattle.bz_journal.proofs.Words.{[], ◌++◌, ◌+◌, ◌<◌, ◌∙◌, ◌∷◌, ◌≡◌, ◌≤◌, AllByRecursion, ap, AreFirstLines, AreKeptOf, arith, Bytes, Edit, IsKept, IsNote, IsSession, IsTrail, KeptLines, length, length-append, length-map, length-take-le, List, map, most_steps, Moves, Node, present, session_history, session_trail, SessionState, sha256, spell_node, subst, suc, sym, take, take-map, take_at, TakesUp, texts_of, trail_at, TrailsKeep, Two, zero, ℕ}
use Rattle.bz_journal_format.proofs.Beginnings.{lines_stay}

pub session_kept : TrailsKeep → (s : SessionState) → IsSession s → IsKept (session_history s)
session_kept keep s h =
    let k = keep (session_trail s) h.trail in
    record { accepted = k.accepted; noted = omega (arith, k.counted, h.noted); within = k.within; known = omega (arith, k.counted, h.known); bounded = omega (arith, k.counted, h.bounded) }

pub session_present : TrailsKeep → (s : SessionState) → IsSession s → spell_node s.tree ≡ present (session_history s)
session_present keep s h = let k = keep (session_trail s) h.trail in sym k.present

-- ---- nothing is done

pub as_before : (was s : SessionState) (tree : Node) (steps : List (List Edit)) (notes : List Bytes) → was ≡ s → tree ≡ was.tree → steps ≡ was.steps → notes ≡ was.notes
    → ◌≡◌ {A = SessionState} (record { tree = tree; steps = steps; notes = notes; «package» = was.«package»; cursor = was.cursor; before = was.before }) s
as_before was s tree steps notes is same_tree same_steps same_notes = rw (same_tree, same_steps, same_notes) is

-- ---- the cursor moves

-- what a slice of the steps wrote back
pub session_moved : TrailsKeep → (s : SessionState) (tree : Node) (steps rest : List (List Edit)) (len cursor : ℕ) → IsSession s → Moves (session_trail s) (trail_at tree steps cursor) → len ≡ length s.steps
    → IsSession (record { tree = tree; steps = take len (steps ++ rest); notes = s.notes; «package» = s.«package»; cursor = cursor; before = s.cursor })
session_moved keep s tree steps rest len cursor h m all =
    let old = keep (session_trail s) h.trail in
    let new = keep (trail_at tree steps cursor) m.trail in
    let count : length steps ≡ length s.steps = omega (arith, new.counted, old.counted, ap length m.texts) in
    let same : take len (steps ++ rest) ≡ steps = take_at steps rest len (count ∙ sym all) in
    let size : length (take len (steps ++ rest)) ≡ length s.steps = ap length same ∙ count in
    record {
      trail = subst (λ (l : List (List Edit)). IsTrail (trail_at tree l cursor)) (sym same) m.trail;
      named = h.named;
      spelled = h.spelled;
      noted = h.noted ∙ sym size;
      notes = h.notes;
      known = omega (arith, size, h.trail.within);
      bounded = omega (arith, size, h.bounded);
    }

-- ---- a new text

-- one more at the end of the first ones
all_put : {X : Type 0} (P : X → Type 0) (n : ℕ) (xs : List X) (x : X) → AllByRecursion P xs → P x → AllByRecursion P (take n xs ++ x ∷ [])
all_put P zero [] x h own = (own, tt)
all_put P zero (y ∷ ys) x h own = (own, tt)
all_put P (suc n) [] x h own = (own, tt)
all_put P (suc n) (y ∷ ys) x h own = (h.0, all_put P n ys x h.1 own)

pub extended : TrailsKeep → (s : SessionState) (next tree : Node) (steps : List (List Edit)) (notes : List Bytes) (note : Bytes) → IsSession s → s.cursor < most_steps → IsNote Two note
    → TakesUp (session_trail s) next (trail_at tree steps (s.cursor + 1)) → notes ≡ take s.cursor s.notes ++ note ∷ []
    → IsSession (record { tree = tree; steps = steps; notes = notes; «package» = s.«package»; cursor = s.cursor + 1; before = s.cursor })
extended keep s next tree steps notes note h room fits t put =
    let to = s.cursor + 1 in
    let texts = texts_of (session_trail s) in
    let old = keep (session_trail s) h.trail in
    let new = keep (trail_at tree steps to) t.trail in
    let cut : length (take to texts) ≡ to = length-take-le to texts (omega (arith, old.within)) in
    let size : length steps ≡ to = omega (arith, new.counted, ap length t.texts, length-append (take to texts) (spell_node next ∷ []), cut) in
    let kept : length (take s.cursor s.notes) ≡ s.cursor = length-take-le s.cursor s.notes (omega (arith, h.noted, h.trail.within)) in
    let noted : length notes ≡ to = ap length put ∙ length-append (take s.cursor s.notes) (note ∷ []) ∙ ap (λ k. k + 1) kept in
    record {
      trail = t.trail;
      named = h.named;
      spelled = h.spelled;
      noted = noted ∙ sym size;
      notes = subst (AllByRecursion (IsNote Two)) (sym put) (all_put (IsNote Two) s.cursor s.notes note h.notes fits);
      known = omega (arith, size);
      bounded = omega (arith, size, room);
    }

-- ---- the lines that are kept

-- those of equal lists
pub first_of_same : (ds es ns ms : List Bytes) (ss ts : List (List Edit)) (kept : KeptLines) → es ≡ ds → ms ≡ ns → ts ≡ ss → AreFirstLines Two ds ns ss kept → AreFirstLines Two es ms ts kept
first_of_same ds es ns ms ss ts kept digests notes steps first = rw (digests, notes, steps) first

-- those before a new text stay
pub kept_on : TrailsKeep → (s : SessionState) (next tree : Node) (steps : List (List Edit)) (notes : List Bytes) (note : Bytes) (kept : KeptLines) → IsSession s
    → TakesUp (session_trail s) next (trail_at tree steps (s.cursor + 1)) → notes ≡ take s.cursor s.notes ++ note ∷ [] → kept.steps ≤ s.cursor → kept.digests ≤ s.cursor + 1
    → AreKeptOf s kept → AreKeptOf (record { tree = tree; steps = steps; notes = notes; «package» = s.«package»; cursor = s.cursor + 1; before = s.cursor }) kept
kept_on keep s next tree steps notes note kept h t put few few_digests first =
    let to = s.cursor + 1 in
    let texts = texts_of (session_trail s) in
    let new = texts_of (trail_at tree steps to) in
    let old = keep (session_trail s) h.trail in
    let now = keep (trail_at tree steps to) t.trail in
    let cut : length (take to texts) ≡ to = length-take-le to texts (omega (arith, old.within)) in
    let size : length new ≡ to + 1 = ap length t.texts ∙ length-append (take to texts) (spell_node next ∷ []) ∙ ap (λ k. k + 1) cut in
    let own : length (take s.cursor s.notes) ≡ s.cursor = length-take-le s.cursor s.notes (omega (arith, h.noted, h.trail.within)) in
    let same : take to new ≡ take to texts = ap (take to) t.texts ∙ take_at (take to texts) (spell_node next ∷ []) to cut in
    lines_stay Two s.cursor (map sha256 texts) (map sha256 new) s.notes notes s.steps steps kept first few few_digests (omega (arith, length-map new sha256, size))
    (omega (arith, now.counted, size)) (take-map sha256 to new ∙ ap (map sha256) same ∙ sym (take-map sha256 to texts))
    (ap (take s.cursor) put ∙ take_at (take s.cursor s.notes) (note ∷ []) s.cursor own) t.steps
