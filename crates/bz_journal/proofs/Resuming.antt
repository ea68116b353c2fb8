-- What is saved of a session, and what is resumed of a journal.
use Rattle.bz_journal.proofs.Words.{[], ◌∙◌, ◌≡◌, ◌≤◌, ap, AreSmall, arith, Bytes, Edit, Err, GoesOn, History, HoldsState, IfErr, IfOk, is_saved, IsKept, IsKnownSession, IsResumedSession, IsSession, IsSmall, IsUtf8, length, limit, List, map, MaySave, Node, Ok, OneReading, Reads, refl, Result, ResumeFault, ResumeFault as f, session_history, session_trail, SessionState, sha256, slice_index_or, SmallIsBetween, SmallIsLeast, spell_node, StandsFor, subst, sym, texts_of, Trail, trail_at, TrailsKeep, TrailsLead, ℕ}
use Rattle.bz_resume.specs.declared.resumed.Resumed.{Resumed}
use Rattle.bz_resume.specs.Resumed as r
use Rattle.bz_journal.proofs.Kept.{session_kept}

-- ---- states

pub same_state : (n : Node) (es fs : List (List Edit)) (ns ms : List Bytes) (p q : Bytes) (c b : ℕ) → es ≡ fs → ns ≡ ms → p ≡ q
    → (let s : SessionState = record { tree = n; steps = es; notes = ns; «package» = p; cursor = c; before = b } in s)
    ≡ (let s : SessionState = record { tree = n; steps = fs; notes = ms; «package» = q; cursor = c; before = b } in s)
same_state n es fs ns ms p q c b steps notes named = rw (steps, notes, named) refl

-- ---- saving

pub may_save : (s : SessionState) → IsSession s → MaySave (session_history s)
may_save s h = record {
  package_length = h.named;
  package_text = h.spelled;
  steps_length = omega (arith, h.noted, h.bounded);
  notes = h.notes;
  known = omega (arith, h.noted, h.known);
}

-- the tree at the cursor is the one that its text reads as
pub saves_small : TrailsKeep → OneReading → (s : SessionState) → IsSession s → IsSmall (session_trail s) → AreSmall (session_history s) s.steps
saves_small keep one s h small n trail is =
    let other = keep (trail_at n s.steps s.cursor) trail in
    let own = keep (session_trail s) h.trail in
    let shown : spell_node n ≡ spell_node s.tree = sym other.present ∙ ap (λ (l : List Bytes). slice_index_or l s.cursor []) is ∙ own.present in
    let reads : Reads (spell_node s.tree) n = (trail.tree.0, shown, subst (λ (t : Bytes). length t ≤ limit) shown trail.tree.1) in
    let tree : n ≡ s.tree = one (spell_node s.tree) n s.tree reads (h.trail.tree.0, refl, h.trail.tree.1) in
    subst (λ (m : Node). IsSmall (trail_at m s.steps s.cursor)) (sym tree) small

-- what is known of a session
pub state_holds : OneReading → TrailsKeep → TrailsLead → SmallIsBetween → SmallIsLeast → (s : SessionState) → IsSession s → HoldsState s
state_holds one keep lead between least s h =
    let t : Trail = session_trail s in
    let k = keep t h.trail in
    let kept : IsKept (session_history s) = session_kept keep s h in
    record {
      own = h;
      build = h.trail.tree.0.build;
      kept = kept;
      text = sym k.present;
      steps = sym k.counted;
      holds = record { kept = ∣ kept ∣₁; lead = lead t h.trail; between = between t h.trail; least = least t };
      journal = is_saved (session_history s) s.steps s.tree h.trail refl h.noted (may_save s h);
      small = saves_small keep one s h;
    }

-- ---- resuming

abbrev pub state_of : Resumed → Bytes → SessionState
state_of s current = record { tree = s.tree; steps = s.steps; notes = s.notes; «package» = current; cursor = s.cursor; before = s.cursor }

pub lasts : TrailsKeep → (bytes text current : Bytes) (s : Resumed) → r.IsResumed bytes text s → current ≡ s.«package» → IsSession (state_of s current)
lasts keep bytes text current s (h, es, journal, stood) is =
    let own = keep (r.trail_of s) stood.trail in
    let n : Node = journal.follows.0 in
    let first = keep (trail_at n es h.cursor) journal.follows.1 in
    let saves = stood.saves in
    let noted : length s.notes ≡ length s.steps =
    omega (arith, ap length stood.notes, journal.noted, first.counted, ap length journal.follows.2, ap length stood.texts, own.counted) in
    record {
      trail = stood.trail;
      named = subst (λ (p : Bytes). length p ≤ 65536) (sym is) saves.package_length;
      spelled = subst IsUtf8 (sym is) saves.package_text;
      noted = noted;
      notes = saves.notes;
      known = omega (arith, noted, saves.known);
      bounded = omega (arith, noted, saves.steps_length);
    }

-- the digests that were resumed are those of the texts
pub knows : (bytes text : Bytes) (s : Resumed) → r.IsResumed bytes text s → s.digests ≡ map sha256 (texts_of (r.trail_of s))
knows bytes text s (h, es, journal, stood) = stood.digests ∙ ap (map sha256) (sym stood.texts)

pub resumed_made : (bytes text : Bytes) (s : Resumed) (result : Result SessionState ResumeFault) → r.IsResumed bytes text s
    → IfOk result (λ t. (h : History) (es : List (List Edit)) (text : Bytes) → StandsFor h es text s → GoesOn h es text t) → IfOk result (IsResumedSession bytes text)
resumed_made bytes text s (Ok t) (h, es, journal, stood) made = (h, es, journal, made h es text stood)
resumed_made bytes text s (Err fault) resumed made = tt

pub known_made : (h : History) (es : List (List Edit)) (text : Bytes) (s : Resumed) (result : Result SessionState ResumeFault) → StandsFor h es text s
    → IfOk result (λ t. (h : History) (es : List (List Edit)) (text : Bytes) → StandsFor h es text s → GoesOn h es text t) → IfErr result (λ fault. fault ≡ f.Memory)
    → IsKnownSession h es text result
known_made h es text s (Ok t) stood made memory = made h es text stood
known_made h es text s (Err fault) stood made memory = subst (λ (x : ResumeFault). IsKnownSession h es text (Err x)) (sym memory) tt
