use Rattle.bz_journal.proofs.Words.{[], ◌++◌, ◌+◌, ◌<◌, ◌∙◌, ◌∷◌, ◌≡◌, after_text, ap, AreKeptOf, Bytes, Changed, changed, EndsAt, false≢true, IsSession, List, map, most_steps, Node, Ok, present, refl, rules, session_history, session_trail, SessionState, sha256, spell_node, string_bytes, subst, sym, take, TakesUp, texts_of, trail_at, Two, with_windows}
use Rattle.bz_journal.proofs.{Acting.ends_changed, Kept.as_before, Kept.extended, Kept.kept_on, Kept.session_present}
use Rattle.bz_journal.proofs.course.Course.take_up.Goals as goal

pub take_up-requires-clause-other : goal.take_up-requires-clause-other
take_up-requires-clause-other c = λ same.
    let s : SessionState = c.args.self.now in
    let own : with_windows c.args.windows c.self.inside.tree ≡ with_windows c.args.windows s.tree =
    ap (λ (t : SessionState). with_windows c.args.windows t.tree) c.self.view_is in
    false≢true (sym c.if-is_present.false ∙ c.is_present.ensures.1 (ap (λ ws. spell_node (with_windows ws s.tree)) c.as_slice.ensures ∙ ap spell_node (sym own) ∙ same
    ∙ ap (λ (t : SessionState). spell_node t.tree) c.self.view_is ∙ session_present c.texts_kept.ensures s (subst (λ (t : SessionState). IsSession t) c.self.view_is c.self.invariant.0)))

pub invariant_of-self-2 : goal.invariant_of-self-2
invariant_of-self-2 c =
    let s : SessionState = record { tree = c.self.inside.tree; steps = c.self.inside.steps.items; notes = c.self.inside.notes.items; «package» = string_bytes c.self.inside.«package»; cursor = c.self.inside.cursor; before = c.self.inside.before } in
    let next : Node = with_windows c.args.windows c.self.inside.tree in
    let room : c.self.inside.cursor < most_steps = search rules in
    let notes : c.put_after.new.items.items ≡ take c.self.inside.cursor c.self.inside.notes.items ++ c.args.note.now ∷ [] =
    c.put_after.ensures ∙ ap (λ (l : List Bytes). take c.self.inside.cursor l ++ c.in_ok-note.note ∷ []) c.reserve.ensures.items
    ∙ ap (λ (d : Bytes). take c.self.inside.cursor c.self.inside.notes.items ++ d ∷ []) (c.in_ok-note.ensures ∙ c.as_bytes.ensures.value) in
    let takes : TakesUp (session_trail s) next (trail_at c.take_up.new.tree c.take_up.new.steps.items (c.self.inside.cursor + 1)) = c.in_ok-take_up.ensures.ok in
    let steps = c.take_up.new.steps.items in (
      extended c.texts_kept.ensures s next c.take_up.new.tree steps c.put_after.new.items.items c.args.note.now c.self.invariant.0 room (c.requires.short, search rules) takes notes,
      kept_on c.texts_kept.ensures s next c.take_up.new.tree steps c.put_after.new.items.items c.args.note.now c.drop_past.new.self c.self.invariant.0 takes notes c.drop_past.ensures.few.0 c.drop_past.ensures.few.1
          (c.drop_past.ensures.first Two (map sha256 (texts_of (session_trail s))) s.notes s.steps c.self.invariant.1),
    )

pub invariant_of-self : goal.invariant_of-self
invariant_of-self c =
    let was : SessionState = record { tree = c.self.inside.tree; steps = c.self.inside.steps.items; notes = c.self.inside.notes.items; «package» = string_bytes c.self.inside.«package»; cursor = c.self.inside.cursor; before = c.self.inside.before } in
    subst (λ (t : SessionState). IsSession t × AreKeptOf t c.self.inside.kept)
    (sym (as_before was was c.self.inside.tree c.self.inside.steps.items c.reserve.new.self.items refl refl refl c.reserve.ensures.items)) c.self.invariant

pub returns : goal.returns
returns c =
    let s : SessionState = record { tree = c.self.inside.tree; steps = c.self.inside.steps.items; notes = c.self.inside.notes.items; «package» = string_bytes c.self.inside.«package»; cursor = c.self.inside.cursor; before = c.self.inside.before } in
    let next : Node = with_windows c.args.windows c.self.inside.tree in
    let room : c.self.inside.cursor < most_steps = search rules in
    let notes : c.put_after.new.items.items ≡ take c.self.inside.cursor c.self.inside.notes.items ++ c.args.note.now ∷ [] =
    c.put_after.ensures ∙ ap (λ (l : List Bytes). take c.self.inside.cursor l ++ c.in_ok-note.note ∷ []) c.reserve.ensures.items
    ∙ ap (λ (d : Bytes). take c.self.inside.cursor c.self.inside.notes.items ++ d ∷ []) (c.in_ok-note.ensures ∙ c.as_bytes.ensures.value) in
    let takes : TakesUp (session_trail s) next (trail_at c.take_up.new.tree c.take_up.new.steps.items (c.self.inside.cursor + 1)) = c.in_ok-take_up.ensures.ok in
    let other : spell_node next ≡ present (session_history s) → ⊥ = λ same. false≢true (sym c.if-is_present.false ∙ c.is_present.ensures.1
    (ap (λ ws. spell_node (with_windows ws c.args.self.now.tree)) c.as_slice.ensures ∙ ap (λ (t : SessionState). spell_node (with_windows c.args.windows t.tree)) (sym c.self.view_is) ∙ same
    ∙ ap (λ (t : SessionState). present (session_history t)) c.self.view_is)) in
    let t : SessionState = record { tree = c.take_up.new.tree; steps = c.take_up.new.steps.items; notes = c.put_after.new.items.items; «package» = string_bytes c.self.inside.«package»; cursor = c.self.inside.cursor + 1; before = c.self.inside.cursor } in
    let new : session_history t ≡ changed c.args.note.now (session_history s) (spell_node next) = rw (takes.texts, notes) refl in
    subst (λ (u : SessionState). EndsAt (after_text c.args.note.now (session_history u) (spell_node (with_windows c.args.windows u.tree)) c.args.printed) u (Ok Changed) t) c.self.view_is
    (ends_changed c.args.note.now s t (spell_node next) c.args.printed other room new takes.small)
