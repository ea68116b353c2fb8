use Rattle.bz_journal.proofs.Words.{◌∙◌, ap, IsSession, length, refl, rules, SessionState, string_bytes, subst, sym, take_at, Two}
use Rattle.bz_journal.proofs.Kept.{as_before, session_moved}
use Rattle.bz_journal.proofs.course.Course.undo.Goals as goal

pub invariant_of-self : goal.invariant_of-self
invariant_of-self c =
    let was : SessionState = record { tree = c.self.inside.tree; steps = c.self.inside.steps.items; notes = c.self.inside.notes.items; «package» = string_bytes c.self.inside.«package»; cursor = c.self.inside.cursor; before = c.self.inside.before } in
    let err = c.in_err-go_back.ensures.err in
    let steps = take_at c.go_back.new.steps _ c.self.inside.steps.len (ap length err.1 ∙ c.as_mut_slice-steps.ensures.len) ∙ err.1 ∙ c.as_mut_slice-steps.ensures.value in
    (subst (λ (t : SessionState). IsSession t) (sym (as_before was was _ _ _ refl err.0 steps refl)) c.self.invariant.0, c.new.ensures Two _ _ _)

pub invariant_of-self-2 : goal.invariant_of-self-2
invariant_of-self-2 c =
    let was : SessionState = record { tree = c.self.inside.tree; steps = c.self.inside.steps.items; notes = c.self.inside.notes.items; «package» = string_bytes c.self.inside.«package»; cursor = c.self.inside.cursor; before = c.self.inside.before } in
    let all = sym c.as_mut_slice-steps.ensures.len ∙ ap length c.as_mut_slice-steps.ensures.value in
    (session_moved c.texts_kept.ensures was c.go_back.new.tree c.go_back.new.steps _ _ _ c.self.invariant.0 (search rules) all, c.new.ensures Two _ _ _)
