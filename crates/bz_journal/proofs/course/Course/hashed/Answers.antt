use Rattle.bz_journal.proofs.Words.{[], ◌+◌, ◌-◌, ◌<◌, ◌∙◌, ◌≡◌, ap, arith, Bytes, length, List, map, Moves, refl, session_trail, SessionState, sha256, slice_index_or, spell_node, subst, sym, take_all, texts_of, Trail, trail_at}
use Rattle.bz_journal.proofs.Digested.{hash_next, same_texts}
use Rattle.bz_journal.proofs.course.Course.hashed.Goals as goal

pub loop-at-preserved : goal.loop-at-preserved
loop-at-preserved c =
    let old : Trail = trail_at c.loop-at.tree c.loop-at.steps c.loop-at.at in
    let new : Trail = trail_at c.go_forward.new.tree c.go_forward.new.steps (c.loop-at.at + 1) in
    let texts : List Bytes = texts_of (trail_at c.go_back.new.tree c.go_back.new.steps 0) in
    let moves : Moves old new = c.in_ok-go_forward.ensures.ok in
    let before = c.texts_kept.ensures old c.loop-at.invariant.trail in
    let after = c.texts_kept.ensures new moves.trail in
    let same : texts_of new ≡ texts = moves.texts ∙ c.loop-at.invariant.texts in
    record {
      trail = moves.trail;
      texts = same;
      counted = omega (arith, after.counted, before.counted, ap length moves.texts, c.loop-at.invariant.counted);
      digests =
          hash_next (c.loop-at.at + 1) c.loop-at.digests.items c.push.new.self.items texts (spell_node c.go_forward.new.tree) c.digest_of-in-loop-at.result
          c.loop-at.invariant.digests (subst (λ (ts : List Bytes). c.loop-at.at + 1 < length ts) same after.within)
          (ap (λ (ts : List Bytes). slice_index_or ts (c.loop-at.at + 1) []) (sym same) ∙ after.present) c.digest_of-in-loop-at.ensures c.in_ok-push.ensures.items;
    }

pub returns : goal.returns
returns c =
    let at = c.self.inside.cursor in
    let start : Trail = trail_at c.go_back.new.tree c.go_back.new.steps 0 in
    let copied = c.as_mut_slice-steps.ensures.value ∙ c.into_vec-steps.ensures ∙ c.in_ok-copy_steps.ensures ∙ c.as_slice.ensures.value in
    let texts =
    same_texts _ _ _ _ 0 (at - at) refl refl (omega arith) ∙ c.in_ok-go_back.ensures.ok.texts
    ∙ same_texts _ _ _ _ at at c.in_ok-tree.ensures copied refl ∙ ap (λ (s : SessionState). texts_of (session_trail s)) c.self.view_is in
    let now = c.texts_kept.ensures (trail_at c.loop-at.tree c.loop-at.steps c.loop-at.at) c.loop-at.invariant.trail in
    c.loop-at.invariant.digests
    ∙ ap (map sha256) (take_all (c.loop-at.at + 1) (texts_of start) (omega (arith, now.counted, ap length c.loop-at.invariant.texts, c.loop-at.invariant.counted, c.loop-at-test.false)) ∙ texts)
