use Rattle.bz_resume.proofs.Words.{◌++◌, ◌∙◌, ap, record_text, refl, sym, Two}
use Rattle.bz_resume.specs.{Saved.CanSave, Saved.IsSaved, Saved.saved_history, Saved.saved_trail, declared.saving.Saved.Saved}
use Rattle.bz_resume.proofs.Saves.{is_saved, record_made}
use Rattle.bz_resume.proofs.saving.save_into.Goals as goal

pub record_bytes-requires-clause-first : goal.record_bytes-requires-clause-first
record_bytes-requires-clause-first c = let r = c.args.saved.now.content in c.new.ensures Two r.digests.now r.notes.now r.steps.now

pub returns-clause-ok : goal.returns-clause-ok
returns-clause-ok c =
    let s = c.args.saved.now in
    c.in_ok-extend_from_slice.ensures.items ∙ ap (λ t. c.args.out.now.items ++ t) (c.as_slice.ensures.value ∙ c.in_ok-bytes.ensures.ok
    ∙ ap (record_text Two) (record_made (saved_history s) s.content.steps.now s.content.text.now s.content.digests.now (c.requires.text ∙ sym (c.texts_kept.ensures (saved_trail s) c.requires.trail).present) c.requires.digests))

journal : (s : Saved) → CanSave s → IsSaved s
journal s can = is_saved (saved_history s) s.content.steps.now s.tree.now can.trail refl can.noted can.fits

pub returns-in_err-bytes-clause-journal : goal.returns-in_err-bytes-clause-journal
returns-in_err-bytes-clause-journal c = journal c.args.saved.now c.requires

pub returns-in_err-extend_from_slice-clause-journal : goal.returns-in_err-extend_from_slice-clause-journal
returns-in_err-extend_from_slice-clause-journal c = journal c.args.saved.now c.requires

pub returns-clause-journal : goal.returns-clause-journal
returns-clause-journal c = journal c.args.saved.now c.requires
