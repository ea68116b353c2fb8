use Rattle.bz_resume.proofs.Words.{◌∙◌, AllByRecursion, ap, edits_of, MayLead, notes_of, subst, sym}
use Rattle.bz_resume.proofs.{Loops.when_none, Loops.when_some, Opens.split_none, Opens.opens_none, Opens.opens, Opens.is_opened}
use Rattle.bz_resume.proofs.opening.open.Goals as goal

pub returns-in_default : goal.returns-in_default
returns-in_default c = split_none c.args.content
    (λ all. when_none _ _ c.in_ok-notes.field-0 c.in_default.is c.in_ok-notes.ensures (subst (λ l. AllByRecursion MayLead (edits_of l)) (sym c.into_vec.ensures) all))

pub returns-in_default-2 : goal.returns-in_default-2
returns-in_default-2 c =
    let cut = when_some _ _ c.in_ok-notes.field-0 (c.in-Some.notes, c.in-Some.steps) c.in-Some.is c.in_ok-notes.ensures in
    opens_none c.args.content c.as_slice-own.result.now c.in-Some.steps.items c.as_slice.result.now c.as_slice-hashes.result.now c.requires c.as_slice-own.ensures
    (cut.1 ∙ ap edits_of c.into_vec.ensures) c.as_slice.ensures.value c.as_slice-hashes.ensures (when_none _ _ c.in_ok-tree.field-0 c.in_default-2.is c.in_ok-tree.ensures)

pub returns : goal.returns
returns c =
    let r = c.args.content in
    let cut = when_some _ _ c.in_ok-notes.field-0 (c.in-Some.notes, c.in-Some.steps) c.in-Some.is c.in_ok-notes.ensures in
    let steps = cut.1 ∙ ap edits_of c.into_vec.ensures in
    let read = when_some _ _ c.in_ok-tree.field-0 c.in-Some-2.tree c.in-Some-2.is c.in_ok-tree.ensures in
    is_opened r c.in-Some-2.tree c.from_vec.result c.from_vec-2.result
    (opens r c.as_slice-own.result.now c.in-Some.steps.items c.as_slice.result.now c.as_slice-hashes.result.now c.requires c.as_slice-own.ensures steps
    c.as_slice.ensures.value c.as_slice-hashes.ensures c.in-Some-2.tree read.0 read.1) (c.from_vec.ensures ∙ steps) (c.from_vec-2.ensures ∙ cut.0 ∙ ap notes_of c.into_vec.ensures)
