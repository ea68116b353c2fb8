use Rattle.bz_journal.proofs.Words.{◌-◌, Action, action_in, ap, arith, Do, HasActed, Redo, subst, sym, Undo}
use Rattle.bz_journal.proofs.{Acting.has_gone, AtOnce.acted_at_once}
use Rattle.bz_journal.proofs.doing.act.Goals as goal

pub returns-in-Some-clause-acted : goal.returns-in-Some-clause-acted
returns-in-Some-clause-acted c =
    acted_at_once (action_in c.args.action.now) c.args.note.now c.args.course.now c.cursor-cursor.result (c.steps.result - c.cursor-cursor.result) c.in-Some.answer
    c.present-before.ensures.within c.cursor-cursor.ensures
    (omega (arith, c.cursor-cursor.ensures, c.steps.ensures.steps, c.steps.ensures.texts, c.present-before.ensures.within))
    (omega (arith, c.cursor-cursor.ensures, c.steps.ensures.texts, c.present-before.ensures.within)) c.in-Some.ensures

pub returns-in-Some-answer-clause-acted : goal.returns-in-Some-answer-clause-acted
returns-in-Some-answer-clause-acted c =
    let made = c.in-Some-answer.ensures.made c.args.note.now in
    subst (λ (a : Action). HasActed a c.args.note.now c.args.course.now c.in-Some-answer.answer c.args.course.now) (sym (ap action_in c.in-Do.is))
    (has_gone (Do c.in-Do.command.now c.in-Do.target.now) c.args.note.now c.args.course.now c.in-Some-answer.answer c.args.course.now (λ is. is) c.present-before.ensures.within c.in_default.ensures.0
    made.makes made.unmoved (λ over. absurd over) made.small)

pub returns-in-Undo-clause-acted : goal.returns-in-Undo-clause-acted
returns-in-Undo-clause-acted c =
    subst (λ (a : Action). HasActed a c.args.note.now c.args.course.now c.undo.result c.undo.new.self) (sym (ap action_in c.in-Undo.is))
    (has_gone (Undo c.in-Undo.n) c.args.note.now c.args.course.now c.undo.result c.undo.new.self (λ is. is) c.present-before.ensures.within c.in_default.ensures.0 (c.undo.ensures.makes c.args.note.now)
    c.undo.ensures.unmoved (λ over. c.undo.ensures.even over.0 over.1) c.undo.ensures.small)

pub returns-in-Redo-clause-acted : goal.returns-in-Redo-clause-acted
returns-in-Redo-clause-acted c =
    subst (λ (a : Action). HasActed a c.args.note.now c.args.course.now c.redo.result c.redo.new.self) (sym (ap action_in c.in-Redo.is))
    (has_gone (Redo c.in-Redo.n) c.args.note.now c.args.course.now c.redo.result c.redo.new.self (λ is. is) c.present-before.ensures.within c.in_default.ensures.0 (c.redo.ensures.makes c.args.note.now)
    c.redo.ensures.unmoved (λ over. c.redo.ensures.even over.0 over.1) c.redo.ensures.small)
