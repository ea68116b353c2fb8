use Rattle.bz_journal.proofs.Words.{◌≤◌, action_in, ap, length, note_limit, rules, string_bytes}
use Rattle.bz_journal.proofs.InForm.{last_acts, made_as}
use Rattle.bz_journal.proofs.past.Past.act_noted.Goals as goal

pub returns-clause-acts : goal.returns-clause-acts
returns-clause-acts c =
    let short : length c.args.note.now ≤ note_limit = search rules in
    last_acts c.in-Do.command.now c.in-Do.target.now (action_in c.args.action.now) c.args.note.now (string_bytes c.in_ok-note.note) c.args.self.now c.in-Course.course c.act_last.result c.act_last.new.self
    (made_as c.args.self.now _ _ _ c.make_course.ensures c.self.view_is c.in-Course.is) (ap action_in c.in-Do.is) c.in_ok-note.ensures.ok short c.act_last.ensures.makes

pub invariant_of-self-3 : goal.invariant_of-self-3
invariant_of-self-3 c =
    let own = rw c.in-Course.is at c.self.invariant in
    (c.settle.ensures.seen, c.settle.ensures.digests c.in-Course.course (action_in c.args.action.now) c.args.note.now c.act-answer.ensures.acted own.1, tt)
