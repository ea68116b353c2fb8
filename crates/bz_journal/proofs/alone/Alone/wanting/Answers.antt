use Rattle.bz_journal.proofs.Words.{action_in, arith}
use Rattle.bz_journal.proofs.AtOnce.{acts_at_once}
use Rattle.bz_journal.proofs.alone.Alone.wanting.Goals as goal

pub returns-in-Some : goal.returns-in-Some
returns-in-Some c =
    acts_at_once (action_in c.args.action.now) c.args.note.now c.args.self.now c.cursor.result 0 c.in-Some.answer c.cursor.ensures.present
    (omega (arith, c.cursor.ensures.last)) c.in-Some.ensures
