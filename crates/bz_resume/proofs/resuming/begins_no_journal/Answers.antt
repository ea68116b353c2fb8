use Rattle.bz_resume.proofs.Words.{◌∙◌, ap, arith, bytes_eq-Decides, not, sym, take, true≢false}
use Rattle.bz_resume.proofs.JournalFronts.{begins_other}
use Rattle.bz_resume.proofs.resuming.begins_no_journal.Goals as goal

pub returns : goal.returns
returns c is =
    begins_other c.args.front.now (omega (arith, c.if-front-lt10.false)) (λ same. true≢false (sym is ∙ c.ne.ensures ∙ ap not ((bytes_eq-Decides (take 10 c.args.front.now) c.as_slice.result.now).1 (same ∙ sym c.as_slice.ensures))))
