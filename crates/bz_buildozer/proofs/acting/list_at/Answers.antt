use Rattle.bz_buildozer.proofs.Words.{[], ap, Err, Memory, opened_in, progress_in, refl, reported_of, sym}
use Rattle.bz_buildozer.proofs.{ActSteps.listed, ActSteps.unlisted, KeepSteps.wants_memory}
use Rattle.bz_buildozer.proofs.acting.list_at.Goals as goal

pub returns-in-Ok-put_printed-clause-answers : goal.returns-in-Ok-put_printed-clause-answers
returns-in-Ok-put_printed-clause-answers g c = λ folder step free none named. (
  [],
  listed c.args.journals step c.args.place (opened_in c.open_file.result.now) folder (progress_in c.args.run.now) _ _ c.in-Ok.text c.open_file.ensures free none
      c.in-Ok.ensures c.in-Ok-put_printed.ensures.ok refl,
  (refl, refl),
)

pub returns-in_default-clause-answers : goal.returns-in_default-clause-answers
returns-in_default-clause-answers g c = λ folder step free none named.
    let file = opened_in c.open_file.result.now in
    let before = progress_in c.args.run.now in (
      reported_of c.args.journals file.name c.args.command.now (Err Memory) [],
      unlisted c.refuse.result c.args.journals step c.args.place file folder before (progress_in c.refuse.new.run) before.printed c.args.command.now c.open_file.ensures free
          none named (wants_memory c.refuse.result c.refuse.ensures.kinds (λ whole. c.refuse.ensures.whole whole refl)) refl c.refuse.ensures.state,
      c.refuse.ensures.reported file c.open_file.ensures,
    )

pub returns-clause-answers : goal.returns-clause-answers
returns-clause-answers g c = λ folder step free none named.
    let file = opened_in c.open_file.result.now in
    let before = progress_in c.args.run.now in
    let refuse = c.refuse-in-Err in (
      reported_of c.args.journals file.name c.args.command.now (Err Memory) [],
      unlisted refuse.result c.args.journals step c.args.place file folder before (progress_in refuse.new.run) c.put_printed.new.printed.items c.args.command.now c.open_file.ensures free
          none named (wants_memory refuse.result refuse.ensures.kinds (λ whole. refuse.ensures.whole whole refl)) c.in-Err.ensures.err.0 refuse.ensures.state,
      refuse.ensures.reported file c.open_file.ensures,
    )
