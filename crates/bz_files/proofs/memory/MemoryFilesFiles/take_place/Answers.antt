use Rattle.bz_files.proofs.Words.{⊎_elim, ◌∙◌, false≢true, plan_in, refl, rules, sym}
use Rattle.bz_files.proofs.{Logs.placed, Plans.goes_on}
use Rattle.bz_files.proofs.memory.MemoryFilesFiles.take_place.Goals as goal

pub returns-then-fails_now-clause-replaced : goal.returns-then-fails_now-clause-replaced
returns-then-fails_now-clause-replaced c = λ honest rest name bytes is.
    let step = placed c.args.self.now.log.items c.failed-then-fails_now.new.self.log.items c.args.self.now.waiting.items c.pop-newest.new.self.items
    c.in-Some.entry rest name bytes (search rules) c.in-Some.ensures.items is in
    record { time = step.0; done = tt }

pub returns-clause-replaced : goal.returns-clause-replaced
returns-clause-replaced c = λ honest rest name bytes is.
    let step = placed c.args.self.now.log.items c.push_reserved.new.self.items c.args.self.now.waiting.items c.pop-newest.new.self.items
    c.in-Some.entry rest name bytes (search rules) c.in-Some.ensures.items is in
    record { time = step.0; done = step.1 }

pub returns-clause-planned : goal.returns-clause-planned
returns-clause-planned c =
    goes_on (plan_in c.args.self.now) (plan_in c.goes_on.new.self) _ refl c.goes_on.ensures.next
    (⊎_elim (c.goes_on.ensures.goes c.if-not-goes_on.false) (λ after. false≢true (sym c.if-fails_now.false ∙ c.fails_now.ensures.1 after))) (λ _. tt)
