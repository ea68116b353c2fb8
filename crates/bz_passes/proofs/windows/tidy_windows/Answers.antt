use Rattle.bz_passes.proofs.Words.{◌∙◌, ap, AreSetApart, AreTidied, Ok, subst, tidied_over}
use Rattle.bz_passes.proofs.{Cases.windows_tidied, Pieces.apart_tidied}
use Rattle.bz_passes.proofs.windows.tidy_windows.Goals as goal

pub returns-then-branch : goal.returns-then-branch
returns-then-branch c =
    let all = c.in_ok-tidy_single.ensures.done (ap Ok c.if-branch.true) in
    let given = windows_tidied c.args.windows.now c.tidy_single.new.windows c.args.file.now c.tidy_single.new.file c.requires.build all in
    record { within = all.within; tidied = λ before b t o. (given before b t o).0; over = λ before b t o. (given before b t o).1 }

pub returns : goal.returns
returns c =
    let left = c.in_ok-tidy_single.ensures.left (ap Ok c.if-branch.false) in
    let ws = c.tidy_single.new.windows in
    let vs = c.set_apart.new.windows in
    let mid = c.tidy_single.new.file in
    let new = c.tidy_in.new.file in
    let apart : AreTidied ws vs mid new =
    apart_tidied ws vs mid new (subst (AreSetApart ws vs) (c.as_slice.ensures ∙ c.file.view_is) c.in_ok-set_apart.ensures)
    (c.in_ok-tidy_in.ensures.made ∙ ap (λ ws. tidied_over ws mid) c.as_slice-2.ensures) in
    let all = left.goes new vs (subst (λ ws. AreTidied ws vs mid new) left.same apart) in
    let given = windows_tidied c.args.windows.now vs c.args.file.now new c.requires.build all in
    record { within = all.within; tidied = λ before b t o. (given before b t o).0; over = λ before b t o. (given before b t o).1 }
