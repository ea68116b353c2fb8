use Rattle.bz_passes.proofs.Words.{[], ◌∙◌, ◌∷◌, ap, inl, inr, one_at, refl, set, sym, tidied_over}
use Rattle.bz_passes.proofs.Single.{single_done, single_left}
use Rattle.bz_passes.proofs.windows.tidy_single.Goals as goal

pub returns-in_default-place_of_single-clause-left : goal.returns-in_default-place_of_single-clause-left
returns-in_default-place_of_single-clause-left c = λ _.
    single_left c.args.windows.now c.in-Some.window.from c.in-Some.window.gone c.args.file.now c.tidy_in.new.file (sym c.as_slice.ensures ∙ c.in-Some.ensures.0) c.requires.within
    (c.in_ok-tidy_in.ensures.made ∙ ap (λ ws. tidied_over ws c.args.file.now) c.as_slice-2.ensures)

pub returns-then-window-ne0-clause-left : goal.returns-then-window-ne0-clause-left
returns-then-window-ne0-clause-left c = λ _.
    single_left c.args.windows.now c.in-Some.window.from c.in-Some.window.gone c.args.file.now c.tidy_in.new.file (sym c.as_slice.ensures ∙ c.in-Some.ensures.0) c.requires.within
    (c.in_ok-tidy_in.ensures.made ∙ ap (λ ws. tidied_over ws c.args.file.now) c.as_slice-2.ensures)

pub returns-then-to-window-clause-done : goal.returns-then-to-window-clause-done
returns-then-to-window-clause-done c = λ _.
    let window = c.in-Some.window in
    let own = sym c.as_slice.ensures ∙ c.in-Some.ensures.0 in
    single_done c.args.windows.now c.args.windows.now window.from window.gone c.in-Some-place_of_single.to c.args.file.now c.tidy_in.new.file c.tidy_in.new.file own c.requires.within
    (c.in_ok-tidy_in.ensures.made ∙ ap (λ ws. tidied_over ws c.args.file.now) c.as_slice-2.ensures) c.in-Some-place_of_single.ensures.0 c.in-Some-place_of_single.ensures.1
    (inl (c.if-to-window.true, refl)) (own ∙ ap (λ n. one_at n window.gone) (sym c.if-to-window.true))

pub returns-clause-done : goal.returns-clause-done
returns-clause-done c = λ _.
    let window = c.in-Some.window in
    let to = c.in-Some-place_of_single.to in
    let own = sym c.as_slice.ensures ∙ c.in-Some.ensures.0 in
    single_done c.args.windows.now _ window.from window.gone to c.args.file.now c.tidy_in.new.file c.move_back.new.file own c.requires.within
    (c.in_ok-tidy_in.ensures.made ∙ ap (λ ws. tidied_over ws c.args.file.now) c.as_slice-2.ensures) c.in-Some-place_of_single.ensures.0 c.in-Some-place_of_single.ensures.1
    (inr (c.if-window-ne0.false, c.in_ok-move_back.ensures))
    (ap (λ ws. set ws 0 (record { from = to; gone = window.gone; come = window.come })) own ∙ ap (λ n. record { from = to; gone = window.gone; come = n } ∷ []) c.in-Some.ensures.1)
