use Rattle.bz_journal.proofs.Words.{◌+◌, ◌-◌, ◌∙◌, ◌≡◌, ap, arith, drop, eq-eqb, eqb-true, false≢true, length, List, Part, subst, sym, take, ℕ}
use Rattle.bz_journal.proofs.PassedWindows.{all_passed, parts_differ, passed_next, stays_between}
use Rattle.bz_journal.proofs.staying.stay.Goals as goal
use Rattle.bz_journal.proofs.staying.stay.Goals.{else-new-old-via-then-new-old+else-not-has_there, else-new-old-via-else-new-old}

pub returns-then-not-has_there-2 : goal.returns-then-not-has_there-2
returns-then-not-has_there-2 c = (
  λ none. absurd (false≢true none),
  λ stays. absurd (parts_differ c.args.windows.now c.args.parts.now c.loop-window.window-index c.loop-window.old c.loop-window.new c.window-item.result c.loop-window-test.true c.window-item.is c.loop-window.invariant
      (λ same. false≢true (sym c.if-not-has_there-2.true
      ∙ c.has_there-in-loop-window.ensures.1 (subst (λ (xs : List Part). take (length xs) (drop (c.loop-window.new + c.window-item.result.from) c.args.parts.now) ≡ xs) (sym c.as_slice.ensures) same))) stays),
)

pub loop-window-preserved : goal.loop-window-preserved
loop-window-preserved c =
    let from = c.window-item.result.from in
    let between : take from (drop c.loop-window.new c.args.parts.now) ≡ take from (drop c.loop-window.old c.args.parts.now) = elim c.else-new-old.branch [
      | else-new-old-via-then-new-old+else-not-has_there w ↦
          stays_between c.args.windows.now c.args.parts.now c.loop-window.window-index c.loop-window.old c.loop-window.new c.window-item.result c.loop-window-test.true c.window-item.is c.loop-window.invariant
          (c.loop-window.old + from - c.loop-window.old) (omega arith) (w.has_there.ensures.0 w.if-not-has_there.false)
      | else-new-old-via-else-new-old w ↦ ap (λ (n : ℕ). take from (drop n c.args.parts.now)) w.if-new-old.false
    ] in
    rw c.len-new.ensures
    (passed_next c.args.windows.now c.args.parts.now c.loop-window.window-index c.loop-window.old c.loop-window.new c.window-item.result c.loop-window-test.true c.window-item.is c.loop-window.invariant
    between
    (subst (λ (xs : List Part). take (length xs) (drop (c.loop-window.new + from) c.args.parts.now) ≡ xs) c.as_slice.ensures (c.has_there-in-loop-window.ensures.0 c.if-not-has_there-2.false)))

pub returns : goal.returns
returns c =
    let all = all_passed c.args.windows.now c.args.parts.now c.loop-window.window-index c.loop-window.old c.loop-window.new c.loop-window-test.false c.loop-window.invariant in
    (λ same. all.0 (eqb-true c.loop-window.old c.loop-window.new same), λ stays. eq-eqb c.loop-window.old c.loop-window.new (all.1 stays))
