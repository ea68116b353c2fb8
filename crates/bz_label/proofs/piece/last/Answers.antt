use Rattle.bz_label.proofs.Words.{◌-◌, ◌<◌, ◌∙◌, ◌≡◌, ap, arith, drop, false, get_or, is_slash, length, nat_tests, not, suffix_len, suffix_len_is, take_rest}
use Rattle.bz_label.proofs.piece.last.Goals as goal
use Rattle.bz_label.proofs.piece.last.Goals.{then-loop-start-test+else-text-start-ne47, else-loop-start-test}

pub returns : goal.returns
returns c =
    let before : 0 < c.loop-start.start → not (is_slash (get_or c.args.text.now (c.loop-start.start - 1) 0)) ≡ false =
    (λ some. elim c.loop-start-test.branch [ then-loop-start-test+else-text-start-ne47 w ↦ grind (arith, nat_tests) | else-loop-start-test w ↦ absurd (omega arith) ]) in
    let following : suffix_len (λ x. not (is_slash x)) c.args.text.now ≡ length c.args.text.now - c.loop-start.start =
    suffix_len_is (λ x. not (is_slash x)) c.args.text.now c.loop-start.start 0 c.loop-start.invariant.0 c.loop-start.invariant.1 before in
    let place : c.loop-start.start ≡ length c.args.text.now - suffix_len (λ x. not (is_slash x)) c.args.text.now = omega arith in
    take_rest c.args.text.now c.loop-start.start ∙ ap (λ n. drop n c.args.text.now) place
