use Rattle.bz_label.proofs.Words.{◌++◌, ◌+◌, ◌==◌, ◌∙◌, ◌∷◌, ◌≡◌, arith, drop, false, get_or, list_any, nat_tests, None, position, Some, sym, take, take_rest, true}
use Rattle.bz_label.proofs.Cuts.{none_passes, cut_at}
use Rattle.bz_label.proofs.piece.cut.Goals as goal

pub returns-in_err-at : goal.returns-in_err-at
returns-in_err-at c =
    let nothing : position (λ b. b == c.args.byte) c.args.text.now ≡ None = sym c.place.ensures ∙ c.in_err-at.was in
    rw c.from_residual.ensures (none_passes (λ b. b == c.args.byte) c.args.text.now nothing)

pub returns : goal.returns
returns c =
    let something : position (λ b. b == c.args.byte) c.args.text.now ≡ Some c.in_ok-at.at = sym c.place.ensures ∙ c.in_ok-at.was in
    let found : (c.args.text.now ≡ take c.in_ok-at.at c.args.text.now ++ get_or c.args.text.now c.in_ok-at.at 0 ∷ drop (c.in_ok-at.at + 1) c.args.text.now)
    × (list_any (λ b. b == c.args.byte) (take c.in_ok-at.at c.args.text.now) ≡ false) × ((get_or c.args.text.now c.in_ok-at.at 0 == c.args.byte) ≡ true)
    = cut_at (λ b. b == c.args.byte) c.args.text.now c.in_ok-at.at something in
    let here : get_or c.args.text.now c.in_ok-at.at 0 ≡ c.args.byte = grind (arith, nat_tests) in
    (rw (take_rest, ← here) found.0, found.1)
