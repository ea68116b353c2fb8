use Rattle.bz_hosts.proofs.Words.{◌++◌, ◌+◌, ◌-◌, ◌∙◌, ◌≡◌, ap, arith, drop, drop-drop, length, length-drop, List, Part, take}
use Rattle.std.proofs.Math.Seq.{take-append_seam}
use Rattle.bz_hosts.proofs.moved.give_back.Goals as goal

-- what was walked over goes, but for the last of it
pub returns-clause-rest : goal.returns-clause-rest
returns-clause-rest c =
    let parts = c.args.parts.now.items in
    let gone = c.args.at - 1 in
    let ok = c.args.parts.now.ok.0 in
    let count = c.len-2.ensures in
    let kept : c.len-2.result - gone ≡ length (drop gone parts) = omega (arith, length-drop gone parts) in
    let next : gone + 1 ≡ c.args.at = omega arith in
    let left = c.shrink_to_fit.ensures.items ∙ (c.truncate.ensures.items ∙ (ap (λ (ps : List Part). take (c.len-2.result - gone) ps) c.rotate_left.ensures.items ∙
    (ap (λ n. take n (drop gone parts ++ take gone parts)) kept ∙ take-append_seam (drop gone parts) (take gone parts)))) in
    ap (drop 1) left ∙ (drop-drop 1 gone parts ∙ ap (λ n. drop n parts) next)
