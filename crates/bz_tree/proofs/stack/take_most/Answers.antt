use Rattle.std.proofs.Common.{◌≡◌, ap, length, ◌∙◌, arith}
use Rattle.bz_tree.proofs.Turned.{turned_front, turned_tail}
use Rattle.bz_tree.proofs.stack.take_most.Goals as goal

pub returns-clause-front : goal.returns-clause-front
returns-clause-front c =
    let all : c.len-len.result ≡ length c.args.parts.now.items = omega (arith, c.len-len.ensures) in
    c.reserve.ensures.items ∙ ap (λ parts. parts.items) c.swap.ensures.x_after ∙ turned_front _ _ _ _ _ c.requires all c.rotate_left.ensures.items c.in_ok-tail.ensures.tail

pub returns-clause-tail : goal.returns-clause-tail
returns-clause-tail c =
    let all : c.len-len.result ≡ length c.args.parts.now.items = omega (arith, c.len-len.ensures) in
    c.shrink_to_fit.ensures.items ∙ ap (λ parts. parts.items) c.swap.ensures.y_after ∙ turned_tail _ _ _ _ _ c.requires all c.rotate_left.ensures.items c.in_ok-tail.ensures.items
