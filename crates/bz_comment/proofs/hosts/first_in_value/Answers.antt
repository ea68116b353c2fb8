use Rattle.bz_comment.proofs.Words.{◌∙◌, ◌≡◌, ap, Expr, find, flat_map, is_sought, items_at, items_in, List, operands_of, selects_of}
use Rattle.bz_comment.proofs.HostForms.{sought_here, sought_later, sought_nowhere}
use Rattle.bz_comment.proofs.Selects.{items_there}
use Rattle.bz_comment.specs.declared.hosts.Sought.{Sought}
use Rattle.bz_comment.proofs.hosts.first_in_value.Goals as goal

-- what is found among the operands is what is found in the lists
there : (sought : Sought) (value : Expr) (operands : List Expr) → operands ≡ operands_of value
    → find (is_sought sought) (flat_map (items_at (selects_of sought.host.now)) operands) ≡ find (is_sought sought) (items_in (selects_of sought.host.now) value)
there sought value operands are =
    ap (λ xs. find (is_sought sought) (flat_map (items_at (selects_of sought.host.now)) xs)) are ∙ ap (find (is_sought sought)) (items_there (selects_of sought.host.now) value)

pub returns-in-Some : goal.returns-in-Some
returns-in-Some c =
    let operands : List Expr = c.operands_of-x-items.result.now in
    sought_here (is_sought c.args.sought) (items_at (selects_of c.args.sought.host.now)) operands c.loop-x.x-index c.x-item.result _ c.loop-x.invariant c.loop-x-test.true c.x-item.is c.in-Some.ensures
    ∙ there c.args.sought c.args.value.now operands c.operands_of-x-items.ensures

pub returns : goal.returns
returns c =
    let operands : List Expr = c.operands_of-x-items.result.now in
    sought_nowhere (is_sought c.args.sought) (items_at (selects_of c.args.sought.host.now)) operands c.loop-x.x-index c.loop-x.invariant c.loop-x-test.false
    ∙ there c.args.sought c.args.value.now operands c.operands_of-x-items.ensures

pub loop-x-preserved : goal.loop-x-preserved
loop-x-preserved c =
    sought_later (is_sought c.args.sought) (items_at (selects_of c.args.sought.host.now)) c.operands_of-x-items.result.now c.loop-x.x-index c.x-item.result c.loop-x.invariant c.loop-x-test.true c.x-item.is
    c.in_default.ensures
