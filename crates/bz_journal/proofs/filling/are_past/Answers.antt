use Rattle.bz_journal.proofs.Words.{◌+◌, ◌||◌, arith, drop, drop_all, eqb-true, err_from_is_err_and, IfOk, inl, inr, IsProperItem, Item, item_made_by, items_made_by, meant, subst, sym}
use Rattle.bz_command.proofs.TargetMarks.{as_many}
use Rattle.bz_journal.proofs.GrownItems.{AreTried, all_tried, first_tried, next_tried}
use Rattle.bz_journal.proofs.filling.are_past.Goals as goal

pub loop-at-init : goal.loop-at-init
loop-at-init c =
    let work = c.args.work in
    first_tried (item_made_by work) (meant work.target.now.which work.lines.now c.args.items.now) c.args.items.now c.args.places.now c.requires.places (as_many work.target.now.which work.lines.now c.args.items.now) c.requires.build

pub offset_bounds-items-at : goal.offset_bounds-items-at
offset_bounds-items-at c =
    let there = (next_tried _ _ _ _ _ c.args.places.now c.loop-at.at-index c.loop-at-test.true c.loop-at.invariant).0 in
    omega (arith, there)

pub bounds-items-at : goal.bounds-items-at
bounds-items-at c = (next_tried _ _ _ _ _ c.args.places.now c.loop-at.at-index c.loop-at-test.true c.loop-at.invariant).0

pub try_on-requires : goal.try_on-requires
try_on-requires c =
    let next = next_tried _ _ _ _ _ c.args.places.now c.loop-at.at-index c.loop-at-test.true c.loop-at.invariant in
    subst (λ (x : Item). IfOk (item_made_by c.args.work x) IsProperItem) (sym c.index-items-at.is) (c.requires.proper _ c.index-items-at.result next.0)

pub returns-in_err-other-clause-err : goal.returns-in_err-other-clause-err
returns-in_err-other-clause-err c =
    let p = err_from_is_err_and c.from_residual.result c.from_residual.ensures.1 in
    let next = next_tried _ _ _ _ _ c.args.places.now c.loop-at.at-index c.loop-at-test.true c.loop-at.invariant in
    rw (p.1, p.2) (elim c.in_err-other.ensures.err [
      | inl is ↦ inl (next.1 c.index-items-at.result c.index-items-at.is _ is)
      | inr memory ↦ inr memory
    ])

pub loop-at-preserved : goal.loop-at-preserved
loop-at-preserved c =
    let next = next_tried _ _ _ _ _ c.args.places.now c.loop-at.at-index c.loop-at-test.true c.loop-at.invariant in
    subst (λ left. AreTried (item_made_by c.args.work) c.args.items.now (items_made_by c.args.work c.args.items.now) left (c.loop-at.differs || c.in_ok-other.other) (drop (c.loop-at.at-index + 1) c.args.places.now))
    (sym c.saturating_sub-left.ensures) (next.2 c.index-items-at.result c.index-items-at.is c.in_ok-other.size c.in_ok-other.other c.in_ok-other.ensures.ok)

pub returns-then-differs-clause-ok : goal.returns-then-differs-clause-ok
returns-then-differs-clause-ok c = λ past.
    all_tried _ _ _ _ _ (drop c.loop-at.at-index c.args.places.now) (drop_all c.loop-at.at-index c.args.places.now c.loop-at-test.false) c.loop-at.invariant c.if-differs.true (eqb-true c.loop-at.left 0 past)
