use Rattle.bz_edit.specs.Trails.{trail_at}
use Rattle.bz_resume.proofs.Stands.{stands_here, stands_there, stands_nowhere}
use Rattle.bz_resume.proofs.standing.stand.Goals as goal

pub returns-then-branch : goal.returns-then-branch
returns-then-branch c =
    stands_here (trail_at c.args.tree.now c.args.steps.now c.args.cursor) c.args.before c.args.text.now c.in_ok-spells.field-0 c.requires.trail c.in_ok-spells.ensures c.if-branch.true

pub returns-then-branch-2 : goal.returns-then-branch-2
returns-then-branch-2 c =
    stands_there (trail_at c.args.tree.now c.args.steps.now c.args.cursor) c.args.before c.args.text.now c.in_ok-spells.field-0 c.requires.trail c.in_ok-spells.ensures c.if-branch.false
    c.go_to.new.tree c.go_to.new.steps c.in_ok-go_to.ensures c.in_ok-spells-2.field-0 c.in_ok-spells-2.ensures c.if-branch-2.true

pub returns : goal.returns
returns c =
    stands_nowhere (trail_at c.args.tree.now c.args.steps.now c.args.cursor) c.args.before c.args.text.now c.in_ok-spells.field-0 c.requires.trail c.in_ok-spells.ensures c.if-branch.false
    c.go_to.new.tree c.go_to.new.steps c.in_ok-go_to.ensures c.in_ok-spells-2.field-0 c.in_ok-spells-2.ensures c.if-branch-2.false
