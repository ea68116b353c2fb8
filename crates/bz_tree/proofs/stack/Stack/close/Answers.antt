use Rattle.bz_grammar.proofs.Newer.{closed_build}
use Rattle.bz_tree.proofs.stack.Stack.close.Goals as goal

pub invariant_of-self-2 : goal.invariant_of-self-2
invariant_of-self-2 c e =
    let older = c.may_be_newer-newer.ensures in
    rw (c.push_reserved.ensures.items, c.in_ok-take_tail.ensures.front, c.from_vec-parts.ensures, c.in_ok-take_tail.ensures.tail)
    (closed_build c.self.inside.parts.items c.args.from c.args.kind (older.kind e) (c.self.invariant (older.before e)))
