use Rattle.std.proofs.Common.{sym, ◌∙◌}
use Rattle.bz_tree.proofs.Listed.{suffix_dot, suffix_call, suffix_index}
use Rattle.bz_tree.proofs.parser.Parser.suffix_state.Goals as goal

pub returns-then-next_is : goal.returns-then-next_is
returns-then-next_is c d front = suffix_dot d front _ (sym c.next_is.ensures ∙ c.if-next_is.true)

pub returns-then-next_is-2 : goal.returns-then-next_is-2
returns-then-next_is-2 c d front = suffix_call d front _ (sym c.next_is.ensures ∙ c.if-next_is.false) (sym c.next_is-2.ensures ∙ c.if-next_is-2.true)

pub returns : goal.returns
returns c d front = suffix_index d front _ (sym c.next_is.ensures ∙ c.if-next_is.false) (sym c.next_is-2.ensures ∙ c.if-next_is-2.false)
