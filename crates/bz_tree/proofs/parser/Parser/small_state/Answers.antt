use Rattle.std.proofs.Common.{sym, ◌∙◌}
use Rattle.bz_tree.proofs.Listed.{small_load, small_return, small_flow, small_expression}
use Rattle.bz_tree.proofs.parser.Parser.small_state.Goals as goal

pub returns-then-next_is : goal.returns-then-next_is
returns-then-next_is c d = small_load d _ (sym c.next_is.ensures ∙ c.if-next_is.true)

pub returns-then-next_is-2 : goal.returns-then-next_is-2
returns-then-next_is-2 c d = small_return d _ (sym c.next_is.ensures ∙ c.if-next_is.false) (sym c.next_is-2.ensures ∙ c.if-next_is-2.true)

pub returns-then-next_is-3 : goal.returns-then-next_is-3
returns-then-next_is-3 c d = small_flow d _ (sym c.next_is.ensures ∙ c.if-next_is.false) (sym c.next_is-2.ensures ∙ c.if-next_is-2.false) (sym c.next_is-3.ensures ∙ c.if-next_is-3.true)

pub returns : goal.returns
returns c d = small_expression d _ (sym c.next_is.ensures ∙ c.if-next_is.false) (sym c.next_is-2.ensures ∙ c.if-next_is-2.false) (sym c.next_is-3.ensures ∙ c.if-next_is-3.false)
