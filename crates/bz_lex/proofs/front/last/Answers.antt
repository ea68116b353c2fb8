use Rattle.bz_lex.proofs.Fronts.{last_end, last_more, empty_list, no_empty_list}
use Rattle.bz_lex.proofs.front.last.Goals as goal

pub returns-then-is_empty : goal.returns-then-is_empty
returns-then-is_empty c = last_end _ _ (empty_list _ _ c.is_empty.ensures c.if-is_empty.true) c.new.ensures

pub returns-else-is_empty : goal.returns-else-is_empty
returns-else-is_empty c = last_more _ (no_empty_list _ _ c.is_empty.ensures c.if-is_empty.false)
