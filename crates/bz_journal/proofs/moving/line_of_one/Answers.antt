use Rattle.bz_journal.proofs.MovedLines.{line_of_one}
use Rattle.bz_journal.proofs.moving.line_of_one.Goals as goal

pub returns : goal.returns
returns c =
    line_of_one c.in-Node.line c.args.part.now c.as_slice-parts.result.now c.index-parts-0.result c.index-parts-1.result c.in-Node.is c.if-is_statement_kind.ensures c.if-not-has_statements.ensures c.as_slice-parts.ensures
    c.if-parts-ne2.false c.index-parts-0.is c.index-parts-1.is c.if-not-is_lone_statement.ensures c.if-is_node.ensures
