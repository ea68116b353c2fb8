use Rattle.std.specs.Prelude.{codes}
use Rattle.bz_journal_format.proofs.Versions.{no_mark, no_end, ends_there}
use Rattle.bz_journal_format.proofs.version.is_other_version.Goals as goal

pub returns-in_default : goal.returns-in_default
returns-in_default c = no_mark (codes "bzjournal ") c.args.input.now c.in_default.ensures

pub returns-in_default-split_line : goal.returns-in_default-split_line
returns-in_default-split_line c = no_end (codes "bzjournal ") c.args.input.now c.in-Some.line.now c.in-Some.ensures c.in_default-split_line.ensures

pub returns : goal.returns
returns c = ends_there (codes "bzjournal ") c.args.input.now c.in-Some.line.now c.in-Some.ensures c.in-Some-split_line.number.now c.in-Some-split_line.field-0-1.now c.is_other_number.result c.in-Some-split_line.ensures c.is_other_number.ensures
