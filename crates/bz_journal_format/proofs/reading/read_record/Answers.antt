use Rattle.bz_journal_format.specs.declared.content.Version.TheVariants.{One, Two}
use Rattle.bz_journal_format.proofs.Finds.{found, no_record}
use Rattle.bz_journal_format.proofs.reading.read_record.Goals as goal

pub returns-in-Ok-clause-ok : goal.returns-in-Ok-clause-ok
returns-in-Ok-clause-ok c = found Two c.args.bytes.now c.in-Ok.read c.in-Ok.ensures

pub returns-in-Ok-read_in-clause-ok : goal.returns-in-Ok-read_in-clause-ok
returns-in-Ok-read_in-clause-ok c = found One c.args.bytes.now c.in-Ok-read_in.read c.in-Ok-read_in.ensures

pub returns-in-Err-Damaged-read_in-clause-damaged : goal.returns-in-Err-Damaged-read_in-clause-damaged
returns-in-Err-Damaged-read_in-clause-damaged c = λ _ r. no_record c.args.bytes.now (rw c.in-Err-Damaged-read_in.field-0-is at c.in-Err-Damaged-read_in.ensures) (rw c.in-Err-Damaged.field-0-is at c.in-Err-Damaged.ensures) r
