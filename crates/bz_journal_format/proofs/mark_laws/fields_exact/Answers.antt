use Rattle.bz_journal_format.proofs.Formats.{field_exact}
use Rattle.bz_journal_format.proofs.mark_laws.fields_exact.Goals as goal

pub returns : goal.returns
returns c = field_exact
