use Rattle.std.proofs.Common.{refl}
use Rattle.bz_journal_format.proofs.Beginnings.{none_first}
use Rattle.bz_journal_format.proofs.kept.KeptLines.new.Goals as goal

pub returns : goal.returns
returns c = λ v digests notes steps. none_first v digests notes steps _ refl c.new-digest_lines.ensures.items refl c.new-step_lines.ensures.items
