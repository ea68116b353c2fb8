use Rattle.bz_buildifier.proofs.Words.{begun, refl}
use Rattle.bz_buildifier.proofs.FormatWhole.{cut_run}
use Rattle.bz_buildifier.proofs.laws.cut_runs_are_begun.Goals as goal

pub returns : goal.returns
returns c = λ mode file_type names run folder after runs cut others.
    cut_run mode file_type names begun run folder folder after runs refl refl cut (λ name aside. refl) others
