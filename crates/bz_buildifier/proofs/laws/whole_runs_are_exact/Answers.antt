use Rattle.bz_buildifier.proofs.Words.{begun, refl}
use Rattle.bz_buildifier.proofs.FormatWhole.{exact_run}
use Rattle.bz_buildifier.proofs.laws.whole_runs_are_exact.Goals as goal

pub returns : goal.returns
returns c = λ mode file_type names run folder after runs whole others.
    exact_run mode file_type names begun run folder folder after runs whole (λ name aside. refl) others
