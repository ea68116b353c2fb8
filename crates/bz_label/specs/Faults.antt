-- The numbers of the faults.
use Rattle.std.specs.Prelude.{ℕ}
use Rattle.bz_label.specs.declared.label.LabelFault.{LabelFault}
use Rattle.bz_label.specs.declared.label.LabelFault.TheVariants.{BadLabel, Memory}
use Rattle.bz_label.specs.declared.target.TargetFault.{TargetFault}
use Rattle.bz_label.specs.declared.target.TargetFault.TheVariants.{BadTarget, Memory as NoMemory}

abbrev pub label_fault_number : LabelFault → ℕ
label_fault_number BadLabel = 11
label_fault_number Memory = 8

abbrev pub target_fault_number : TargetFault → ℕ
target_fault_number BadTarget = 12
target_fault_number NoMemory = 8
