-- What is noted of an attribute that was set.
use Rattle.bz_hint.proofs.Words.{◌≡◌, Bytes, List, refl}
use Rattle.bz_command_syntax.specs.declared.command.AttributeOperation.TheVariants as a
use Rattle.bz_command_syntax.specs.declared.command.Operation.{Operation}
use Rattle.bz_command_syntax.specs.declared.command.Operation.TheVariants as o
use Rattle.bz_hint.specs.Hints.{change_notes, setting_lines}

pub set_noted : (file attribute name : Bytes) (values words : List Bytes) (operation : Operation) → name ≡ attribute → words ≡ values
    → operation ≡ o.Attribute (a.Set attribute values) → setting_lines file name words ≡ change_notes file operation
set_noted file attribute name values words operation named given is = rw (named, given, is) refl

pub set_if_absent_noted : (file attribute name : Bytes) (values words : List Bytes) (operation : Operation) → name ≡ attribute → words ≡ values
    → operation ≡ o.Attribute (a.SetIfAbsent attribute values) → setting_lines file name words ≡ change_notes file operation
set_if_absent_noted file attribute name values words operation named given is = rw (named, given, is) refl
