-- Why a text gives no command.
use Rattle.std.specs.Prelude.{◌≡◌, ◌⊎◌, Ok, Err}
use Rattle.bz_command_syntax.specs.Patterns.{IsRefusedPattern}
use Rattle.bz_items.specs.Characters.{Bytes}
use Rattle.bz_command_syntax.specs.Commands.{ReadCommand, command_of}
use Rattle.bz_command_syntax.specs.declared.command.Operation.TheVariants as w
use Rattle.bz_command_syntax.specs.declared.command.ValueOperation.TheVariants as wv
use Rattle.bz_command_syntax.specs.declared.command.LoadOperation.TheVariants as wl
use Rattle.bz_command_syntax.specs.declared.fault.CommandFault.{CommandFault}
use Rattle.bz_command_syntax.specs.declared.profile.Profile.TheVariants.{Own}
use Rattle.bz_command_syntax.specs.declared.fault.CommandFault.TheVariants.{BadPattern, Memory}

-- a substitution whose pattern `regex` refuses
abbrev pub HasBadPattern : ReadCommand → Type 0
HasBadPattern (Ok (w.Value (wv.Substitute attributes pattern template selects))) = IsRefusedPattern pattern
HasBadPattern (Ok (w.Load (wl.Substitute pattern template))) = IsRefusedPattern pattern
HasBadPattern _ = ⊥

-- memory aside: what was read, or a pattern that is refused where nothing else is wrong
abbrev pub IsReadFault : ReadCommand → CommandFault → Type 0
IsReadFault read fault = (read ≡ Err fault) ⊎ ((fault ≡ BadPattern) × HasBadPattern read)

abbrev pub IsCommandFault : Bytes → CommandFault → Type 0
IsCommandFault text fault = IsReadFault (command_of Own text) fault

-- what is read by this definition, unless its pattern is refused or memory is
abbrev pub IsReadAs : ReadCommand → ReadCommand → Type 0
IsReadAs read (Ok operation) = read ≡ Ok operation
IsReadAs read (Err fault) = IsReadFault read fault ⊎ (fault ≡ Memory)
