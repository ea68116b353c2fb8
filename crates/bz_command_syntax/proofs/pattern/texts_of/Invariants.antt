use Rattle.std.proofs.Common.{◌≡◌, ◌++◌, drop}
use Rattle.regex.specs.Names.{names_of}
use Rattle.bz_command_syntax.proofs.pattern.texts_of.Given as goal

-- the texts made so far, and those of the names that are left, are those of all names
abbrev pub invariant-loop-name : goal.invariant-loop-name
invariant-loop-name l = l.texts ++ names_of (drop l.name-index l.names) ≡ names_of l.names
