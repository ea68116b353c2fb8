-- The commands that print.
use Rattle.std.specs.Prelude.{Bool, true, false}
use Rattle.bz_command_syntax.specs.declared.command.Operation.{Operation}
use Rattle.bz_command_syntax.specs.declared.command.Operation.TheVariants as w
use Rattle.bz_command_syntax.specs.declared.command.CommentOperation.TheVariants as wc

-- They print, and leave the file as it is.
abbrev pub prints : Operation → Bool
prints (w.Rule operation) = false
prints (w.Attribute operation) = false
prints (w.Value operation) = false
prints (w.Dict operation) = false
prints (w.Load operation) = false
prints (w.Comment (wc.Add host text)) = false
prints (w.Comment (wc.Print host)) = true
prints (w.Comment (wc.Remove host)) = false
prints (w.Print fields) = true
