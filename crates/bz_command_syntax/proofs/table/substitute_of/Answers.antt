use Rattle.std.proofs.Common.{IfSome, subst}
use Rattle.bz_command_syntax.proofs.ProperCommands.{HasWords, words_proper}
use Rattle.bz_command_syntax.proofs.table.substitute_of.Goals as goal

pub as_text-requires : goal.as_text-requires
as_text-requires c = (subst (λ o. IfSome o HasWords) c.in_ok-attributes.ensures (words_proper c.args.words.items c.requires)).1
