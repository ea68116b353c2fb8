use Rattle.std.proofs.Common.{IfSome, subst}
use Rattle.bz_command_syntax.proofs.ProperCommands.{AreTexts, two_words_proper}
use Rattle.bz_command_syntax.proofs.table.substitute_load_of.Goals as goal

pub as_text-requires : goal.as_text-requires
as_text-requires c = (subst (λ o. IfSome o AreTexts) c.in_ok-pattern.ensures (two_words_proper c.args.words.items c.requires)).0
