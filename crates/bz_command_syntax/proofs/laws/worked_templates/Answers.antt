use Rattle.bz_command_syntax.proofs.Imported.{chars, encode, group_called, has_escaped_digit, is_utf8, missing_after, name_at, number_in, refl}
use Rattle.bz_command_syntax.proofs.laws.worked_templates.Goals as goal

pub returns : goal.returns
unfolding missing_after has_escaped_digit name_at group_called number_in is_utf8 chars encode
returns c = (refl, refl, refl, refl, refl, refl, refl, refl, refl)
