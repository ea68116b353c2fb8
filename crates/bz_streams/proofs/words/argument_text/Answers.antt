use Rattle.bz_streams.proofs.Imported.{◌∙◌, first_value-rows, found_of}
use Rattle.bz_streams.proofs.words.argument_text.Goals as goal

pub returns : goal.returns
returns c = c.get_str.ensures ∙ first_value-rows (found_of c.args.matches.now) c.args.id.now
