use Rattle.std.proofs.lemmas.List.{append-nil}
use Rattle.bz_buildifier.proofs.formatting.report_no_word.Goals as goal

pub returns-in-Some : goal.returns-in-Some
returns-in-Some g c = rw (c.in-Some.is) c.report_pieces.ensures

pub returns-in-None : goal.returns-in-None
returns-in-None g c = rw (c.in-None.is) (rw (append-nil c.args.place.now) at c.report_pieces-in-None.ensures)
