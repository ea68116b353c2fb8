use Rattle.bz_streams.proofs.Imported.{is_newline, rules, tests}
use Rattle.std.proofs.{lemmas.Iterator.Consumers.nth_from_yields_List, lemmas.Iterator.Splits.YieldsList-from_slice_split}
use Rattle.bz_streams.proofs.excerpt.line_after.Goals as goal

pub returns : goal.returns
returns c = nth_from_yields_List c.nth.result c.nth.new.self c.args.count c.nth.ensures.ran
    (YieldsList-from_slice_split _ is_newline c.args.text.now c.split-lines.ensures.rest c.split-lines.ensures.done c.split-lines.ensures.closure
    (λ x b q k. search (rules, tests)))
