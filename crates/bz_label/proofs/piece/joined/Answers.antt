use Rattle.bz_label.proofs.Words.{is_present, is_slash, rules, tests}
use Rattle.std.proofs.{lemmas.Iterator.Search.all_from_yields_List, lemmas.Iterator.Splits.YieldsList-from_slice_split}
use Rattle.bz_label.proofs.Empty.{present_by_length}
use Rattle.bz_label.proofs.piece.joined.Goals as goal

pub returns : goal.returns
returns c = all_from_yields_List is_present _ _ _ c.all.ensures.ran
    (YieldsList-from_slice_split _ is_slash c.args.text.now c.split.ensures.rest c.split.ensures.done c.split.ensures.closure (λ x b q k. search (rules, tests)))
    (λ x b q k. search (rules, tests, present_by_length))
