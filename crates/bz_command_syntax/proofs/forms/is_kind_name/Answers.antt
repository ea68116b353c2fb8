use Rattle.bz_command_syntax.proofs.Imported.{◌==◌, full_stop, is_identifier, rules, tests}
use Rattle.std.proofs.{lemmas.Iterator.Search.all_from_yields_List, lemmas.Iterator.Splits.YieldsList-from_slice_split}
use Rattle.bz_command_syntax.proofs.forms.is_kind_name.Goals as goal

pub returns : goal.returns
returns c = all_from_yields_List is_identifier _ _ _ c.all.ensures.ran
    (YieldsList-from_slice_split _ (λ byte. byte == full_stop) c.args.text.now c.split.ensures.rest c.split.ensures.done c.split.ensures.closure (λ x b q k. search (rules, tests)))
    (λ x b q k. search (rules, tests))
