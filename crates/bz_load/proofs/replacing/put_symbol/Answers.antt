use Rattle.bz_load.proofs.Words.{◌∙◌, after_path, ap, loads_symbol, position, refl, sym, true≢false}
use Rattle.std.proofs.lemmas.Result.{on_ok_weaker}
use Rattle.bz_load.proofs.ReplacedSymbols.{put_there}
use Rattle.bz_load.proofs.replacing.put_symbol.Goals as goal

pub returns-in-Some : goal.returns-in-Some
returns-in-Some c =
    let symbol = c.args.symbol.now in
    on_ok_weaker c.take_joined.result
    (λ is. put_there symbol c.args.gone.now c.args.items.now c.in-Some.at _ c.at_mut.result.now c.take_joined.new.x (λ none. true≢false (sym (c.is_empty.ensures.1 none) ∙ c.if-is_empty.false)) refl
    (sym c.in-Some.is ∙ (c.place_of.ensures ∙ ap (position (loads_symbol symbol)) (c.after_path.ensures ∙ ap after_path c.as_slice.ensures))) c.at_mut.ensures.value is)
    c.take_joined.ensures
