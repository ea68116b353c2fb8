use Rattle.std.proofs.Common.{◌∙◌, sym, true≢false}
use Rattle.bz_load.proofs.ReplacedSymbols.{not_loaded}
use Rattle.bz_load.proofs.replacing.is_loaded_alone.Goals as goal

pub returns-then-is_none : goal.returns-then-is_none
returns-then-is_none c = (
  λ answered. absurd (true≢false (sym answered)),
  λ alone. absurd (true≢false (sym alone.0 ∙ not_loaded c.args.path.now c.args.symbol.now c.args.items.now c.place_of_load-place.result c.place_of_load-place.ensures c.if-is_none.ensures)),
)
