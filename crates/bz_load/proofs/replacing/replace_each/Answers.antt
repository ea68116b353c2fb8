use Rattle.bz_load.proofs.Words.{◌∙◌, ◌∷◌, ◌≡◌, AllByRecursion, ap, AreOver, IsLoadedAlone, Item, last_of_each, List, replace_load, subst, sym, Symbol, Window}
use Rattle.bz_load.proofs.ReplacedSymbols.{one_replaced, settled_next}
use Rattle.bz_load.proofs.replacing.replace_each.Goals as goal

pub loop-symbol-preserved : goal.loop-symbol-preserved
loop-symbol-preserved c =
    let l = c.loop-symbol in
    let path = c.args.path.now in
    let first = c.args.items in
    let symbol : Symbol = c.in-Some.symbol.now in
    let rest : List Symbol = c.in-Some.rest.now in
    let split : l.left.now ≡ symbol ∷ rest = c.in-Some.ensures.cases.0 in
    let alone : Symbol → Type 0 = IsLoadedAlone path first in record {
      items =
          one_replaced path symbol rest c.is_named_again-later.result l.made.items c.in_ok-made.made.items c.is_named_again-later.ensures c.in_ok-made.ensures.items
          ∙ (ap (λ ss. replace_load path ss l.made.items) (sym split) ∙ l.invariant.items);
      windows = c.in_ok-made.ensures.windows first (sym c.len-count.ensures) l.invariant.windows;
      settled = λ all.
          let was = l.invariant.settled all in
          let next = settled_next alone symbol rest c.is_named_again-later.result c.is_named_again-later.ensures (subst (λ (ss : List Symbol). AllByRecursion alone (last_of_each ss)) split was.1) in
          let same : first ≡ l.made.items = subst (λ (ws : List Window). AreOver ws first l.made.items) was.0 l.invariant.windows in
          (c.in_ok-made.ensures.settled was.0 (λ last. subst (λ (xs : List Item). IsLoadedAlone path xs symbol) same (next.0 last)), next.1);
    }
