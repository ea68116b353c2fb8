use Rattle.bz_load.proofs.Words.{◌∙◌, after_loads, ap, AreOver, IsLoadedAlone, IsUnknown, Item, List, subst, sym, true≢false}
use Rattle.bz_load.proofs.{ReplacedAgain.symbol_stays, ReplacedSymbols.new_alone, ReplacedSymbols.unloaded}
use Rattle.bz_load.proofs.replacing.replace_symbol.Goals as goal

pub returns-then-is_unknown-clause-items : goal.returns-then-is_unknown-clause-items
returns-then-is_unknown-clause-items c =
    let path = c.args.path.now in
    let symbol = c.args.symbol.now in
    let unknown = subst (λ (xs : List Item). IsUnknown path symbol xs) c.as_slice.ensures (c.is_unknown.ensures c.if-is_unknown.true) in
    c.in_ok-made.ensures.items ∙ (ap (λ (load : Item). after_loads load c.args.items) c.in_ok-load.ensures ∙ new_alone path symbol c.args.items unknown)

pub returns-then-is_unknown-clause-settled : goal.returns-then-is_unknown-clause-settled
returns-then-is_unknown-clause-settled c = λ alone.
    let path = c.args.path.now in
    let symbol = c.args.symbol.now in
    absurd (true≢false (sym alone.0 ∙ unloaded path symbol c.args.items (subst (λ (xs : List Item). IsUnknown path symbol xs) c.as_slice.ensures (c.is_unknown.ensures c.if-is_unknown.true))))

pub returns-then-is_loaded_alone-clause-items : goal.returns-then-is_loaded_alone-clause-items
returns-then-is_loaded_alone-clause-items c =
    let path = c.args.path.now in
    let symbol = c.args.symbol.now in
    sym (symbol_stays path symbol c.args.items (subst (λ (xs : List Item). IsLoadedAlone path xs symbol) c.as_slice-2.ensures (c.is_loaded_alone.ensures.0 c.if-is_loaded_alone.true)))

pub returns-clause-items : goal.returns-clause-items
returns-clause-items c = c.in_ok-made-2.ensures.items ∙ c.in_ok-around.ensures.replaced

pub returns-clause-windows : goal.returns-clause-windows
returns-clause-windows c = subst (λ (xs : List Item). AreOver c.in_ok-made-2.made.windows xs c.in_ok-made-2.made.items) c.in_ok-around.ensures.whole c.in_ok-made-2.ensures.windows

pub returns-clause-settled : goal.returns-clause-settled
returns-clause-settled c = λ alone.
    absurd (true≢false (sym (c.is_loaded_alone.ensures.1 (subst (λ (xs : List Item). IsLoadedAlone c.args.path.now xs c.args.symbol.now) (sym c.as_slice-2.ensures) alone)) ∙ c.if-is_loaded_alone.false))
