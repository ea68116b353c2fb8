use Rattle.bz_load.proofs.Words.{[], ◌++◌, ◌+◌, ◌∙◌, ◌∷◌, ◌≡◌, ap, append_assoc, drop, drop_more, knows, List, Loaded, map, new_symbols, sym, Symbol, symbol_made, symbol_named}
use Rattle.bz_load.proofs.KnownSteps.{next_known, next_new}
use Rattle.bz_load.proofs.adding.new_symbols.Goals as goal
use Rattle.bz_load.proofs.adding.new_symbols.Goals.{then-branch+in_ok-push_symbol, else-branch}

pub loop-symbol-preserved : goal.loop-symbol-preserved
loop-symbol-preserved c =
    let old = c.loop-symbol.known.keys in
    let new = c.insert_key.new.known.keys in
    let symbol : Symbol = c.symbol-item.result in
    let rest : List Symbol = drop (c.loop-symbol.symbol-index + 1) c.args.symbols.now in
    let made = c.loop-symbol.made.items in
    let split = drop_more c.args.symbols.now c.loop-symbol.symbol-index symbol c.loop-symbol-test.true ∙ ap (λ first. first ∷ rest) (sym c.symbol-item.is) in
    let before = ap (λ xs. made ++ map symbol_made (new_symbols (knows old) xs)) (sym split) ∙ c.loop-symbol.invariant in
    let key : Loaded = record { to = c.as_slice-to.result; from = c.as_slice-from.result } in
    let same : symbol_named c.as_slice-to.result.now c.as_slice-from.result.now ≡ symbol =
    ap (λ to. symbol_named to c.as_slice-from.result.now) c.as_slice-to.ensures ∙ ap (symbol_named symbol.to) c.as_slice-from.ensures in
    elim c.if-branch.branch [
      | then-branch+in_ok-push_symbol w ↦
          let more : c.if-branch.made.items ≡ made ++ symbol_made symbol ∷ [] = ap (λ made. made.items) w.made-is ∙ w.in_ok-push_symbol.ensures in
          ap (λ xs. xs ++ map symbol_made (new_symbols (knows new) rest)) more
          ∙ (append_assoc made (symbol_made symbol ∷ []) (map symbol_made (new_symbols (knows new) rest))
          ∙ (ap (λ xs. made ++ map symbol_made xs) (next_new old new key symbol same c.in_ok-insert_key.ensures.known rest (sym w.if-branch.true ∙ c.in_ok-insert_key.ensures.new)) ∙ before))
      | else-branch w ↦
          ap (λ xs. xs.items ++ map symbol_made (new_symbols (knows new) rest)) w.made-is
          ∙ (ap (λ xs. made ++ map symbol_made xs) (next_known old new key symbol same c.in_ok-insert_key.ensures.known rest (sym w.if-branch.false ∙ c.in_ok-insert_key.ensures.new)) ∙ before)
    ]
