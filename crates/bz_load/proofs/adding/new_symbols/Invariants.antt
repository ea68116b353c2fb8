use Rattle.bz_load.proofs.Words.{◌++◌, ◌≡◌, drop, is_loaded, knows, map, new_symbols, symbol_made}
use Rattle.bz_load.proofs.adding.new_symbols.Given as goal

abbrev pub invariant-loop-symbol : goal.invariant-loop-symbol
invariant-loop-symbol l = l.made.items ++ map symbol_made (new_symbols (knows l.known.keys) (drop l.symbol-index l.symbols)) ≡ map symbol_made (new_symbols (is_loaded l.path l.items) l.symbols)
