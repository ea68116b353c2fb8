use Rattle.bz_load.proofs.Words.{◌||◌, ◌≡◌, Bytes, bytes_eq, drop, knows_name, list_any, local_name}
use Rattle.bz_load.proofs.paths.insert_locals.Given as goal

abbrev pub invariant-loop-x : goal.invariant-loop-x
invariant-loop-x l = (text : Bytes) → (list_any (λ x. bytes_eq text (local_name x)) (drop l.x-index l.symbols) || knows_name l.texts text) ≡ (list_any (λ x. bytes_eq text (local_name x)) l.symbols || knows_name l.fn.texts text)
