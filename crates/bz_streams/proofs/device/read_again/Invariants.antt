-- A read that was interrupted consumed nothing, and the room is as long as before.
use Rattle.bz_streams.proofs.Imported.{◌≡◌, Keeps, length}
use Rattle.bz_streams.proofs.device.read_again.Given as goal

abbrev pub invariant-loop : goal.invariant-loop
invariant-loop g l = (length l.into ≡ length l.fn.into) × Keeps (g.R.Read.remaining l.fn.reader) (g.R.Read.remaining l.reader)
