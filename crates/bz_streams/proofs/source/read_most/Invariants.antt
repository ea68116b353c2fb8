use Rattle.bz_streams.proofs.Imported.{◌-◌, ◌≡◌, ◌≤◌, Consumes, vec_len}
use Rattle.bz_streams.proofs.source.read_most.Given as goal

abbrev pub invariant-loop-chunk : goal.invariant-loop-chunk
invariant-loop-chunk g l = record {
  read : Consumes (g.S.Source.remaining l.fn.source) (g.S.Source.remaining l.source) l.bytes.items;
  within : vec_len l.bytes ≤ l.most;
  steady : g.S.Source.faults l.source ≡ g.S.Source.faults l.fn.source;
  sound : g.S.Source.sound l.source ≡ g.S.Source.sound l.fn.source;
}

abbrev pub decreases-loop-chunk : goal.decreases-loop-chunk
decreases-loop-chunk g l = l.most - vec_len l.bytes
