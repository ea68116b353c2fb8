use Rattle.bz_command.proofs.Words.{◌%◌, ◌*◌, ◌+◌, ◌<◌, ◌≡◌, drop, fold, name_hash}
use Rattle.bz_command.proofs.hashes.name_hash.Given as goal

abbrev pub invariant-loop-byte : goal.invariant-loop-byte
invariant-loop-byte l = record {
  made : fold (λ hash byte. (hash * 257 + byte) % 4294967291) l.hash (drop l.byte-index l.name) ≡ name_hash l.name;
  within : l.hash < 4294967291;
}
