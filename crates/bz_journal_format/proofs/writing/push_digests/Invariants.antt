use Rattle.bz_journal_format.proofs.Words.{◌≡◌, digest_text, flat_map, take}
use Rattle.bz_journal_format.proofs.writing.push_digests.Given as goal

abbrev pub invariant-loop-at : goal.invariant-loop-at
invariant-loop-at l = l.lines.items ≡ flat_map digest_text (take l.at l.digests)
