use Rattle.bz_streams.proofs.Imported.{◌||◌, ◌≡◌, drop, is_beyond_ascii, list_any}
use Rattle.bz_streams.proofs.names.is_beyond_ascii.Given as goal

-- one was found, or is in what is left
abbrev pub invariant-loop-byte : goal.invariant-loop-byte
invariant-loop-byte l = (l.found || list_any is_beyond_ascii (drop l.byte-index l.text)) ≡ list_any is_beyond_ascii l.text
