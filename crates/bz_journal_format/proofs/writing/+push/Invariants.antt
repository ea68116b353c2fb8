use Rattle.bz_journal_format.proofs.Words.{◌++◌, ◌≡◌, flat_map, part_text, take}
use Rattle.bz_journal_format.proofs.writing.+push.Given as goal

abbrev pub invariant-push_parts-parts : goal.invariant-push_parts-parts
invariant-push_parts-parts l = l.out.items ≡ l.fn.out.items ++ flat_map part_text (take l.part-index l.parts)
