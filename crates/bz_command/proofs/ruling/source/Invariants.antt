use Rattle.bz_command.proofs.Words.{◌≡◌, drop, source}
use Rattle.bz_command.proofs.ruling.source.Given as goal

-- what the items that are left say is what all say
abbrev pub invariant-loop-item : goal.invariant-loop-item
invariant-loop-item l = source l.name l.rule l.items ≡ source l.name l.rule (drop l.item-index l.items)
