use Rattle.std.proofs.Common.{◌∙◌, sym}
use Rattle.bz_command.proofs.NameHashes.{first_named, none_further}
use Rattle.bz_command.proofs.hashes.place_among.Goals as goal

pub returns-then-has_hashed_name : goal.returns-then-has_hashed_name
returns-then-has_hashed_name c =
    first_named c.args.name.now c.args.items.now c.loop-at.at c.index-items-at.result c.loop-at-test.true c.index-items-at.is c.loop-at.invariant (sym c.has_hashed_name.ensures ∙ c.if-has_hashed_name.true)

pub loop-at-preserved : goal.loop-at-preserved
loop-at-preserved c =
    none_further c.args.name.now c.args.items.now c.loop-at.at c.index-items-at.result c.loop-at-test.true c.index-items-at.is c.loop-at.invariant (sym c.has_hashed_name.ensures ∙ c.if-has_hashed_name.false)
