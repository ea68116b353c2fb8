use Rattle.bz_command.proofs.Words.{◌∙◌, ap, item_hash, map}
use Rattle.bz_command.proofs.NameHashes.{hashes_spliced}
use Rattle.bz_command.proofs.hashes.hashes_over.Goals as goal

pub returns : goal.returns
returns c = λ before over is.
    hashes_spliced c.args.windows.now c.in-Some.window before c.args.items.now c.args.hashes c.in-Ok.come c.splice.new.self c.in-Some.ensures over is
    (c.in-Ok.ensures ∙ ap (map item_hash) c.come_in.ensures) c.in-Ok-splice.ensures.here
