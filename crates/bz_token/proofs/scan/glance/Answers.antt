use Rattle.bz_token.proofs.Words.{◌<◌, ◌≡◌, Ended, get_or, length, move, rules, Some, Start}
use Rattle.bz_token.proofs.Glances.{mark_token}
use Rattle.bz_token.proofs.scan.glance.Goals as goal

pub returns-in-Some-Ended : goal.returns-in-Some-Ended
returns-in-Some-Ended c =
    let some : 0 < length c.args.text.now = search rules in
    let moved : move Start (get_or c.args.text.now 0 0) ≡ Some Ended = search rules in
    mark_token c.args.text.now some moved
