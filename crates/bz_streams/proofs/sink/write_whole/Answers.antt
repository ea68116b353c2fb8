use Rattle.std.proofs.Common.{◌<◌, length, take, drop, refl, sym, rules}
use Rattle.std.proofs.lemmas.List.{take-append-drop}
use Rattle.bz_streams.proofs.Written.{cut_off, goes_on, part_is_some}
use Rattle.bz_streams.proofs.sink.write_whole.Goals as goal

pub loop-rest-preserved : goal.loop-rest-preserved
loop-rest-preserved g c =
    rw (c.after-rest.ensures)
    (goes_on (take c.in-Ok.written c.loop-rest.rest.now) (drop c.in-Ok.written c.loop-rest.rest.now) c.loop-rest.invariant
    (sym (take-append-drop c.in-Ok.written c.loop-rest.rest.now)) (c.in-Ok.ensures.steady refl, c.in-Ok.ensures.bytes))

pub returns-in-Err-clause-err : goal.returns-in-Err-clause-err
returns-in-Err-clause-err g c =
    let some : 0 < length c.loop-rest.rest.now = search rules in part_is_some (cut_off c.loop-rest.invariant some c.in-Err.ensures.bytes)

pub returns-in-Err-clause-part : goal.returns-in-Err-clause-part
returns-in-Err-clause-part g c =
    let some : 0 < length c.loop-rest.rest.now = search rules in cut_off c.loop-rest.invariant some c.in-Err.ensures.bytes
