use Rattle.bz_buildifier.proofs.Words.{[], ◌∷◌, Bor, codes, List, named_line, Option, option_map, refl, Reports, reports_more, subst, sym, ℕ}
use Rattle.std.specs.Option.{option_map_or}
use Rattle.bz_buildifier.proofs.effect.fail_to_open.Goals as goal

pub returns-in-Some-clause-reported : goal.returns-in-Some-clause-reported
returns-in-Some-clause-reported g c =
    let faults = g.E.Sink.faults in
    let held = g.E.Sink.contents in
    let name = c.args.name.now in
    let last = c.report_named.new.err in
    rw (c.in-Some.is)
    (reports_more (faults c.args.err.now) (faults c.fail-effect.new.err) (faults last) (held c.args.err.now) (held c.fail-effect.new.err) (held last)
    (named_line name (codes "cannot open") ∷ []) (named_line name c.in-Some.words.now ∷ []) c.fail-effect.ensures.reported
    (faults last, held last, c.report_named.ensures, (refl, refl)))
