use Rattle.bz_hosts.proofs.Words.{[], ◌++◌, ◌+◌, ◌-◌, ◌∙◌, ◌∷◌, ◌≡◌, ap, arith, branches, drop, false, GapLine, lines_of, List, map, Part, Seen, seen, Stated, stated, sym, take, with_suite}
use Rattle.bz_hosts.proofs.{Branches.branch_more, Colons.part_here}
use Rattle.bz_value.specs.declared.value.Expr.TheVariants as e
use Rattle.bz_hosts.proofs.suites.+stated.Goals as goal

pub push_branches-loop-colon-preserved : goal.push_branches-loop-colon-preserved
push_branches-loop-colon-preserved t c =
    let ps : List Part = c.args.parts.now in
    let x : Part = c.in-Some-get.suite.now in
    let parts : List Seen = map seen (take (c.in-Some.colon - c.loop-colon.from) (drop c.loop-colon.from ps)) in
    let left : List GapLine = lines_of c.loop-colon.rest.left.now ++ lines_of c.loop-colon.rest.gap.now in
    let after : List GapLine = lines_of c.args.after.now in
    let following : List GapLine = lines_of c.gap_after-following.result.now in
    let rest : List Stated = map stated (drop (c.in-Some.colon + 2) ps) in
    let two : c.in-Some.colon + 1 + 1 ≡ c.in-Some.colon + 2 = omega arith in
    let here : map stated (drop (c.in-Some.colon + 1) ps) ≡ stated x ∷ rest =
    ap (map stated) (part_here ps (c.in-Some.colon + 1) x c.in-Some-get.ensures.lookup.3.0 c.in-Some-get.ensures.lookup.1) ∙ ap (λ n. stated x ∷ map stated (drop n ps)) two in
    let cut : with_suite false c.args.kind parts c.loop-colon.above left (stated x ∷ rest) after ≡ branches false c.args.kind [] c.loop-colon.above left (map stated (drop c.loop-colon.from ps)) after =
    sym (c.in-Some.ensures.2 false c.args.kind c.loop-colon.above left after ∙ ap (λ xs. with_suite false c.args.kind parts c.loop-colon.above left xs after) here) in
    let w = branch_more c.args.kind parts c.loop-colon.above c.in_ok-above.above left after following (lines_of c.in_ok-rest.rest.left.now ++ lines_of c.in_ok-rest.rest.gap.now) x rest c.in_ok-form.form
    c.push_suite.new.statements c.in_ok-form-2.field-0 c.loop-colon.own c.push.new.self _ _ c.gap_after-following.ensures c.in_ok-form.ensures c.in_ok-rest.ensures.statements
    (c.in_ok-form-2.ensures ∙ (c.in_ok-rest.ensures.end ∙ ap (λ ts. ts ++ ((stated x).suite following).0.1) c.new-end.ensures))
    c.in_ok-rest.ensures.rest c.in_ok-above.ensures (ap (λ r. map e.Form c.loop-colon.own ++ r.0) cut ∙ c.loop-colon.invariant.own) (ap (λ r. r.1) cut ∙ c.loop-colon.invariant.rest) c.in_ok-push.ensures.ok in
    record { within = omega (arith, c.in-Some-get.ensures.lookup.3.0); own = w.0; rest = w.1 }
