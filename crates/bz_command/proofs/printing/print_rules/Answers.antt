use Rattle.bz_command.proofs.Words.{[], ◌+◌, ◌∙◌, ap, append-nil, arith, Ascend, before_rest, Bytes, drop, drop_all, err_from_is_err_and, get_or, inl, inr, Item as i, length, List, Ok, subst, suc, sym, ℕ}
use Rattle.bz_command.proofs.MeantPlaces.{ascend_from, ascend_here, before_nothing, meant_ascend, print_made, print_refused, printed_at, printed_by_places}
use Rattle.bz_command.proofs.printing.print_rules.Goals as goal

pub loop-at-init : goal.loop-at-init
loop-at-init c =
    let work = c.args.work in
    let all = printed_at work.command.now work.current.now (i.Block []) work.lines.now 0 c.args.places.now c.args.items.now in record {
      printed = sym (before_nothing all) ∙ ap (λ (text : Bytes). before_rest (Ok text) all) (sym c.new-all.ensures.items);
      order = subst (Ascend 0 (length c.args.items.now)) (sym c.requires) (meant_ascend work.target.now.which work.lines.now c.args.items.now);
    }

pub offset_bounds-items-at : goal.offset_bounds-items-at
offset_bounds-items-at c = let h = ascend_here c.loop-at.past (length c.args.items.now) c.args.places.now c.loop-at.at-index c.loop-at-test.true c.loop-at.invariant.order in omega (arith, h.1)

pub bounds-items-at : goal.bounds-items-at
bounds-items-at c = (ascend_here c.loop-at.past (length c.args.items.now) c.args.places.now c.loop-at.at-index c.loop-at-test.true c.loop-at.invariant.order).1

pub lines_after-requires : goal.lines_after-requires
lines_after-requires c =
    let h = ascend_here c.loop-at.past (length c.args.items.now) c.args.places.now c.loop-at.at-index c.loop-at-test.true c.loop-at.invariant.order in
    record { start = h.0; end = omega (arith, h.1) }

pub returns-in_err-push-clause-err : goal.returns-in_err-push-clause-err
returns-in_err-push-clause-err c =
    let p = err_from_is_err_and c.from_residual.result c.from_residual.ensures.1 in
    let l = c.loop-at in
    let work = c.args.work in
    let items = c.args.items.now in
    let h = ascend_here l.past (length items) c.args.places.now l.at-index c.loop-at-test.true l.invariant.order in
    rw (p.1, p.2) (elim c.in_err-push.ensures.err [
      | inl is ↦ inl (printed_by_places work c.args.places.now items c.requires
          ∙ print_refused work.command.now work.current.now (i.Block []) l.left.now l.past c.args.places.now items l.at-index l.all.items c.index-items-at.result c.lines_after.result.now c.line_at-line.result.0 _
          c.loop-at-test.true h.1 c.index-items-at.is c.lines_after.ensures c.line_at-line.ensures.line l.invariant.printed _ is)
      | inr memory ↦ inr memory
    ])

pub loop-at-preserved : goal.loop-at-preserved
loop-at-preserved c =
    let l = c.loop-at in
    let work = c.args.work in
    let items = c.args.items.now in
    let h = ascend_here l.past (length items) c.args.places.now l.at-index c.loop-at-test.true l.invariant.order in
    let at = get_or c.args.places.now l.at-index 0 in record {
      printed =
          print_made work.command.now work.current.now (i.Block []) l.left.now l.past c.args.places.now items l.at-index l.all.items c.index-items-at.result c.lines_after.result.now c.line_at-line.result.0 _
          c.loop-at-test.true h.1 c.index-items-at.is c.lines_after.ensures c.line_at-line.ensures.line l.invariant.printed c.push.new.out.items c.line_at-line.result.1.now c.in_ok-push.ensures.ok c.line_at-line.ensures.following;
      order = ascend_from (at + 1) (suc at) (length items) (drop (l.at-index + 1) c.args.places.now) (omega arith) h.2;
    }

pub returns-clause-ok : goal.returns-clause-ok
returns-clause-ok c =
    let l = c.loop-at in
    let work = c.args.work in
    printed_by_places work c.args.places.now c.args.items.now c.requires ∙ (l.invariant.printed
    ∙ (ap (λ (places : List ℕ). before_rest (Ok l.all.items) (printed_at work.command.now work.current.now (i.Block []) l.left.now l.past places c.args.items.now)) (drop_all l.at-index c.args.places.now c.loop-at-test.false)
    ∙ ap Ok (append-nil l.all.items ∙ sym c.from_vec.ensures)))
