use Rattle.bz_command.proofs.Words.{[], ◌<◌, ◌∙◌, and_parts, ap, arith, Ascend, drop_all, err_from_is_err_and, get_or, has_name, inl, inr, is_text, Item as i, left_further, left_next, length, length-set, List, nothing_grown, one_made_by, put_over, refl, same_before, same_put, subst, sym, ℕ}
use Rattle.std.proofs.{Common.set, Math.Seq.map-set_same}
use Rattle.bz_command.proofs.MeantPlaces.{ascend_here, by_places, made, meant_ascend, on_places, one_made_is, refused}
use Rattle.bz_command.proofs.ruling.on_meant.Goals as goal

pub loop-at-init : goal.loop-at-init
loop-at-init c =
    let new = c.new-growing.result in
    let items = c.args.items.now in record {
      made = refl;
      order =
          subst (λ n. Ascend n (length items) c.args.places.now) (sym c.new-growing.ensures.past)
          (subst (Ascend 0 (length items)) (sym c.requires) (meant_ascend c.args.work.target.now.which c.args.work.lines.now items));
      grown = nothing_grown new items c.new-growing.ensures.windows c.new-growing.ensures.past;
      none = λ _. c.new-growing.ensures.windows;
      left = refl;
      names = λ _ name. refl;
      count = refl;
    }

pub offset_bounds-items-at : goal.offset_bounds-items-at
offset_bounds-items-at c =
    let l = c.loop-at in
    let h = ascend_here l.growing.past (length c.args.items.now) c.args.places.now l.at-index c.loop-at-test.true l.invariant.order in
    omega (arith, h.1)

pub returns-in_err-same-clause-err : goal.returns-in_err-same-clause-err
returns-in_err-same-clause-err c =
    let p = err_from_is_err_and c.from_residual-in_err-same.result c.from_residual-in_err-same.ensures.1 in
    let l = c.loop-at in
    let items = c.args.items.now in
    let h = ascend_here l.growing.past (length items) c.args.places.now l.at-index c.loop-at-test.true l.invariant.order in
    let d = c.index-items-at.result in
    let there : get_or c.args.places.now l.at-index 0 < length l.items = omega (arith, h.1, l.invariant.count) in
    rw (p.1, p.2) (elim c.in_err-same.ensures.err [
      | inl is ↦ inl (by_places c.args.work c.args.places.now items c.requires ∙ refused (one_made_by c.args.work) (i.Block []) c.args.places.now l.items l.at-index d _ c.loop-at-test.true there l.invariant.made _ (one_made_is c.args.work c.command.inside.operation _ _ c.command.view_is is))
      | inr memory ↦ inr memory
    ])

pub loop-at-preserved : goal.loop-at-preserved
loop-at-preserved c =
    let l = c.loop-at in
    let h = ascend_here l.growing.past (length c.args.items.now) c.args.places.now l.at-index c.loop-at-test.true l.invariant.order in
    let at = get_or c.args.places.now l.at-index 0 in
    let d = c.index-items-at.result in
    let new = c.on_one_compared.new.item in
    let there : at < length l.items = omega (arith, h.1, l.invariant.count) in
    let same = c.in_ok-same.ensures.same in
    let long = length-set l.items at new in
    let stays = same_put l.items at d new in
    let left = left_further c.args.items.now l.items l.growing.past at h.0 l.invariant.left in record {
      made = made (one_made_by c.args.work) (i.Block []) c.args.places.now l.items l.at-index d _ c.loop-at-test.true there l.invariant.made new (one_made_is c.args.work c.command.inside.operation _ _ c.command.view_is c.in_ok-same.ensures.ok);
      order = c.in_ok-note.ensures.order _ _ h;
      grown = c.in_ok-note.ensures.grown c.args.items.now l.items (set l.items at new) l.invariant.grown (λ is. stays (same.0 is)) (put_over at new l.items (set l.items at new) there refl);
      none = λ equal.
          let is = same_before c.args.items.now l.items at d new there left equal in
          c.in_ok-note.ensures.none (same.1 is) ∙ l.invariant.none (sym (stays is) ∙ equal);
      left = c.in_ok-note.ensures.left c.args.items.now l.items (set l.items at new) l.invariant.left (λ is. stays (same.0 is)) (left_next c.args.items.now l.items at new left);
      names = λ both name. map-set_same (has_name name) l.items at new d (ap (is_text name) (c.has_this_name-same_names.ensures (and_parts _ _ both).1 ∙ c.in_ok-name.ensures)) ∙ l.invariant.names (and_parts _ _ both).0 name;
      count = long ∙ l.invariant.count;
    }

pub returns-clause-ok : goal.returns-clause-ok
returns-clause-ok c =
    by_places c.args.work c.args.places.now c.args.items.now c.requires
    ∙ (c.loop-at.invariant.made ∙ ap (λ (places : List ℕ). on_places (one_made_by c.args.work) (i.Block []) places c.loop-at.items) (drop_all c.loop-at.at-index c.args.places.now c.loop-at-test.false))
