use Rattle.bz_edit.proofs.Words.{◌∙◌, ◌≡◌, ap, arith, covered, Edit, has_place, length, parts_put, refl, slice_index_or, turned}
use Rattle.bz_edit.proofs.Going.{ends, here, swapped_next}
use Rattle.bz_edit.proofs.place.swap_each.Goals as goal

pub swap_at-requires : goal.swap_at-requires
swap_at-requires c =
    let x = slice_index_or c.loop-i.edits c.loop-i.i c.index-edits-i.result in
    ap (λ q. has_place q x.at x.count c.loop-i.node) c.as_slice-path.ensures
    ∙ here (λ es. es) (λ e. e) turned c.args.edits.now c.args.node.now c.loop-i.i c.loop-i.edits c.loop-i.node c.index-edits-i.result c.loop-i.invariant.0 (omega arith) (λ e rest. refl)

pub loop-i-preserved : goal.loop-i-preserved
loop-i-preserved c =
    let n = c.loop-i.node in
    let x = slice_index_or c.loop-i.edits c.loop-i.i c.index-edits-i.result in
    let new : Edit = record { path = x.path; at = x.at; count = c.len-held.result; held = c.swap_at.new.held } in
    let is : new ≡ turned n x =
    ap (λ k. let e : Edit = record { path = x.path; at = x.at; count = k; held = c.swap_at.new.held } in e) c.len-held.ensures
    ∙ ap (λ hs. let e : Edit = record { path = x.path; at = x.at; count = length x.held; held = hs } in e) (c.in_ok-swap_at.ensures.held ∙ ap (λ q. covered q x.at x.count n) c.as_slice-path.ensures) in (
      swapped_next c.args.edits.now c.args.node.now c.loop-i.i c.loop-i.edits n c.index-edits-i.result c.loop-i.invariant.0 (omega arith) new c.swap_at.new.node is
          (c.in_ok-swap_at.ensures.node ∙ ap (λ q. parts_put q x.at x.count x.held n) c.as_slice-path.ensures),
      λ none. absurd (omega (arith, none)),
    )

pub returns-clause-node : goal.returns-clause-node
returns-clause-node c = ends (λ es. es) (λ e. e) turned _ _ c.loop-i.i c.loop-i.edits _ c.loop-i.invariant.0 (omega arith) refl
