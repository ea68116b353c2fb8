use Rattle.bz_build_format.proofs.Words.{◌∙◌, ap, arith, drafted, inl, limit, refl}
use Rattle.bz_build_format.proofs.Chunking.{IsBegun, next_begun, still_within, whole_formatted}
use Rattle.bz_build_format.proofs.chunks.chunks_formatted.Goals as goal

pub loop-at-init : goal.loop-at-init
loop-at-init c = (inl (refl, c.new-out.ensures ∙ ap (drafted limit) c.in-Ok.ensures.items, refl), omega arith)

pub loop-at-preserved : goal.loop-at-preserved
loop-at-preserved c = (
  next_begun c.views_join.ensures.joined c.suites_join.ensures c.build_views.ensures c.tidied_apart.ensures c.layouts_join.ensures.text c.layouts_join.ensures.depth c.args.kind c.args.text.now
      c.loop-at.out c.append.new.out c.loop-at.at c.in_ok-file.len c.loop-at.last c.in_ok-item.item c.in_ok-file.file c.loop-at.ends c.is_none.result c.in_ok-file.follows
      c.loop-at.invariant.1 c.is_none.ensures c.loop-at.invariant.0 c.if-not-ends.false c.in_ok-file.ensures.reads c.in_ok-item.ensures (omega (arith, c.if-text-gt-LENGTH_LIMIT.false)),
  still_within c.args.text.now c.loop-at.at c.in_ok-file.len c.loop-at.invariant.1 c.in_ok-file.ensures.len.1,
)

pub returns : goal.returns
returns c =
    whole_formatted c.args.kind c.args.text.now c.loop-at.out c.loop-at.at c.loop-at.last c.loop-at.ends c.loop-at.invariant.0 c.loop-at.invariant.1
    (omega (arith, c.loop-at-test.false)) (omega (arith, c.if-text-le-CHUNK.false))
