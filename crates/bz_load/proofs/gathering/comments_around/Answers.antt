use Rattle.bz_load.proofs.Words.{◌∙◌, all_comments_joined, ap, Bytes, comments_without, false, flat_map, gathered_comments, gone_from, List, None}
use Rattle.bz_load.proofs.GatheredComments.{all_around}
use Rattle.bz_load.proofs.gathering.comments_around.Goals as goal

pub returns : goal.returns
returns c =
    let symbol = c.args.symbol.now in
    let front = flat_map (comments_without symbol) c.args.front.now in
    c.in_ok-comments.ensures
    ∙ all_around front (gone_from symbol false c.args.load.now) (flat_map (comments_without symbol) c.args.back.now) (gathered_comments c.join_without_each.new.gone) (gathered_comments c.join_from.new.gone) (gathered_comments c.join_without_each-2.new.gone)
    (c.in_ok-join_without_each.ensures ∙ ap (λ (lines : List Bytes). all_comments_joined (record { before = lines; suffix = None }) front) c.new.ensures) c.in_ok-join_from.ensures c.in_ok-join_without_each-2.ensures
