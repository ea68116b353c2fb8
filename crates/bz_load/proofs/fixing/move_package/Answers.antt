use Rattle.bz_load.proofs.Words.{◌∙◌, ap, if_true, is_first, is_package_call, Item, leading_blocks, List, loads_end, move_package_to_top, none_passes, position, sym}
use Rattle.bz_load.proofs.PlaceSteps.{no_package, blocks_fit, package_put}
use Rattle.bz_load.proofs.fixing.move_package.Goals as goal

pub returns-in_default : goal.returns-in_default
returns-in_default c =
    no_package c.args.items.now.items (none_passes is_package_call c.args.items.now.items (c.in_default.ensures ∙ ap (position is_package_call) c.as_slice.ensures.value))
    ∙ sym (if_true c.args.wanted (move_package_to_top c.args.items.now.items) c.args.items.now.items c.if-not-wanted.false)

pub place_after_loads-to-requires : goal.place_after_loads-to-requires
place_after_loads-to-requires c =
    let items : List Item = c.args.items.now.items in
    let first = is_first is_package_call items c.in-Some.from c.remove-package.result (c.in-Some.ensures ∙ ap (position is_package_call) c.as_slice.ensures.value) in
    blocks_fit items c.remove-package.new.self.items c.as_slice-3.result.now c.in-Some.from c.count_of_blocks-blocks.result first c.remove-package.ensures.items c.as_slice-3.ensures.value
    (c.count_of_blocks-blocks.ensures.blocks ∙ ap leading_blocks c.as_slice-2.ensures.value)

pub returns : goal.returns
returns c =
    let items : List Item = c.args.items.now.items in
    let first = is_first is_package_call items c.in-Some.from c.remove-package.result (c.in-Some.ensures ∙ ap (position is_package_call) c.as_slice.ensures.value) in
    c.in_ok-insert.ensures.items
    ∙ (package_put items c.remove-package.new.self.items c.in-Some.from c.count_of_blocks-blocks.result c.place_after_loads-to.result c.remove-package.result first
    c.remove-package.ensures.value c.remove-package.ensures.items (c.count_of_blocks-blocks.ensures.blocks ∙ ap leading_blocks c.as_slice-2.ensures.value)
    (c.place_after_loads-to.ensures.place ∙ ap (loads_end c.count_of_blocks-blocks.result 0) c.as_slice-3.ensures.value)
    ∙ sym (if_true c.args.wanted (move_package_to_top items) items c.if-not-wanted.false))
