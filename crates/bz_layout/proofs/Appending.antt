-- Items after others.
use Rattle.bz_layout.proofs.Words.{[], ◌++◌, ◌∙◌, ◌∷◌, ◌≡◌, ap, append-nil, append_assoc, arith, Bytes, depth_items, depth_of, gap_between, Item, item_text, laid_out, layout, Lines, List, past_item, suc, sym}
use Rattle.bz_layout.specs.Appended.{LayoutsJoin, DepthsJoin}
use Rattle.bz_layout.proofs.{Deep.laid_out_depth, Spelled.next_after, LineWindows.depth_append}

both_after : (above : Item) (front : List Item) (item : Item) (items : List Item) → past_item Lines.Counted above ((front ++ item ∷ []) ++ items) ≡ past_item Lines.Counted above (front ++ item ∷ []) ++ past_item Lines.Counted item items
both_after above [] item items =
    let gap : Bytes = gap_between above item in
    ap (λ t. gap ++ (t ++ past_item Lines.Counted item items)) (sym (append-nil (item_text item))) ∙ sym (append_assoc gap (item_text item ++ []) (past_item Lines.Counted item items))
both_after above (x ∷ front) item items =
    let gap : Bytes = gap_between above x in
    let rest : Bytes = past_item Lines.Counted x (front ++ item ∷ []) in
    ap (λ t. gap ++ (item_text x ++ t)) (both_after x front item items)
    ∙ (ap (λ t. gap ++ t) (sym (append_assoc (item_text x) rest (past_item Lines.Counted item items))) ∙ sym (append_assoc gap (item_text x ++ rest) (past_item Lines.Counted item items)))

both_laid : (front : List Item) (item : Item) (items : List Item) → layout ((front ++ item ∷ []) ++ items) ≡ layout (front ++ item ∷ []) ++ past_item Lines.Counted item items
both_laid [] item items = ap (λ t. t ++ past_item Lines.Counted item items) (sym (append-nil (item_text item)))
both_laid (x ∷ front) item items =
    ap (λ t. item_text x ++ t) (both_after x front item items) ∙ sym (append_assoc (item_text x) (past_item Lines.Counted x (front ++ item ∷ [])) (past_item Lines.Counted item items))

pub layouts_join : LayoutsJoin
layouts_join front item items = both_laid front item items ∙ ap (λ t. layout (front ++ item ∷ []) ++ t) (sym (next_after Lines.Counted item items))

pub depths_join : DepthsJoin
depths_join front items depth h k =
    let one : depth_of (laid_out front) ≡ suc (depth_items front) = laid_out_depth Lines.Counted front in
    let two : depth_of (laid_out items) ≡ suc (depth_items items) = laid_out_depth Lines.Counted items in
    let all : depth_of (laid_out (front ++ items)) ≡ suc (depth_items (front ++ items)) = laid_out_depth Lines.Counted (front ++ items) in
    omega (arith, one, two, all, depth_append front items, h, k)
