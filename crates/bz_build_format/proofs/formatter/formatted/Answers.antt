use Rattle.bz_build_format.proofs.Words.{[], ◌∙◌, ◌≡◌, ap, Bool, Bytes, Err, false, FileKind, Item, layout, limit, List, of_kind, ReadsAs, subst, sym}
use Rattle.bz_build_format.proofs.Chunking.{answered_chunks, answered_fault, answered_text, answered_too_deep, answered_too_large}
use Rattle.bz_build_format.proofs.formatter.formatted.Goals as goal

-- what is read, as the slice of it
of_slice : (kind : FileKind) (text : Bytes) (items slice : List Item) (follows ends : Bool) → slice ≡ items → ReadsAs (of_kind kind) text items follows ends → ReadsAs (of_kind kind) text slice follows ends
of_slice kind text items slice follows ends same = subst (λ xs. ReadsAs (of_kind kind) text xs follows ends) (sym same)

pub returns-in-Some-into_bytes : goal.returns-in-Some-into_bytes
returns-in-Some-into_bytes c =
    let (last, ends, h) = c.in-Some.ensures in
    answered_chunks c.views_are_proper.ensures c.flags_keep_layout.ensures c.layout_is_accepted.ensures c.layout_reads_back.ensures c.args.kind c.args.text.now c.in-Some-into_bytes.bytes.items c.from_vec.result
    c.in-Some.formatted last ends h c.from_vec.ensures (c.in-Some-into_bytes.ensures limit [] (layout h.items) h.laid_out.formatted)

pub returns-in-None : goal.returns-in-None
returns-in-None c =
    let (last, ends, h) = c.in-Some.ensures in
    answered_too_large c.flags_keep_layout.ensures c.args.kind c.args.text.now h.items false ends h.reads (c.in-None.ensures limit [] (layout h.items) h.laid_out.formatted)

pub returns-in-Err : goal.returns-in-Err
returns-in-Err c = answered_fault c.args.kind c.args.text.now c.in-Err.fault c.of_read_fault.result c.of_read_fault.ensures c.in-Err.ensures.err

pub returns-in-Ok-text_of_items : goal.returns-in-Ok-text_of_items
returns-in-Ok-text_of_items c =
    let laid = c.in-Ok-text_of_items.ensures in
    answered_text c.views_are_proper.ensures c.flags_keep_layout.ensures c.layout_is_accepted.ensures c.layout_reads_back.ensures c.args.kind c.args.text.now c.in-Ok-text_of_items.formatted _ _ _
    (of_slice _ _ _ _ _ _ (c.as_slice.ensures ∙ c.file.view_is) c.in-Ok.ensures.ok) laid.text laid.short laid.shallow

pub returns-in-Err-TooLarge : goal.returns-in-Err-TooLarge
returns-in-Err-TooLarge c =
    answered_too_large c.flags_keep_layout.ensures c.args.kind c.args.text.now _ _ _ (of_slice _ _ _ _ _ _ (c.as_slice.ensures ∙ c.file.view_is) c.in-Ok.ensures.ok)
    (c.in-Err-TooLarge.ensures.too_large (ap Err c.in-Err-TooLarge.field-0-is))

pub returns-in-Err-TooDeep : goal.returns-in-Err-TooDeep
returns-in-Err-TooDeep c =
    answered_too_deep c.views_are_proper.ensures c.flags_keep_layout.ensures c.layout_is_too_deep.ensures c.args.kind c.args.text.now _ _ _
    (of_slice _ _ _ _ _ _ (c.as_slice.ensures ∙ c.file.view_is) c.in-Ok.ensures.ok) (c.in-Err-TooDeep.ensures.too_deep (ap Err c.in-Err-TooDeep.field-0-is))
