use Rattle.bz_build_format.proofs.Words.{◌∙◌, ◌≡◌, ap, IsBuild, IsProper, Item, laid_out, layout, List, NoBzlTree, ReadsBzl, subst, sym, view_of}
use Rattle.bz_build_format.proofs.{Formatting.layout_read, ReadFaults.refused_text}
use Rattle.bz_build_format.proofs.writing.set.Goals as goal

pub returns-in-Ok : goal.returns-in-Ok
returns-in-Ok c =
    let proper : IsProper c.args.file.now = subst (λ (xs : List Item). IsProper xs) c.file.view_is c.file.invariant in
    let items : c.as_slice.result.now ≡ c.args.file.now = c.as_slice.ensures ∙ c.file.view_is in
    let laid = c.in_ok-text.ensures in
    let own : ReadsBzl c.as_slice-2.result.now (laid_out c.args.file.now) = layout_read c.layout_is_accepted.ensures _ _ _ items proper (c.as_slice-2.ensures ∙ laid.text) laid.short laid.shallow in
    let same = c.one_bzl_reading.ensures c.as_slice-2.result.now c.in-Ok.tree (laid_out c.args.file.now) c.in-Ok.ensures.ok own in
    record {
      laid_out = same;
      build = λ h. subst IsBuild (sym same) (c.build_layout_is_build.ensures c.args.file.now h);
      text = c.in-Ok.ensures.ok.1 ∙ (c.as_slice-2.ensures ∙ (laid.text ∙ ap layout items));
      view = ap view_of same ∙ c.layout_reads_back.ensures c.args.file.now proper;
      too_large = λ e. absurd cc;
      too_deep = λ e. absurd cc;
    }

pub unreachable-requires : goal.unreachable-requires
unreachable-requires c =
    let proper : IsProper c.args.file.now = subst (λ (xs : List Item). IsProper xs) c.file.view_is c.file.invariant in
    let laid = c.in_ok-text.ensures in
    refused_text (NoBzlTree c.as_slice-2.result.now) c.in-Err.fault c.in-Err.ensures.refused c.in_default.not-Memory (laid_out c.args.file.now)
    (layout_read c.layout_is_accepted.ensures _ _ _ (c.as_slice.ensures ∙ c.file.view_is) proper (c.as_slice-2.ensures ∙ laid.text) laid.short laid.shallow)
