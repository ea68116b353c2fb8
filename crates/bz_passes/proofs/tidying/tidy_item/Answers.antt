use Rattle.bz_passes.proofs.Words.{◌∙◌, ◌≡◌, above, after_passes, any_marked, ap, false, Item as i, item_tidied, leave_alone, refl, rules, sym, taken, true, with_flags}
use Rattle.bz_passes.proofs.{Settling.passes_taken, tidying.tidy_item.Goals.then-not-any_marked+in_ok-quote+in_ok-change_lists_and_arguments+in_ok-sort_symbols, tidying.tidy_item.Goals.else-not-any_marked}
use Rattle.bz_passes.proofs.tidying.tidy_item.Goals as goal

pub returns-after-not-any_marked : goal.returns-after-not-any_marked
returns-after-not-any_marked c =
    let changed : c.if-not-any_marked.x ≡ taken after_passes c.in-Stmt.x = elim c.if-not-any_marked.branch [
      | then-not-any_marked+in_ok-quote+in_ok-change_lists_and_arguments+in_ok-sort_symbols w ↦
          let free : any_marked leave_alone (above c.in-Stmt.x) ≡ false = search rules in
          w.x-is ∙ (search (rules, passes_taken c.in-Stmt.x free))
      | else-not-any_marked w ↦ let marked : any_marked leave_alone (above c.in-Stmt.x) ≡ true = search rules in w.x-is ∙ rw marked refl
    ] in
    ap i.Stmt (c.settle.ensures ∙ ap with_flags changed) ∙ ap item_tidied (sym c.in-Stmt.is)
