use Rattle.bz_layout.proofs.Words.{◌-◌, ◌∙◌, ◌≡◌, ap, line_count_in, refl, rules, take}
use Rattle.bz_layout.proofs.{LineWindows.first_from, LineWindows.one_over, Writing.rest_here}
use Rattle.bz_layout.proofs.line_windows.all_as_one.Goals as goal

pub returns-clause-over : goal.returns-clause-over
returns-clause-over c = λ before lines h.
    let first : c.map_or-from.result ≡ first_from c.args.windows.now = search rules in
    one_over c.args.windows.now before c.args.items.now _ c.come_end-end.result c.args.lines _ _ first c.come_end-end.ensures.end lines
    (c.saturating_sub.ensures ∙ (ap (λ n. n - c.count_lines-2.result) (c.saturating_sub-past_front.ensures ∙ ap (λ n. c.args.lines - n) c.count_lines.ensures)
    ∙ ap (λ n. c.args.lines - line_count_in (take c.map_or-from.result c.args.items.now) - n) (c.count_lines-2.ensures ∙ ap line_count_in (rest_here c.args.items.now c.come_end-end.result))))
    refl h
