use Rattle.bz_layout.proofs.Words.{[], ◌+◌, ◌-◌, ◌^◌, ◌∙◌, ◌≡◌, ap, arith, drafted, flat_map, length, limit, min, spell_part, sym}
use Rattle.bz_layout.proofs.Reaching.{closed_as, past_as}
use Rattle.bz_layout.proofs.writer.close.Goals as goal

pub returns-then-bytes-gt-LENGTH_LIMIT-clause-long : goal.returns-then-bytes-gt-LENGTH_LIMIT-clause-long
returns-then-bytes-gt-LENGTH_LIMIT-clause-long c = λ no_ parts all left rest r.
    let many : c.len.result ≡ length c.in-Some.lines.items = omega (arith, c.len.ensures, c.in-Some.lines.ok) in
    past_as parts all _ _ _ _ _ _ _ left rest _ c.in-Some.lines.items (λ own is. (c.in-Some.ensures limit [] (flat_map spell_part own) (c.replace.ensures.value ∙ is)).0)
    (c.saturating_add-bytes.ensures ∙ ap (λ n. min (c.args.writer.now.bytes + n) (2 ^ 64 - 1)) many) c.if-bytes-gt-LENGTH_LIMIT.true r

pub returns-clause-closed : goal.returns-clause-closed
returns-clause-closed c = λ yes_ parts all left rest r.
    let many : c.len.result ≡ length c.in-Some.lines.items = omega (arith, c.len.ensures, c.in-Some.lines.ok) in
    closed_as parts all _ _ _ _ _ _ _ _ _ left rest _ _ _ c.from_vec.result c.saturating_sub.ensures c.saturating_sub-2.ensures
    (λ own is. c.from_vec.ensures ∙ (c.in-Some.ensures limit [] (flat_map spell_part own) (c.replace.ensures.value ∙ is)).0)
    (c.saturating_add-bytes.ensures ∙ ap (λ n. min (c.args.writer.now.bytes + n) (2 ^ 64 - 1)) (many ∙ ap length (sym c.from_vec.ensures))) (omega (arith, c.if-bytes-gt-LENGTH_LIMIT.false))
    c.in_ok-push.ensures.ok (c.replace.ensures.after ∙ (c.new-next.ensures ∙ ap (drafted limit) c.new.ensures.items)) r
