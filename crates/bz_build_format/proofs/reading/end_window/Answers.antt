use Rattle.bz_build_format.proofs.Words.{◌++◌, ◌+◌, ◌-◌, ◌∙◌, ap, append_assoc, arith, drop, length, length-take, refl, spelled_parts, sym, take}
use Rattle.bz_build_format.proofs.Windowed.{end_kept, further_text, read_at_end}
use Rattle.bz_build_format.proofs.reading.end_window.Goals as goal

pub returns-clause-ok : goal.returns-clause-ok
returns-clause-ok c =
    let before = spelled_parts (take c.args.from c.args.parts.now) in
    end_kept c.lines_join.ensures.build c.lines_split.ensures (length c.args.parts.now - 1) c.args.parts.now c.index-parts-end.result (before ++ c.args.text.now) (before ++ c.in-Some.rest.now) c.in-Some-cut_lines.new refl
    (omega (arith, c.requires.from)) c.index-parts-end.is (ap (λ t. before ++ t) c.in-Some.ensures ∙ sym (append_assoc before _ _)) c.requires.legal c.in-Some-cut_lines.ensures c.requires.short

pub returns-2-clause-ok : goal.returns-2-clause-ok
returns-2-clause-ok c =
    read_at_end c.lines_join.ensures.build c.lines_split.ensures (c.args.from + c.same-count.result.0) c.args.parts.now (spelled_parts (take c.args.from c.args.parts.now) ++ c.args.text.now) c.same-count.result.1.now c.in-Ok.new
    (omega (arith, c.same-count.ensures.within, c.requires.from, length-take (length c.args.parts.now - 1 - c.args.from) (drop c.args.from c.args.parts.now))) c.requires.legal (c.are_whole_lines.ensures c.if-are_whole_lines.true) c.in-Ok.ensures.ok.0 c.in-Ok.ensures.ok.1 c.in-Ok.ensures.ok.2
    (further_text c.args.from c.same-count.result.0 (length c.args.parts.now - 1) c.args.parts.now c.args.text.now c.same-count.result.1.now c.same-count.ensures.within c.same-count.ensures.text) c.requires.short

pub returns-3-clause-ok : goal.returns-3-clause-ok
returns-3-clause-ok c =
    read_at_end c.lines_join.ensures.build c.lines_split.ensures c.args.from c.args.parts.now (spelled_parts (take c.args.from c.args.parts.now) ++ c.args.text.now) c.args.text.now c.in_ok-new.new
    c.requires.from c.requires.legal c.requires.whole c.in_ok-new.ensures.ok.0 c.in_ok-new.ensures.ok.1 c.in_ok-new.ensures.ok.2 refl c.requires.short
