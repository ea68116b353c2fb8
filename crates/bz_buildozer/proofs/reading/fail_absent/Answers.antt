use Rattle.bz_buildozer.proofs.Words.{◌++◌, ◌∙◌, ◌≡◌, ap, append-nil, append_assoc, AppendsUnlessFailed, codes, escaped_text, List, named_line, subst, sym, ℕ}
use Rattle.bz_buildozer.proofs.reading.fail_absent.Goals as goal

in_one : (a b c d rest : List ℕ) → a ++ (b ++ (c ++ (d ++ rest))) ≡ (((a ++ b) ++ c) ++ d) ++ rest
in_one a b c d rest = sym (append_assoc a b (c ++ (d ++ rest))) ∙ (sym (append_assoc (a ++ b) c (d ++ rest)) ∙ sym (append_assoc ((a ++ b) ++ c) d rest))

pub returns-clause-reported : goal.returns-clause-reported
returns-clause-reported g c =
    let name = escaped_text c.args.name.now in
    let hint = c.package_hint-hint.result.now in
    subst (λ (text : List ℕ). AppendsUnlessFailed (g.E.Sink.faults c.args.err.now) (g.E.Sink.faults c.report_pieces.new.err) (g.E.Sink.contents c.args.err.now)
    (g.E.Sink.contents c.report_pieces.new.err) text)
    (ap (λ (last : List ℕ). name ++ (codes ": cannot open\n" ++ last)) (append-nil hint) ∙ in_one name (codes ": ") (codes "cannot open") (codes "\n") hint
    ∙ ap (λ (help : List ℕ). named_line c.args.name.now (codes "cannot open") ++ help) c.package_hint-hint.ensures) c.report_pieces.ensures
