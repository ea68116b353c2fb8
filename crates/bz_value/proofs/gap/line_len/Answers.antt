use Rattle.bz_value.proofs.Words.{◌∙◌, add-one, ap, arith, drop, eq-eqb, eqb-true, get_or, le-ltb, length, lines_of, lt-ltb, sym, take-length}
use Rattle.bz_value.proofs.Lines.{NoneBefore, line_breaks, line_stops, none_left}
use Rattle.bz_value.proofs.gap.line_len.Goals as goal

none_before : (c : goal.In-Some) → NoneBefore c.in-Some.at c.args.text.now
none_before c k lt e = c.in-Some.ensures.0.before k (omega arith) lt (eq-eqb (get_or c.args.text.now k 0) 10 e)

none_at_all : (c : goal.In-None) → NoneBefore (length c.args.text.now) c.args.text.now
none_at_all c k lt e = c.in-None.ensures k (omega arith) lt (eq-eqb (get_or c.args.text.now k 0) 10 e)

pub returns-in-Some-clause-words : goal.returns-in-Some-clause-words
returns-in-Some-clause-words c = let found = c.in-Some.ensures in ap (λ r. r.words) (line_breaks c.args.text.now c.in-Some.at (none_before c) found.0.high (eqb-true _ _ found.1))

pub returns-in-Some-clause-newline : goal.returns-in-Some-clause-newline
returns-in-Some-clause-newline c = let found = c.in-Some.ensures in
    ap (λ r. r.newline) (line_breaks c.args.text.now c.in-Some.at (none_before c) found.0.high (eqb-true _ _ found.1)) ∙ sym (lt-ltb c.in-Some.at (length c.args.text.now) found.0.high)

pub returns-in-Some-clause-lines : goal.returns-in-Some-clause-lines
returns-in-Some-clause-lines c = let found = c.in-Some.ensures in
    ap (λ r. r.lines) (line_breaks c.args.text.now c.in-Some.at (none_before c) found.0.high (eqb-true _ _ found.1)) ∙ ap (λ n. lines_of (drop n c.args.text.now)) (sym (add-one c.in-Some.at))

pub returns-in-None-clause-words : goal.returns-in-None-clause-words
returns-in-None-clause-words c = ap (λ r. r.words) (line_stops c.args.text.now (none_at_all c)) ∙ sym (take-length c.args.text.now)

pub returns-in-None-clause-newline : goal.returns-in-None-clause-newline
returns-in-None-clause-newline c =
    ap (λ r. r.newline) (line_stops c.args.text.now (none_at_all c)) ∙ sym (le-ltb (length c.args.text.now) (length c.args.text.now) (omega arith))

pub returns-in-None-clause-lines : goal.returns-in-None-clause-lines
returns-in-None-clause-lines c = ap (λ r. r.lines) (line_stops c.args.text.now (none_at_all c)) ∙ none_left c.args.text.now
