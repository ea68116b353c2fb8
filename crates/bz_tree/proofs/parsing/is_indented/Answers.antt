use Rattle.std.proofs.lemmas.Bool.{not-true}
use Rattle.bz_lex.proofs.Fronts.{no_empty_list}
use Rattle.bz_tree.proofs.parsing.is_indented.Goals as goal

pub returns-in-Build : goal.returns-in-Build
returns-in-Build c h =
    let w = c.in-Some.ensures in
    rw c.in-Build.is (w.0, w.1, w.2, w.3, c.in-Some.blanks.now, w.4, no_empty_list c.in-Some.blanks.now c.is_empty.result c.is_empty.ensures (not-true c.is_empty.result h))

pub returns-in-Bzl : goal.returns-in-Bzl
returns-in-Bzl c h = let w = c.in-Some.ensures in rw c.in-Bzl.is (w.0, w.1, w.2, w.3, c.in-Some.blanks.now, w.4, tt)
