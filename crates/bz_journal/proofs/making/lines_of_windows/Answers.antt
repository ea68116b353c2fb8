use Rattle.bz_journal.proofs.Words.{◌∙◌, ◌≤◌, Bytes, IsProper, IsProperBuild, Item, layout, length, limit, List, subst, sym, view_of}
use Rattle.bz_layout.specs.Windows.{IsLayoutOf}
use Rattle.bz_journal.proofs.MadeLines.{are_within, lines_read}
use Rattle.bz_journal.proofs.making.lines_of_windows.Goals as goal

pub text_windows-requires-clause-within : goal.text_windows-requires-clause-within
text_windows-requires-clause-within c = are_within c.args.windows.now (view_of c.args.tree.now) c.args.file.now c.requires.over

pub read_windows-requires-clause-texts : goal.read_windows-requires-clause-texts
read_windows-requires-clause-texts c =
    let seen : List Item = view_of c.args.tree.now in
    let own : IsLayoutOf seen c.args.tree.now = record { proper = c.requires.written.proper; laid_out = c.requires.written.laid_out } in
    let long = c.in_ok-laid.ensures.length seen own c.requires.over c.requires.len in
    let short : length (layout c.args.file.now) ≤ limit = subst (λ n. n ≤ limit) long.0 long.1 in
    let put = c.in_ok-laid.ensures.put seen own c.requires.over in
    let proper : IsProperBuild c.args.file.now = (subst (λ (xs : List Item). IsProper xs) c.file.view_is c.file.invariant, c.requires.build_value) in
    let reads = lines_read c.layout_is_accepted.ensures c.build_layout_is_build.ensures put.0 c.args.tree.now c.args.file.now proper short
    (c.in_ok-laid.ensures.shallow seen own c.requires.over c.reads_back.ensures.0.legal.depth) put.3 in
    (put.0, put.1, put.2, reads.0, subst (λ (t : Bytes). length t ≤ limit) (sym reads.1) short)

pub returns-clause-lines : goal.returns-clause-lines
returns-clause-lines c =
    let seen : List Item = view_of c.args.tree.now in
    let own : IsLayoutOf seen c.args.tree.now = record { proper = c.requires.written.proper; laid_out = c.requires.written.laid_out } in
    let long = c.in_ok-laid.ensures.length seen own c.requires.over c.requires.len in
    let proper : IsProperBuild c.args.file.now = (subst (λ (xs : List Item). IsProper xs) c.file.view_is c.file.invariant, c.requires.build_value) in
    let short : length (layout c.args.file.now) ≤ limit = subst (λ n. n ≤ limit) long.0 long.1 in
    let deep = c.in_ok-laid.ensures.shallow seen own c.requires.over c.reads_back.ensures.0.legal.depth in
    let put = c.in_ok-laid.ensures.put seen own c.requires.over in
    let reads = lines_read c.layout_is_accepted.ensures c.build_layout_is_build.ensures put.0 c.args.tree.now c.args.file.now proper short deep put.3 in
    let read = c.in_ok-lines.ensures put.0 put.1 put.2 reads.0 (subst (λ (t : Bytes). length t ≤ limit) (sym reads.1) short) in
    record {
      there = read.0;
      reads = lines_read c.layout_is_accepted.ensures c.build_layout_is_build.ensures c.in_ok-lines.lines c.args.tree.now c.args.file.now proper short deep (read.1 ∙ put.3);
      deep = deep;
    }
