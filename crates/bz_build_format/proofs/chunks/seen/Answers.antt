use Rattle.bz_build_format.proofs.Words.{[], ◌∙◌, ◌≢◌, Accepted, ap, begins_with_load, NoBzlTree, not-true, sym, tidied}
use Rattle.std.proofs.lemmas.Result.{err_from_is_err_and}
use Rattle.bz_build_format.proofs.ReadFaults.{reported}
use Rattle.bz_build_format.proofs.chunks.seen.Goals as goal

pub returns-in_err-tree-in-Build-clause-err : goal.returns-in_err-tree-in-Build-clause-err
returns-in_err-tree-in-Build-clause-err c =
    let e = c.in_err-tree-in-Build.ensures in
    let p = err_from_is_err_and c.from_residual.result c.from_residual.ensures.1 in
    rw (p.1, p.2) (λ other. rw c.in-Build.is (reported _ (Accepted c.args.text.now → ⊥) (λ blanks. blanks ≢ []) c.args.text.now _ (λ of accepted. e.refused of accepted.0 accepted.1) e.too_large e.not_utf8 e.placed other))

pub returns-in_err-tree-in-Suites-clause-err : goal.returns-in_err-tree-in-Suites-clause-err
returns-in_err-tree-in-Suites-clause-err c =
    let e = c.in_err-tree-in-Suites.ensures in
    let p = err_from_is_err_and c.from_residual-in_err-tree-in-Suites.result c.from_residual-in_err-tree-in-Suites.ensures.1 in
    rw (p.1, p.2) (λ other. rw c.in-Suites.is (reported _ (NoBzlTree c.args.text.now) (λ _. Unit {0}) c.args.text.now _ e.refused e.too_large e.not_utf8 e.placed other))

pub returns-in_ok-tidied-in-Build-clause-ok : goal.returns-in_ok-tidied-in-Build-clause-ok
returns-in_ok-tidied-in-Build-clause-ok c =
    let says = c.in_ok-file-in-Build.ensures.value in
    let load = c.begins_with_load-follows.ensures.load ∙ ap begins_with_load (c.as_slice.ensures ∙ (c.file.view_is ∙ says)) in
    rw c.in-Build.is (
      c.in_ok-tree-in-Build.tree,
      c.in_ok-tree-in-Build.ensures.ok,
      c.in_ok-tidied-in-Build.ensures.tidied ∙ ap tidied says,
      λ bare. sym load ∙ not-true c.begins_with_load-follows.result bare,
      c.ends_with_line-ends.ensures,
    )

pub returns-in_ok-file-in-Suites-clause-ok : goal.returns-in_ok-file-in-Suites-clause-ok
returns-in_ok-file-in-Suites-clause-ok c =
    rw c.in-Suites.is (
      c.in_ok-tree-in-Suites.tree,
      c.in_ok-tree-in-Suites.ensures.ok,
      c.in_ok-file-in-Suites.ensures.file,
      c.begins_bare-follows.ensures,
      c.in_ok-file-in-Suites.ensures.ends,
    )
