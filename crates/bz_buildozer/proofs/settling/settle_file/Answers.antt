use Rattle.bz_buildozer.proofs.Words.{◌∙◌, ◌≡◌, false, IfOk, le_refl, length, Settled, settled_in, subst, sym, true}
use Rattle.bz_buildozer.proofs.FileNames.{folder_fits, meant_first, meant_last, meant_second}
use Rattle.bz_buildozer.proofs.settling.settle_file.Goals as goal

pub returns-then-branch-clause-means : goal.returns-then-branch-clause-means
returns-then-branch-clause-means g c = λ honest.
    meant_first (g.F.Files.folder c.args.files.now) c.args.path.now c.folder_of-folder.result.now (sym c.is_kept_name.ensures ∙ c.if-is_kept_name.false) c.folder_of-folder.ensures
    (sym c.in_ok-is_named.ensures ∙ c.if-branch.true)

pub returns-then-branch-2-clause-means : goal.returns-then-branch-2-clause-means
returns-then-branch-2-clause-means g c = λ honest. subst (λ (s : Settled). IfOk c.settle_second.result (λ is. settled_in is ≡ s))
    (meant_second (g.F.Files.folder c.args.files.now) c.args.path.now c.folder_of-folder.result.now (sym c.is_kept_name.ensures ∙ c.if-is_kept_name.false) c.folder_of-folder.ensures
    (sym c.in_ok-is_named.ensures ∙ c.if-branch.false) (sym c.in_ok-is_named-2.ensures ∙ c.if-branch-2.true)) (c.settle_second.ensures.means honest)

pub returns-then-branch-2-clause-fits : goal.returns-then-branch-2-clause-fits
returns-then-branch-2-clause-fits g c = c.settle_second.ensures.fits c.args.path.now
    (folder_fits c.args.path.now c.folder_of-folder.result.now (length c.args.path.now) c.folder_of-folder.ensures (le_refl (length c.args.path.now)))

pub returns-then-ends_in-clause-means : goal.returns-then-ends_in-clause-means
returns-then-ends_in-clause-means g c = λ honest.
    meant_last (g.F.Files.folder c.args.files.now) c.args.path.now c.folder_of-folder.result.now (sym c.is_kept_name.ensures ∙ c.if-is_kept_name.false) c.folder_of-folder.ensures
    (sym c.in_ok-is_named.ensures ∙ c.if-branch.false) true (sym c.in_ok-is_named-2.ensures ∙ c.if-branch-2.false) (sym c.ends_in.ensures ∙ c.if-ends_in.true)

pub returns-clause-means : goal.returns-clause-means
returns-clause-means g c = λ honest.
    meant_last (g.F.Files.folder c.args.files.now) c.args.path.now c.folder_of-folder.result.now (sym c.is_kept_name.ensures ∙ c.if-is_kept_name.false) c.folder_of-folder.ensures
    (sym c.in_ok-is_named.ensures ∙ c.if-branch.false) false (sym c.in_ok-is_named-2.ensures ∙ c.if-branch-2.false) (sym c.ends_in.ensures ∙ c.if-ends_in.false)
