use Rattle.bz_buildozer.proofs.Words.{◌||◌, ◌∙◌, ◌≡◌, Bool, codes, false, has_file, IfOk, subst, sym}
use Rattle.bz_buildozer.proofs.rooting.is_root.Goals as goal

pub returns : goal.returns
returns g c = λ honest.
    let has : _ = has_file (g.F.Files.folder c.args.files.now) c.args.path.now in
    let none : has (codes "MODULE.bazel") || has (codes "REPO.bazel") ≡ false = sym (c.in_ok-has_either.ensures honest) ∙ c.if-branch.false in
    subst (λ (b : Bool). IfOk c.has_either-2.result (λ is. is ≡ (b || (has (codes "WORKSPACE.bazel") || has (codes "WORKSPACE"))))) (sym none) (c.has_either-2.ensures honest)
