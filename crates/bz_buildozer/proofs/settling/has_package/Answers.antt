use Rattle.bz_buildozer.proofs.Words.{◌||◌, ◌∙◌, ◌≡◌, ap, Bool, false, first_name, get, IfOk, is_some, second_name, subst, sym}
use Rattle.bz_buildozer.proofs.settling.has_package.Goals as goal

pub returns-then-branch : goal.returns-then-branch
returns-then-branch g c = λ honest.
    ap (λ (b : Bool). b || is_some (get (g.F.Files.folder c.args.files.now) (second_name c.args.package.now))) (sym c.if-branch.true ∙ c.in_ok-has_in.ensures honest)

pub returns : goal.returns
returns g c = λ honest.
    let folder = g.F.Files.folder c.args.files.now in
    let none : is_some (get folder (first_name c.args.package.now)) ≡ false = sym (c.in_ok-has_in.ensures honest) ∙ c.if-branch.false in
    subst (λ (b : Bool). IfOk c.has_in-2.result (λ has. has ≡ (b || is_some (get folder (second_name c.args.package.now))))) (sym none) (c.has_in-2.ensures honest)
