use Rattle.bz_buildozer.proofs.Words.{◌+◌, ◌-◌, ◌∙◌, ◌≡◌, ap, false, is_root, root_from, string_bytes, sym, true}
use Rattle.bz_buildozer.proofs.RootsAbove.{found_above, found_here, found_nowhere}
use Rattle.bz_buildozer.proofs.rooting.root_from.Goals as goal

pub returns-then-branch : goal.returns-then-branch
returns-then-branch g c = λ honest.
    let folder = g.F.Files.folder c.args.files.now in
    let is : is_root folder (string_bytes c.loop.path) ≡ true =
    ap (is_root folder) (sym c.as_str.ensures.value) ∙ sym (c.in_ok-is_root.ensures honest) ∙ c.if-branch.true in
    sym (c.loop.invariant honest ∙ found_here folder 16 c.loop.counter (string_bytes c.loop.path) c.loop-test.true is)

pub loop-preserved : goal.loop-preserved
loop-preserved g c = λ honest.
    let folder = g.F.Files.folder c.args.files.now in
    let is : is_root folder (string_bytes c.loop.path) ≡ false =
    ap (is_root folder) (sym c.as_str.ensures.value) ∙ sym (c.in_ok-is_root.ensures honest) ∙ c.if-branch.false in
    c.loop.invariant honest ∙ found_above folder 16 c.loop.counter (string_bytes c.loop.path) c.loop-test.true is
    ∙ ap (root_from (16 - (c.loop.counter + 1)) folder) (sym c.in_ok-push_str.ensures.bytes)

pub returns : goal.returns
returns g c = λ honest.
    sym (c.loop.invariant honest ∙ found_nowhere (g.F.Files.folder c.args.files.now) 16 c.loop.counter (string_bytes c.loop.path) c.loop-test.false)
