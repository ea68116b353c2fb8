use Rattle.bz_build_format.proofs.Words.{◌∙◌, ap, Node, Reads, sym}
use Rattle.bz_build_format.proofs.{Lines.lines_of_read, Windowed.ok_gives}
use Rattle.bz_build_format.proofs.reading.lines_read.Goals as goal

pub returns : goal.returns
returns c =
    lines_of_read c.lines_join.ensures.build c.args.text.now c.in_ok-tree.tree c.tree.inside.root.parts c.pop.new.self c.pop.result (ok_gives (λ tree. Reads c.args.text.now tree) c.parse.result c.in_ok-tree.tree (sym c.ok.ensures.value ∙ c.in_ok-tree.was) c.parse.ensures.ok) (c.ends_with_line.ensures c.if-not-ends_with_line.false)
    (ap (λ (n : Node). n.parts) c.tree.view_is) c.pop.ensures
