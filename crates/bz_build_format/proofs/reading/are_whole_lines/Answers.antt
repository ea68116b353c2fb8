use Rattle.bz_build_format.proofs.Words.{[], ◌++◌, ◌∙◌, ◌∷◌, ap, Part, rules}
use Rattle.bz_build_format.proofs.Lines.{whole_lines}
use Rattle.bz_build_format.proofs.reading.are_whole_lines.Goals as goal

pub returns-in-Some-Leaf-default : goal.returns-in-Some-Leaf-default
returns-in-Some-Leaf-default c t =
    let last = c.in-Some-Leaf-default in
    whole_lines c.args.parts.now c.in-Some.field-0-1.now c.as_slice.result.now c.in-Some.last.now c.in-Node.line c.in-Some.ensures.cases.0 c.in-Node.is c.as_slice.ensures
    (last.field-0-1.now, _, last.ensures.cases.0 ∙ ap (λ (x : Part). last.field-0-1.now ++ x ∷ []) last.field-0-0-is, search rules)
