use Rattle.std.proofs.Common.{ℕ, ◌≡◌, ◌∷◌, ◌+◌, suc, List, ap, ◌∙◌, arith, replicate}
use Rattle.bz_items.specs.Characters.{line_feed, space}
use Rattle.bz_items.proofs.Blanks.{first_bytes, first_spaces}
use Rattle.bz_items.proofs.gap.longest_line.Goals as goal

pub returns-clause-line : goal.returns-clause-line
returns-clause-line c = λ count within.
    let total : count + 1 ≡ suc count = omega arith in
    first_bytes count (count + 1) line_feed (replicate 255 space) total ∙ ap (λ (spaces : List ℕ). line_feed ∷ spaces) (first_spaces count within)

pub returns-clause-spaces : goal.returns-clause-spaces
returns-clause-spaces c = first_spaces
