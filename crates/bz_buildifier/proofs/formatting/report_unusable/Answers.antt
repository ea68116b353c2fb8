use Rattle.bz_buildifier.proofs.Words.{codes, mode_in_place, mode_names, nearest, no_mode, no_type, no_word_line, refl, type_in_place, type_names}
use Rattle.bz_buildifier.proofs.formatting.report_unusable.Goals as goal

pub returns-in_ok-near-in-NoMode-clause-ok : goal.returns-in_ok-near-in-NoMode-clause-ok
returns-in_ok-near-in-NoMode-clause-ok g c = λ usage.
    let name = c.in-NoMode.name.now in (
      no_mode name,
      no_word_line (codes "mode") name (nearest name mode_names) (mode_in_place name),
      (rw c.in-NoMode.is at usage),
      refl,
      (rw (c.in_ok-near-in-NoMode.ensures, c.mode_in_place.ensures) at c.report_no_word.ensures),
    )

pub returns-in_ok-near-in-NoType-clause-ok : goal.returns-in_ok-near-in-NoType-clause-ok
returns-in_ok-near-in-NoType-clause-ok g c = λ usage.
    let name = c.in-NoType.name.now in (
      no_type name,
      no_word_line (codes "type") name (nearest name type_names) (type_in_place name),
      (rw c.in-NoType.is at usage),
      refl,
      (rw (c.in_ok-near-in-NoType.ensures, c.type_in_place.ensures) at c.report_no_word-in-NoType.ensures),
    )
