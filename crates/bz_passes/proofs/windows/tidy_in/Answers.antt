use Rattle.bz_passes.proofs.Words.{◌∙◌, AreBuild, build_grammar, build_values_proper, IsProper, IsProperBuild, IsProperItemIn, Item, List, subst, sym, tidied_over, Window}
use Rattle.bz_passes.proofs.{EachChanged.put_back, Pieces.over_all, Pieces.over_length, ProperPasses.passed_proper}
use Rattle.bz_passes.proofs.windows.tidy_in.Goals as goal

over_proper : (ws : List Window) (file : List Item) → IsProper file → AreBuild file → IsProperBuild (tidied_over ws file)
over_proper ws file h b = (build_values_proper (tidied_over ws file)).0 (over_all (IsProperItemIn build_grammar) passed_proper ws file ((build_values_proper file).1 (h, b)))

pub invariant_of-file-2 : goal.invariant_of-file-2
invariant_of-file-2 c =
    let ws = c.args.windows.now in
    let file = c.args.file.now in
    let made = put_back (tidied_over ws) file _ _ _ (over_length ws file c.requires.within) c.in_ok-tidy_each.ensures c.as_mut_slice.ensures.value (c.replace-items.ensures.value ∙ c.file.view_is) in
    subst IsProper (sym made) (over_proper ws file (subst IsProper c.file.view_is c.file.invariant) c.requires.build).0

pub returns-clause-build : goal.returns-clause-build
returns-clause-build c =
    let ws = c.args.windows.now in
    let file = c.args.file.now in
    let made = put_back (tidied_over ws) file _ _ _ (over_length ws file c.requires.within) c.in_ok-tidy_each.ensures c.as_mut_slice.ensures.value (c.replace-items.ensures.value ∙ c.file.view_is) in
    subst AreBuild (sym made) (over_proper ws file (subst IsProper c.file.view_is c.file.invariant) c.requires.build).1
