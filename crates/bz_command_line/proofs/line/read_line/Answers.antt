use Rattle.bz_command_line.proofs.Words.{[], ◌≡◌, Err, IfErr, IfOk, IfSome, line_in, line_usage_in, List, map, Ok, refl, Result, subst, true}
use Rattle.clap.specs.Words.{App, HasMatchesOf, Text, app_of, fault_of, found_of, is_simple_and_free, matches_of, rows_of}
use Rattle.clap.specs.declared.parser.matches.ArgMatches.{ArgMatches}
use Rattle.bz_command_line.specs.{App.buildozer_app, Line.CommandLine, Line.LineUsage, Line.command_line_of, Line.line_of}
use Rattle.bz_command_line.proofs.line.read_line.Goals as goal

-- words in which clap finds no fault
matched : (app : App) (words : List Text) (matches : ArgMatches) → app ≡ buildozer_app → HasMatchesOf app words matches
    → (is_simple_and_free app ≡ true → fault_of app words ≡ [])
    → line_of (rows_of (found_of matches)) ≡ command_line_of words
matched app words matches is has free =
    let fine : fault_of buildozer_app words ≡ [] = subst (λ (other : App). is_simple_and_free other ≡ true → fault_of other words ≡ []) is free refl in
    let rows : rows_of (found_of matches) ≡ matches_of buildozer_app words = (subst (λ (other : App). HasMatchesOf other words matches) is has refl).0 in
    rw (rows, fine) refl

pub returns-in-Ok-try_get_matches_from : goal.returns-in-Ok-try_get_matches_from
returns-in-Ok-try_get_matches_from g c =
    let read = matched (app_of c.in-Ok.command) (map g.S.AsStr.text c.args.words.now) c.in-Ok-try_get_matches_from.matches c.in-Ok.ensures
    c.in-Ok-try_get_matches_from.ensures.matches c.in-Ok-try_get_matches_from.ensures.kinds in
    record {
      ok = subst (λ (it : Result CommandLine LineUsage). IfOk c.of_matches.result (λ line. it ≡ Ok (line_in line))) read c.of_matches.ensures.ok;
      err = subst (λ (it : Result CommandLine LineUsage). IfErr c.of_matches.result (λ fault. IfSome (line_usage_in fault) (λ usage. it ≡ Err usage))) read c.of_matches.ensures.err;
    }
