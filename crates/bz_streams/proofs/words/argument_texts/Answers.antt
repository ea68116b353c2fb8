use Rattle.bz_streams.proofs.Imported.{[], ◌∙◌, ◌≡◌, found_of, IfOk, List, map, Option, raw_values-rows, rules, subst, unwrap_or, ℕ}
use Rattle.bz_streams.proofs.words.argument_texts.Goals as goal

pub returns-in-Some : goal.returns-in-Some
returns-in-Some c =
    subst (λ (found : Option (List (List ℕ))). IfOk c.from_slice.result (λ texts. map (λ s. s.now) texts.items ≡ unwrap_or found []))
    (c.in-Some.ensures ∙ raw_values-rows (found_of c.args.matches.now) c.args.id.now) (search rules)

pub returns-in-None : goal.returns-in-None
returns-in-None c =
    subst (λ (found : Option (List (List ℕ))). map (λ s. s.now) c.new.result.items ≡ unwrap_or found [])
    (c.in-None.ensures ∙ raw_values-rows (found_of c.args.matches.now) c.args.id.now) (search rules)
