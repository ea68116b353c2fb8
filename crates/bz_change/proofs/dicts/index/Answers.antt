use Rattle.bz_change.proofs.Words.{◌∙◌, ◌≡◌, AreIndexed, arith, bytes_eq, false, is_some, None, place_at, rules, Some, subst, sym, take_all, true, true≢false}
use Rattle.bz_change.proofs.KeyPlaces.{pushed, known, fresh, same_found, key_placed}
use Rattle.bz_change.proofs.dicts.index.Goals as goal

pub loop-at-preserved-in_default : goal.loop-at-preserved-in_default
loop-at-preserved-in_default c =
    pushed c.loop-at.places c.loop-at.places c.args.items.now c.index-items-at.result None c.loop-at.at (omega arith) c.index-items-at.is (search rules) c.loop-at.invariant
    (λ key. known (place_at c.loop-at.places key) false c.loop-at.at (λ h. absurd (true≢false (sym h))))

pub loop-at-preserved-then-contains_key : goal.loop-at-preserved-then-contains_key
loop-at-preserved-then-contains_key c =
    let own = c.in-Some.key.now in
    let there : is_some (place_at c.loop-at.places own) ≡ true = search rules in
    pushed c.loop-at.places c.loop-at.places c.args.items.now c.index-items-at.result (Some own) c.loop-at.at (omega arith) c.index-items-at.is (search rules) c.loop-at.invariant
    (λ key. known (place_at c.loop-at.places key) (bytes_eq own key) c.loop-at.at (λ same. same_found c.loop-at.places own key same ∙ there))

pub loop-at-preserved : goal.loop-at-preserved
loop-at-preserved c =
    let own = c.in-Some.key.now in
    let none : is_some (place_at c.loop-at.places own) ≡ false = search rules in
    pushed c.loop-at.places c.insert.new.self c.args.items.now c.index-items-at.result (Some own) c.loop-at.at (omega arith) c.index-items-at.is (search rules) c.loop-at.invariant
    (λ key. key_placed c.loop-at.places c.insert.new.self c.in_ok-copy.copy own key c.loop-at.at c.in_ok-copy.ensures.items c.in_ok-insert.ensures.updates
    ∙ fresh (place_at c.loop-at.places key) (bytes_eq own key) c.loop-at.at (λ same. same_found c.loop-at.places own key same ∙ none))

pub returns : goal.returns
returns c = subst (AreIndexed c.loop-at.places) (take_all c.loop-at.at c.args.items.now (omega arith)) c.loop-at.invariant
