-- A run that goes on.
use Rattle.bz_journal.proofs.Words.{[], ◌++◌, ◌+◌, ◌<◌, ◌∙◌, ◌∷◌, ◌≡◌, Action, action_in, Acts, Answer, ap, get_or, History, length, List, map, map-append, refl, Runs, subst, sym, take, take_more, ℕ}
use Rattle.bz_journal.specs.declared.action.Action as d

-- by one action
pub run_more : (h : History) (actions : List Action) (answers : List Answer) (mid : History) (action : Action) (answer : Answer) (after : History)
    → Runs h actions answers mid → Acts action [] mid answer after → Runs h (actions ++ action ∷ []) (answers ++ answer ∷ []) after
run_more h [] [] mid action answer after run act = (after, subst (λ (m : History). Acts action [] m answer after) run act, refl)
run_more h [] (x ∷ answers) mid action answer after run act = absurd run
run_more h (a ∷ actions) [] mid action answer after run act = absurd run
run_more h (a ∷ actions) (x ∷ answers) mid action answer after run act = (run.0, run.1, run_more run.0 actions answers mid action answer after run.2 act)

-- the same of actions that borrow, up to one of a list
pub run_turn : (h : History) (xs : List d.Action) (k : ℕ) (x : d.Action) (answers : List Answer) (mid : History) (answer : Answer) (after : History)
    → k < length xs → x ≡ get_or xs k x → Runs h (map action_in (take k xs)) answers mid → Acts (action_in x) [] mid answer after
    → Runs h (map action_in (take (k + 1) xs)) (answers ++ answer ∷ []) after
run_turn h xs k x answers mid answer after l is run act =
    let next : map action_in (take (k + 1) xs) ≡ map action_in (take k xs) ++ action_in x ∷ [] =
    ap (map action_in) (take_more xs k x l ∙ ap (λ (y : d.Action). take k xs ++ y ∷ []) (sym is)) ∙ map-append action_in (take k xs) (x ∷ []) in
    subst (λ (actions : List Action). Runs h actions (answers ++ answer ∷ []) after) (sym next)
    (run_more h (map action_in (take k xs)) answers mid (action_in x) answer after run act)
