use Rattle.bz_token.proofs.Words.{◌∙◌, ◌≡◌, ◌≤◌, ap, before_third, drop, false, length, length-take-le, rules, State, sym, TokenAt, true, ℕ}
use Rattle.bz_token.proofs.{Boundaries.boundary_at, Tokens.front_of, Tokens.none_token, Tokens.no_class, Tokens.third_token, Tokens.some_token, Tokens.whole_rest, Glances.found_boundary}
use Rattle.bz_token.proofs.scan.token.Goals as goal

pub returns-then-is_some-clause-boundary : goal.returns-then-is_some-clause-boundary
returns-then-is_some-clause-boundary c = found_boundary c.args.text.now c.glance-found.result c.glance-found.ensures

pub returns-in_err-state-clause-exact : goal.returns-in_err-state-clause-exact
returns-in_err-state-clause-exact c = rw c.from_residual.ensures (none_token c.args.text.now c.in_err-state.ensures)

pub slice_bounds-before_third-count : goal.slice_bounds-before_third-count
slice_bounds-before_third-count c = (front_of c.args.text.now (c.in_ok-state.state, c.in_ok-state.len) c.in_ok-state.ensures).within

pub slice_bounds-before_third-start : goal.slice_bounds-before_third-start
slice_bounds-before_third-start c =
    let w : c.in_ok-state.len ≤ length c.args.text.now = (front_of c.args.text.now (c.in_ok-state.state, c.in_ok-state.len) c.in_ok-state.ensures).within in
    search rules

pub returns-then-before_third-clause-exact : goal.returns-then-before_third-clause-exact
returns-then-before_third-clause-exact c =
    let x : State × ℕ = (c.in_ok-state.state, c.in_ok-state.len) in
    let w = (front_of c.args.text.now x c.in_ok-state.ensures).within in
    let e : before_third c.in_ok-state.state (drop c.in_ok-state.len c.args.text.now) ≡ true =
    sym (ap (before_third c.in_ok-state.state) (whole_rest c.args.text.now c.in_ok-state.len w)) ∙ (sym c.before_third.ensures ∙ c.if-before_third.true) in
    third_token c.args.text.now x c.in_ok-state.ensures e

pub returns-in_err-class-clause-exact : goal.returns-in_err-class-clause-exact
returns-in_err-class-clause-exact c =
    absurd (no_class c.args.text.now (c.in_ok-state.state, c.in_ok-state.len) c.in_ok-state.ensures c.in_err-class.ensures)

pub slice_bounds-keyword_or_name-end : goal.slice_bounds-keyword_or_name-end
slice_bounds-keyword_or_name-end c =
    let w : c.in_ok-state.len ≤ length c.args.text.now = (front_of c.args.text.now (c.in_ok-state.state, c.in_ok-state.len) c.in_ok-state.ensures).within in
    sym (length-take-le c.in_ok-state.len c.args.text.now w)

token_at : (c : goal.After-keyword_or_name-class) → TokenAt c.keyword_or_name-class.result c.in_ok-state.len c.args.text.now
token_at c =
    let x : State × ℕ = (c.in_ok-state.state, c.in_ok-state.len) in
    let w = (front_of c.args.text.now x c.in_ok-state.ensures).within in
    let e : before_third c.in_ok-state.state (drop c.in_ok-state.len c.args.text.now) ≡ false =
    sym (ap (before_third c.in_ok-state.state) (whole_rest c.args.text.now c.in_ok-state.len w)) ∙ (sym c.before_third.ensures ∙ c.if-before_third.false) in
    let t = some_token c.args.text.now x c.in_ok-class.field-0 c.in_ok-state.ensures e c.in_ok-class.ensures in
    (t.0, rw c.keyword_or_name-class.ensures t.1)

pub returns-clause-exact : goal.returns-clause-exact
returns-clause-exact c = token_at c

pub returns-clause-boundary : goal.returns-clause-boundary
returns-clause-boundary c = boundary_at c.keyword_or_name-class.result c.in_ok-state.len c.args.text.now (token_at c)
