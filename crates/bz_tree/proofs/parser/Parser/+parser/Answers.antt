use Rattle.bz_tree.proofs.Words.{[], ◌++◌, ◌∙◌, ◌∷◌, ◌≡◌, ◌≤◌, ap, arith, drop, found_from, Kind as k, List, node_part, NodeState, NodeState as s, nonterminal_of, Part, part_at, PartNonterminal as q, refl, rules, sym, Tail as in_rest, terminals_of, token_at, TokenSet as token}
use Rattle.bz_states.specs.declared.state.LambdaAt.TheVariants as lambda_at
use Rattle.bz_tree.proofs.Deepest.{made_depth, leaf_depth}
use Rattle.bz_tree.proofs.Moves.{finishes, takes, takes_none, reads, reads_none, chooses_left, chooses_right, fewer_taken, fewer_read, fewer_left, fewer_right}
use Rattle.bz_tree.proofs.Climbs.{handed_on, inside, level_is, argument_is, entry_is, clause_is, first_clause_is, small_is, line_is, alias_is, loaded_is, part_depth, level_prefix, atom_round, atom_square, atom_curly, atom_leaf, primary_atom, primary_none, suffix_stops, suffix_goes, suffix_shorter, star_is, argument_none, argument_odd, argument_stays, argument_named, param_is, starred_is, param_none, param_stays, param_valued}
use Rattle.bz_tree.proofs.Listed.{more_ends, more_none, more_goes, square_unopened, square_empty, square_none, square_for, square_more, front_none, part_none, both_read, row_ends, item_none, item_last, separator_none, item_next, item_shorter}
use Rattle.bz_tree.proofs.Pushed.{within_all, deepest_open, fitted_same, carry_ok, carry_err, added, take_push, within_push, deepest_more, drop_last, take_last, get_last, begins_last, depth_one, fits, unfit, fitted_begun, fitted_some, stays_last, suffix_fails}
use Rattle.bz_tree.proofs.Rises.{from_parts, not_from, bound_infix, bound_other, bound_goes, bound_none, risen_end, passed, plain, starts_risen, starts_none}
use Rattle.bz_tree.proofs.parser.Parser.+parser.Goals as goal

pub part-returns-in-Entry-clause-ok : goal.part-returns-in-Entry-clause-ok
part-returns-in-Entry-clause-ok t c = carry_ok _ _ _ _ _ _ _ (inside _ _ _ _ _ c.in-Entry.is c.if-depth-eq0.false (entry_is _ _)) (refl) c.begin-in-Entry.ensures.ok

pub part-returns-in-Entry-clause-err : goal.part-returns-in-Entry-clause-err
part-returns-in-Entry-clause-err t c = carry_err _ _ _ (inside _ _ _ _ _ c.in-Entry.is c.if-depth-eq0.false (entry_is _ _)) c.begin-in-Entry.ensures.err

pub part-returns-in-Clause-clause-ok : goal.part-returns-in-Clause-clause-ok
part-returns-in-Clause-clause-ok t c = carry_ok _ _ _ _ _ _ _ (inside _ _ _ _ _ c.in-Clause.is c.if-depth-eq0.false (clause_is _ _)) (refl) c.begin-in-Clause.ensures.ok

pub part-returns-in-Clause-clause-err : goal.part-returns-in-Clause-clause-err
part-returns-in-Clause-clause-err t c = carry_err _ _ _ (inside _ _ _ _ _ c.in-Clause.is c.if-depth-eq0.false (clause_is _ _)) c.begin-in-Clause.ensures.err

pub part-returns-in-FirstClause-clause-ok : goal.part-returns-in-FirstClause-clause-ok
part-returns-in-FirstClause-clause-ok t c = carry_ok _ _ _ _ _ _ _ (inside _ _ _ _ _ c.in-FirstClause.is c.if-depth-eq0.false (first_clause_is _ _)) (refl) c.begin-in-FirstClause.ensures.ok

pub part-returns-in-FirstClause-clause-err : goal.part-returns-in-FirstClause-clause-err
part-returns-in-FirstClause-clause-err t c = carry_err _ _ _ (inside _ _ _ _ _ c.in-FirstClause.is c.if-depth-eq0.false (first_clause_is _ _)) c.begin-in-FirstClause.ensures.err

pub part-returns-in-Small-clause-ok : goal.part-returns-in-Small-clause-ok
part-returns-in-Small-clause-ok t c = carry_ok _ _ _ _ _ _ _ (inside _ _ _ _ _ c.in-Small.is c.if-depth-eq0.false (small_is _ _ ∙ sym (c.small_state.ensures _))) (refl) c.begin-in-Small.ensures.ok

pub part-returns-in-Small-clause-err : goal.part-returns-in-Small-clause-err
part-returns-in-Small-clause-err t c = carry_err _ _ _ (inside _ _ _ _ _ c.in-Small.is c.if-depth-eq0.false (small_is _ _ ∙ sym (c.small_state.ensures _))) c.begin-in-Small.ensures.err

pub part-returns-in-Line-clause-ok : goal.part-returns-in-Line-clause-ok
part-returns-in-Line-clause-ok t c = carry_ok _ _ _ _ _ _ _ (inside _ _ _ _ _ c.in-Line.is c.if-depth-eq0.false (line_is _ _)) (refl) c.begin-in-Line.ensures.ok

pub part-returns-in-Line-clause-err : goal.part-returns-in-Line-clause-err
part-returns-in-Line-clause-err t c = carry_err _ _ _ (inside _ _ _ _ _ c.in-Line.is c.if-depth-eq0.false (line_is _ _)) c.begin-in-Line.ensures.err

pub part-returns-in-Level-clause-ok : goal.part-returns-in-Level-clause-ok
part-returns-in-Level-clause-ok t c = carry_ok _ _ _ _ _ _ _ (inside _ _ _ _ _ c.in-Level.is c.if-depth-eq0.false (level_is _ _ _)) (refl) c.expression.ensures.ok

pub part-returns-in-Level-clause-err : goal.part-returns-in-Level-clause-err
part-returns-in-Level-clause-err t c = carry_err _ _ _ (inside _ _ _ _ _ c.in-Level.is c.if-depth-eq0.false (level_is _ _ _)) c.expression.ensures.err

pub part-returns-in-Argument-clause-ok : goal.part-returns-in-Argument-clause-ok
part-returns-in-Argument-clause-ok t c = carry_ok _ _ _ _ _ _ _ (inside _ _ _ _ _ c.in-Argument.is c.if-depth-eq0.false (argument_is _ _)) (refl) c.argument.ensures.ok

pub part-returns-in-Argument-clause-err : goal.part-returns-in-Argument-clause-err
part-returns-in-Argument-clause-err t c = carry_err _ _ _ (inside _ _ _ _ _ c.in-Argument.is c.if-depth-eq0.false (argument_is _ _)) c.argument.ensures.err

pub part-returns-then-next_is-clause-ok : goal.part-returns-then-next_is-clause-ok
part-returns-then-next_is-clause-ok t c = carry_ok _ _ _ _ _ _ _ (inside _ _ _ _ _ c.in-Loaded.is c.if-depth-eq0.false (alias_is _ _ (sym c.next_is.ensures ∙ c.if-next_is.true))) (refl) c.begin.ensures.ok

pub part-returns-then-next_is-clause-err : goal.part-returns-then-next_is-clause-err
part-returns-then-next_is-clause-err t c = carry_err _ _ _ (inside _ _ _ _ _ c.in-Loaded.is c.if-depth-eq0.false (alias_is _ _ (sym c.next_is.ensures ∙ c.if-next_is.true))) c.begin.ensures.err

pub part-returns-else-next_is-clause-ok : goal.part-returns-else-next_is-clause-ok
part-returns-else-next_is-clause-ok t c = carry_ok _ _ _ _ _ _ _ (inside _ _ _ _ _ c.in-Loaded.is c.if-depth-eq0.false (loaded_is _ _ (sym c.next_is.ensures ∙ c.if-next_is.false))) (refl) c.take.ensures.ok

pub part-returns-else-next_is-clause-err : goal.part-returns-else-next_is-clause-err
part-returns-else-next_is-clause-err t c = carry_err _ _ _ (inside _ _ _ _ _ c.in-Loaded.is c.if-depth-eq0.false (loaded_is _ _ (sym c.next_is.ensures ∙ c.if-next_is.false))) c.take.ensures.err

pub atom-returns-then-next_is-clause-ok : goal.atom-returns-then-next_is-clause-ok
atom-returns-then-next_is-clause-ok t c = carry_ok _ _ _ _ _ _ _ (atom_round _ _ (sym c.next_is.ensures ∙ c.if-next_is.true)) (refl) c.begin.ensures.ok

pub atom-returns-then-next_is-clause-err : goal.atom-returns-then-next_is-clause-err
atom-returns-then-next_is-clause-err t c = carry_err _ _ _ (atom_round _ _ (sym c.next_is.ensures ∙ c.if-next_is.true)) c.begin.ensures.err

pub atom-returns-then-next_is-2-clause-ok : goal.atom-returns-then-next_is-2-clause-ok
atom-returns-then-next_is-2-clause-ok t c = carry_ok _ _ _ _ _ _ _ (atom_square _ _ (sym c.next_is.ensures ∙ c.if-next_is.false) (sym c.next_is-else-next_is.ensures ∙ c.if-next_is-2.true)) (refl) c.square.ensures.ok

pub atom-returns-then-next_is-2-clause-err : goal.atom-returns-then-next_is-2-clause-err
atom-returns-then-next_is-2-clause-err t c = carry_err _ _ _ (atom_square _ _ (sym c.next_is.ensures ∙ c.if-next_is.false) (sym c.next_is-else-next_is.ensures ∙ c.if-next_is-2.true)) c.square.ensures.err

pub atom-returns-then-next_is-3-clause-ok : goal.atom-returns-then-next_is-3-clause-ok
atom-returns-then-next_is-3-clause-ok t c = carry_ok _ _ _ _ _ _ _ (atom_curly _ _ (sym c.next_is.ensures ∙ c.if-next_is.false) (sym c.next_is-else-next_is.ensures ∙ c.if-next_is-2.false) (sym c.next_is-else-next_is-2.ensures ∙ c.if-next_is-3.true)) (refl) c.begin-then-next_is-3.ensures.ok

pub atom-returns-then-next_is-3-clause-err : goal.atom-returns-then-next_is-3-clause-err
atom-returns-then-next_is-3-clause-err t c = carry_err _ _ _ (atom_curly _ _ (sym c.next_is.ensures ∙ c.if-next_is.false) (sym c.next_is-else-next_is.ensures ∙ c.if-next_is-2.false) (sym c.next_is-else-next_is-2.ensures ∙ c.if-next_is-3.true)) c.begin-then-next_is-3.ensures.err

pub atom-returns-else-next_is-3-clause-ok : goal.atom-returns-else-next_is-3-clause-ok
atom-returns-else-next_is-3-clause-ok t c = carry_ok _ _ _ _ _ _ _ (atom_leaf _ _ (sym c.next_is.ensures ∙ c.if-next_is.false) (sym c.next_is-else-next_is.ensures ∙ c.if-next_is-2.false) (sym c.next_is-else-next_is-2.ensures ∙ c.if-next_is-3.false)) (refl) c.take.ensures.ok

pub atom-returns-else-next_is-3-clause-err : goal.atom-returns-else-next_is-3-clause-err
atom-returns-else-next_is-3-clause-err t c = carry_err _ _ _ (atom_leaf _ _ (sym c.next_is.ensures ∙ c.if-next_is.false) (sym c.next_is-else-next_is.ensures ∙ c.if-next_is-2.false) (sym c.next_is-else-next_is-2.ensures ∙ c.if-next_is-3.false)) c.take.ensures.err

pub argument-returns-then-next_is-clause-ok : goal.argument-returns-then-next_is-clause-ok
argument-returns-then-next_is-clause-ok t c = carry_ok _ _ _ _ _ _ _ (star_is _ _ (sym c.next_is.ensures ∙ c.if-next_is.true)) (refl) c.begin.ensures.ok

pub argument-returns-then-next_is-clause-err : goal.argument-returns-then-next_is-clause-err
argument-returns-then-next_is-clause-err t c = carry_err _ _ _ (star_is _ _ (sym c.next_is.ensures ∙ c.if-next_is.true)) c.begin.ensures.err

pub argument-returns-in_err-deep-clause-err : goal.argument-returns-in_err-deep-clause-err
argument-returns-in_err-deep-clause-err t c = handed_on _ _ _ _ c.from_residual.ensures.1 c.in_err-deep.ensures.err (λ n. argument_none _ _ (sym c.next_is.ensures ∙ c.if-next_is.false) n)

pub argument-returns-then-not-next_is-clause-ok : goal.argument-returns-then-not-next_is-clause-ok
argument-returns-then-not-next_is-clause-ok t c = (c.in_ok-deep.ensures.ok.0, argument_stays _ _ _ _ (sym c.next_is.ensures ∙ c.if-next_is.false) c.in_ok-deep.ensures.ok.1 (sym c.next_is-2.ensures ∙ c.if-not-next_is.true), c.in_ok-deep.ensures.ok.2, c.in_ok-deep.ensures.ok.3)

pub argument-returns-then-not-is_name_at-clause-err : goal.argument-returns-then-not-is_name_at-clause-err
argument-returns-then-not-is_name_at-clause-err t c = argument_odd _ _ _ _ (sym c.next_is.ensures ∙ c.if-next_is.false) c.in_ok-deep.ensures.ok.1 (sym c.next_is-2.ensures ∙ c.if-not-next_is.false) (sym (c.is_name_at.ensures c.in_ok-deep.ensures.ok.0 (get_last _ _ _ _ c.in_ok-deep.ensures.ok.2 c.len-from.ensures)) ∙ c.if-not-is_name_at.true)

pub argument-returns-clause-ok : goal.argument-returns-clause-ok
argument-returns-clause-ok t c = carry_ok _ _ _ _ _ _ _ (argument_named _ _ _ _ (sym c.next_is.ensures ∙ c.if-next_is.false) c.in_ok-deep.ensures.ok.1 (sym (c.is_name_at.ensures c.in_ok-deep.ensures.ok.0 (get_last _ _ _ _ c.in_ok-deep.ensures.ok.2 c.len-from.ensures)) ∙ c.if-not-is_name_at.false) ∙ fitted_begun _ _ _ _ _ _ _ (drop_last _ _ _ _ c.in_ok-deep.ensures.ok.2 c.len-from.ensures) c.in_ok-deep.ensures.ok.3 (sym c.next_is-2.ensures ∙ c.if-not-next_is.false)) (take_last _ _ _ _ c.in_ok-deep.ensures.ok.2 c.len-from.ensures) c.go_on.ensures.ok

pub argument-returns-clause-err : goal.argument-returns-clause-err
argument-returns-clause-err t c = carry_err _ _ _ (argument_named _ _ _ _ (sym c.next_is.ensures ∙ c.if-next_is.false) c.in_ok-deep.ensures.ok.1 (sym (c.is_name_at.ensures c.in_ok-deep.ensures.ok.0 (get_last _ _ _ _ c.in_ok-deep.ensures.ok.2 c.len-from.ensures)) ∙ c.if-not-is_name_at.false) ∙ fitted_begun _ _ _ _ _ _ _ (drop_last _ _ _ _ c.in_ok-deep.ensures.ok.2 c.len-from.ensures) c.in_ok-deep.ensures.ok.3 (sym c.next_is-2.ensures ∙ c.if-not-next_is.false)) c.go_on.ensures.err

pub begin-returns-clause-ok : goal.begin-returns-clause-ok
begin-returns-clause-ok t c = carry_ok _ _ _ _ _ _ _ (ap (λ (ps : List Part). found_from c.args.depth ps c.args.state c.args.self.now.leaves) (sym (begins_last _ _ c.len-from.ensures).0)) ((begins_last _ _ c.len-from.ensures).1) c.follow.ensures.ok

pub begin-returns-clause-err : goal.begin-returns-clause-err
begin-returns-clause-err t c = carry_err _ _ _ (ap (λ (ps : List Part). found_from c.args.depth ps c.args.state c.args.self.now.leaves) (sym (begins_last _ _ c.len-from.ensures).0)) c.follow.ensures.err

pub go_on-returns-in-Some-clause-err : goal.go_on-returns-in-Some-clause-err
go_on-returns-in-Some-clause-err t c = unfit _ _ _ _ _ (omega arith)

pub go_on-returns-in_default-clause-err : goal.go_on-returns-in_default-clause-err
go_on-returns-in_default-clause-err t c = unfit _ _ _ _ _ (omega arith)

pub go_on-returns-in-Rest-default-TokenPart-clause-ok : goal.go_on-returns-in-Rest-default-TokenPart-clause-ok
go_on-returns-in-Rest-default-TokenPart-clause-ok t c =
    let same : c.args.state ≡ s.Rest c.in-Rest-default-TokenPart.kind (in_rest.TokenPart c.in-Rest-default-TokenPart.token c.in-Rest-default-TokenPart.nonterminal) = search rules in
    carry_ok _ _ _ _ _ _ _ (fits _ _ _ _ _ (omega arith) ∙ ap (λ (state : NodeState). found_from c.args.depth (drop c.args.from c.args.self.now.stack) state c.args.self.now.leaves) same) refl c.token_and_part.ensures.ok

pub go_on-returns-in-Rest-default-TokenPart-clause-err : goal.go_on-returns-in-Rest-default-TokenPart-clause-err
go_on-returns-in-Rest-default-TokenPart-clause-err t c =
    let same : c.args.state ≡ s.Rest c.in-Rest-default-TokenPart.kind (in_rest.TokenPart c.in-Rest-default-TokenPart.token c.in-Rest-default-TokenPart.nonterminal) = search rules in
    carry_err _ _ _ (fits _ _ _ _ _ (omega arith) ∙ ap (λ (state : NodeState). found_from c.args.depth (drop c.args.from c.args.self.now.stack) state c.args.self.now.leaves) same) c.token_and_part.ensures.err

pub go_on-returns-clause-ok : goal.go_on-returns-clause-ok
go_on-returns-clause-ok t c = carry_ok _ _ _ _ _ _ _ (fits _ _ _ _ _ (omega arith)) (refl) c.follow.ensures.ok

pub go_on-returns-clause-err : goal.go_on-returns-clause-err
go_on-returns-clause-err t c = carry_err _ _ _ (fits _ _ _ _ _ (omega arith)) c.follow.ensures.err

pub follow-returns-in-Finish-clause-ok : goal.follow-returns-in-Finish-clause-ok
follow-returns-in-Finish-clause-ok t c = (node_part c.in-Finish.kind (drop c.args.from c.moves.self.stack), sym c.moves.invariant.rest ∙ finishes _ _ _ _ _ c.in-Finish.ensures.expects, c.in_ok-close-in-Finish.ensures ∙ ap (λ (ps : List Part). ps ++ (node_part c.in-Finish.kind (drop c.args.from c.moves.self.stack) ∷ [])) c.moves.invariant.below, made_depth c.in-Finish.kind _ _ _ refl c.moves.invariant.deep)

pub follow-returns-in_err-take-in-Take-clause-err : goal.follow-returns-in_err-take-in-Take-clause-err
follow-returns-in_err-take-in-Take-clause-err t c = handed_on _ _ _ _ c.from_residual-in_err-take-in-Take.ensures.1 c.in_err-take-in-Take.ensures.err (λ n. sym c.moves.invariant.rest ∙ takes_none _ _ _ _ _ _ c.in-Take.ensures.expects n)

pub follow-moves-smaller-in-Take : goal.follow-moves-smaller-in-Take
follow-moves-smaller-in-Take t c = fewer_taken c.in-Take.token _ _ _ _ _ _ c.in-Take.ensures.few (added _ _ c.moves.invariant.from (token_at (terminals_of c.in-Take.token)) _ _ _ _ (c.in_ok-take-in-Take.ensures.ok))

pub follow-moves-preserved-in-Take : goal.follow-moves-preserved-in-Take
follow-moves-preserved-in-Take t c = record {
  rest = takes _ _ _ _ _ _ _ _ c.in-Take.ensures.expects (added _ _ c.moves.invariant.from (token_at (terminals_of c.in-Take.token)) _ _ _ _ (c.in_ok-take-in-Take.ensures.ok)) ∙ c.moves.invariant.rest;
  below = take_push _ _ c.moves.invariant.from _ _ (c.in_ok-take-in-Take.ensures.ok).2 ∙ c.moves.invariant.below;
  from = within_push _ _ c.moves.invariant.from _ _ (c.in_ok-take-in-Take.ensures.ok).2;
  deep = deepest_more _ _ c.moves.invariant.from _ _ _ _ _ _ c.moves.invariant.deep (c.in_ok-take-in-Take.ensures.ok) c.max-deep.ensures;
  within = omega (arith, c.moves.invariant.within, c.max-deep.ensures, (c.in_ok-take-in-Take.ensures.ok).3, leaf_depth _ _ _ _ (c.in_ok-take-in-Take.ensures.ok).1);
}

pub follow-returns-in_err-part-in-Read-clause-err : goal.follow-returns-in_err-part-in-Read-clause-err
follow-returns-in_err-part-in-Read-clause-err t c = handed_on _ _ _ _ c.from_residual-in_err-part-in-Read.ensures.1 c.in_err-part-in-Read.ensures.err (λ n. sym c.moves.invariant.rest ∙ reads_none _ _ _ _ _ _ c.in-Read.ensures.expects n)

pub follow-moves-smaller-in-Read : goal.follow-moves-smaller-in-Read
follow-moves-smaller-in-Read t c = fewer_read c.args.depth c.in-Read.nonterminal _ _ _ _ _ _ c.in-Read.ensures.few (added _ _ c.moves.invariant.from (part_at c.args.depth (nonterminal_of c.in-Read.nonterminal)) _ _ _ _ (c.in_ok-part-in-Read.ensures.ok))

pub follow-moves-preserved-in-Read : goal.follow-moves-preserved-in-Read
follow-moves-preserved-in-Read t c = record {
  rest = reads _ _ _ _ _ _ _ _ c.in-Read.ensures.expects (added _ _ c.moves.invariant.from (part_at c.args.depth (nonterminal_of c.in-Read.nonterminal)) _ _ _ _ (c.in_ok-part-in-Read.ensures.ok)) ∙ c.moves.invariant.rest;
  below = take_push _ _ c.moves.invariant.from _ _ (c.in_ok-part-in-Read.ensures.ok).2 ∙ c.moves.invariant.below;
  from = within_push _ _ c.moves.invariant.from _ _ (c.in_ok-part-in-Read.ensures.ok).2;
  deep = deepest_more _ _ c.moves.invariant.from _ _ _ _ _ _ c.moves.invariant.deep (c.in_ok-part-in-Read.ensures.ok) c.max-deep-in-Read.ensures;
  within = omega (arith, c.moves.invariant.within, c.max-deep-in-Read.ensures, (c.in_ok-part-in-Read.ensures.ok).3, part_depth _ _ _ _ _ (c.in_ok-part-in-Read.ensures.ok).1);
}

pub follow-moves-smaller-then-comes : goal.follow-moves-smaller-then-comes
follow-moves-smaller-then-comes t c = fewer_left _ _ _ _ _ c.in-Choose.ensures.expects

pub follow-moves-smaller : goal.follow-moves-smaller
follow-moves-smaller t c = fewer_right _ _ _ _ _ c.in-Choose.ensures.expects

pub follow-moves-preserved-then-comes : goal.follow-moves-preserved-then-comes
follow-moves-preserved-then-comes t c = record { rest = chooses_left _ _ _ _ _ _ _ c.in-Choose.ensures.expects (sym c.comes.ensures ∙ c.if-comes.true) ∙ c.moves.invariant.rest; below = c.moves.invariant.below; from = c.moves.invariant.from; deep = c.moves.invariant.deep; within = c.moves.invariant.within }

pub follow-moves-preserved : goal.follow-moves-preserved
follow-moves-preserved t c = record { rest = chooses_right _ _ _ _ _ _ _ c.in-Choose.ensures.expects (sym c.comes.ensures ∙ c.if-comes.false) ∙ c.moves.invariant.rest; below = c.moves.invariant.below; from = c.moves.invariant.from; deep = c.moves.invariant.deep; within = c.moves.invariant.within }

pub primary-returns-in_err-deep-clause-err : goal.primary-returns-in_err-deep-clause-err
primary-returns-in_err-deep-clause-err t c = handed_on _ _ _ _ c.from_residual.ensures.1 c.in_err-deep.ensures.err (λ n. primary_none _ _ n)

pub primary-suffixes-init : goal.primary-suffixes-init
primary-suffixes-init t c = record { from = c.len-from.ensures; goes = (c.in_ok-deep.ensures.ok.0, primary_atom _ _ _ _ c.in_ok-deep.ensures.ok.1, c.in_ok-deep.ensures.ok.2, c.in_ok-deep.ensures.ok.3) }

pub primary-returns-in_err-deep-2-clause-err : goal.primary-returns-in_err-deep-2-clause-err
primary-returns-in_err-deep-2-clause-err t c = handed_on _ _ _ _ c.from_residual-in_err-deep-2.ensures.1 c.in_err-deep-2.ensures.err (λ n. sym c.suffixes.invariant.goes.1 ∙ suffix_fails _ _ _ _ _ (drop_last _ _ _ _ c.suffixes.invariant.goes.2 c.suffixes.invariant.from) c.suffixes.invariant.goes.3 (sym c.next_is.ensures ∙ c.suffixes-test.true) (fitted_same _ _ _ _ _ _ (c.suffix_state.ensures _ _) ∙ n))

pub primary-suffixes-smaller : goal.primary-suffixes-smaller
primary-suffixes-smaller t c = suffix_shorter _ _ _ _ _ (fitted_some _ _ _ _ _ _ _ (drop_last _ _ _ _ c.suffixes.invariant.goes.2 c.suffixes.invariant.from) c.suffixes.invariant.goes.3 (fitted_same _ _ _ _ _ _ (c.suffix_state.ensures _ _) ∙ c.in_ok-deep-2.ensures.ok.1)).1

pub primary-suffixes-preserved : goal.primary-suffixes-preserved
primary-suffixes-preserved t c = record { from = c.suffixes.invariant.from; goes = (c.in_ok-deep-2.ensures.ok.0, suffix_goes _ _ _ _ _ (sym c.next_is.ensures ∙ c.suffixes-test.true) (fitted_some _ _ _ _ _ _ _ (drop_last _ _ _ _ c.suffixes.invariant.goes.2 c.suffixes.invariant.from) c.suffixes.invariant.goes.3 (fitted_same _ _ _ _ _ _ (c.suffix_state.ensures _ _) ∙ c.in_ok-deep-2.ensures.ok.1)).0 (fitted_some _ _ _ _ _ _ _ (drop_last _ _ _ _ c.suffixes.invariant.goes.2 c.suffixes.invariant.from) c.suffixes.invariant.goes.3 (fitted_same _ _ _ _ _ _ (c.suffix_state.ensures _ _) ∙ c.in_ok-deep-2.ensures.ok.1)).1 ∙ c.suffixes.invariant.goes.1, c.in_ok-deep-2.ensures.ok.2 ∙ ap (λ (ps : List Part). ps ++ (c.in_ok-deep-2.ensures.ok.0 ∷ [])) (take_last _ _ _ _ c.suffixes.invariant.goes.2 c.suffixes.invariant.from), c.in_ok-deep-2.ensures.ok.3) }

pub primary-returns-clause-ok : goal.primary-returns-clause-ok
primary-returns-clause-ok t c = (c.suffixes.invariant.goes.0, sym c.suffixes.invariant.goes.1 ∙ suffix_stops _ _ _ (sym c.next_is.ensures ∙ c.suffixes-test.false), c.suffixes.invariant.goes.2, c.suffixes.invariant.goes.3)

pub raised-returns-then-next_is-clause-ok : goal.raised-returns-then-next_is-clause-ok
raised-returns-then-next_is-clause-ok t c a e = carry_ok _ _ _ _ _ _ _ (bound_infix _ _ _ _ _ _ c.in-Infix.ensures ∙ fitted_begun _ _ _ _ _ _ _ e (depth_one _ _ _ e c.requires.deep) (sym c.next_is.ensures ∙ c.if-next_is.true)) refl c.go_on.ensures.ok

pub raised-returns-then-next_is-clause-err : goal.raised-returns-then-next_is-clause-err
raised-returns-then-next_is-clause-err t c a e = carry_err _ _ _ (bound_infix _ _ _ _ _ _ c.in-Infix.ensures ∙ fitted_begun _ _ _ _ _ _ _ e (depth_one _ _ _ e c.requires.deep) (sym c.next_is.ensures ∙ c.if-next_is.true)) c.go_on.ensures.err

pub raised-returns-else-next_is-clause-ok : goal.raised-returns-else-next_is-clause-ok
raised-returns-else-next_is-clause-ok t c a e = stays_last _ _ _ _ _ e c.requires.deep (bound_other _ _ _ _ _ c.in-Infix.ensures (sym c.next_is.ensures ∙ c.if-next_is.false))

pub raised-returns-in-Prefix-clause-ok : goal.raised-returns-in-Prefix-clause-ok
raised-returns-in-Prefix-clause-ok t c a e = stays_last _ _ _ _ _ e c.requires.deep (bound_other _ _ _ _ _ c.in-Prefix.ensures refl)

pub raised-returns-in-Same-clause-ok : goal.raised-returns-in-Same-clause-ok
raised-returns-in-Same-clause-ok t c a e = stays_last _ _ _ _ _ e c.requires.deep (bound_other _ _ _ _ _ c.in-Same.ensures refl)

pub expression-ranks-init : goal.expression-ranks-init
expression-ranks-init t c = record { from = c.len-from.ensures; rises = (c.in_ok-first.ensures.ok.0, passed _ _ _ _ _ _ c.next_rank-rank.ensures.above c.next_rank-rank.ensures.passes ∙ c.in_ok-first.ensures.ok.1, c.in_ok-first.ensures.ok.2, c.in_ok-first.ensures.ok.3) }

pub expression-returns-in_err-deep-clause-err : goal.expression-returns-in_err-deep-clause-err
expression-returns-in_err-deep-clause-err t c = handed_on _ _ _ _ c.from_residual-in_err-deep.ensures.1 (c.in_err-deep.ensures.err c.ranks.invariant.rises.0 (drop_last _ _ _ _ c.ranks.invariant.rises.2 c.ranks.invariant.from)) (λ n. sym c.ranks.invariant.rises.1 ∙ bound_none _ _ _ _ _ c.ranks-test.true n)

pub expression-ranks-preserved : goal.expression-ranks-preserved
expression-ranks-preserved t c = record { from = c.ranks.invariant.from; rises = ((c.in_ok-deep.ensures.ok c.ranks.invariant.rises.0 (drop_last _ _ _ _ c.ranks.invariant.rises.2 c.ranks.invariant.from)).0, passed _ _ _ _ _ _ c.next_rank-rank-in-ranks.ensures.above c.next_rank-rank-in-ranks.ensures.passes ∙ bound_goes _ _ _ _ _ _ _ c.ranks-test.true (c.in_ok-deep.ensures.ok c.ranks.invariant.rises.0 (drop_last _ _ _ _ c.ranks.invariant.rises.2 c.ranks.invariant.from)).1 ∙ c.ranks.invariant.rises.1, (c.in_ok-deep.ensures.ok c.ranks.invariant.rises.0 (drop_last _ _ _ _ c.ranks.invariant.rises.2 c.ranks.invariant.from)).2 ∙ ap (λ (ps : List Part). ps ++ ((c.in_ok-deep.ensures.ok c.ranks.invariant.rises.0 (drop_last _ _ _ _ c.ranks.invariant.rises.2 c.ranks.invariant.from)).0 ∷ [])) (take_last _ _ _ _ c.ranks.invariant.rises.2 c.ranks.invariant.from), (c.in_ok-deep.ensures.ok c.ranks.invariant.rises.0 (drop_last _ _ _ _ c.ranks.invariant.rises.2 c.ranks.invariant.from)).3) }

pub expression-returns-clause-ok : goal.expression-returns-clause-ok
expression-returns-clause-ok t c = (c.ranks.invariant.rises.0, sym c.ranks.invariant.rises.1 ∙ risen_end _ _ _ _ _ (omega arith), c.ranks.invariant.rises.2, c.ranks.invariant.rises.3)

pub operand-returns-then-starts_from-clause-ok : goal.operand-returns-then-starts_from-clause-ok
operand-returns-then-starts_from-clause-ok t c = (c.in_ok-deep.ensures.ok.0, starts_risen _ 13 _ _ (from_parts 13 _ _ (sym c.starts_from.ensures ∙ c.if-starts_from.true)).0 (plain 13 _ _ (λ a b. absurd (omega arith)) (λ a b. absurd (omega arith)) (λ a b. absurd (omega arith))) _ _ (level_prefix _ 13 _ (λ e. cc) token.Lambda (s.Lambda lambda_at.Begin) refl (from_parts 13 _ _ (sym c.starts_from.ensures ∙ c.if-starts_from.true)).1 ∙ c.in_ok-deep.ensures.ok.1), c.in_ok-deep.ensures.ok.2, c.in_ok-deep.ensures.ok.3)

pub operand-returns-in_err-deep-clause-err : goal.operand-returns-in_err-deep-clause-err
operand-returns-in_err-deep-clause-err t c = handed_on _ _ _ _ c.from_residual.ensures.1 c.in_err-deep.ensures.err (λ m. starts_none _ 13 _ _ (from_parts 13 _ _ (sym c.starts_from.ensures ∙ c.if-starts_from.true)).0 (plain 13 _ _ (λ a b. absurd (omega arith)) (λ a b. absurd (omega arith)) (λ a b. absurd (omega arith))) (level_prefix _ 13 _ (λ e. cc) token.Lambda (s.Lambda lambda_at.Begin) refl (from_parts 13 _ _ (sym c.starts_from.ensures ∙ c.if-starts_from.true)).1 ∙ m))

pub operand-returns-then-starts_from-2-clause-ok : goal.operand-returns-then-starts_from-2-clause-ok
operand-returns-then-starts_from-2-clause-ok t c = (c.in_ok-deep-2.ensures.ok.0, starts_risen _ 9 _ _ (from_parts 9 _ _ (sym c.starts_from-2.ensures ∙ c.if-starts_from-2.true)).0 (plain 9 _ _ (λ a b. absurd (omega arith)) (λ a b. absurd (omega arith)) (λ a b. not_from 13 _ _ (sym c.starts_from.ensures ∙ c.if-starts_from.false) b)) _ _ (level_prefix _ 9 _ (λ e. cc) token.Not (s.Rest k.Not (in_rest.TokenPart token.Not (q.Level 9))) refl (from_parts 9 _ _ (sym c.starts_from-2.ensures ∙ c.if-starts_from-2.true)).1 ∙ c.in_ok-deep-2.ensures.ok.1), c.in_ok-deep-2.ensures.ok.2, c.in_ok-deep-2.ensures.ok.3)

pub operand-returns-in_err-deep-2-clause-err : goal.operand-returns-in_err-deep-2-clause-err
operand-returns-in_err-deep-2-clause-err t c = handed_on _ _ _ _ c.from_residual-in_err-deep-2.ensures.1 c.in_err-deep-2.ensures.err (λ m. starts_none _ 9 _ _ (from_parts 9 _ _ (sym c.starts_from-2.ensures ∙ c.if-starts_from-2.true)).0 (plain 9 _ _ (λ a b. absurd (omega arith)) (λ a b. absurd (omega arith)) (λ a b. not_from 13 _ _ (sym c.starts_from.ensures ∙ c.if-starts_from.false) b)) (level_prefix _ 9 _ (λ e. cc) token.Not (s.Rest k.Not (in_rest.TokenPart token.Not (q.Level 9))) refl (from_parts 9 _ _ (sym c.starts_from-2.ensures ∙ c.if-starts_from-2.true)).1 ∙ m))

pub operand-returns-then-starts_from-3-clause-ok : goal.operand-returns-then-starts_from-3-clause-ok
operand-returns-then-starts_from-3-clause-ok t c = (c.in_ok-deep-3.ensures.ok.0, starts_risen _ 1 _ _ (from_parts 1 _ _ (sym c.starts_from-3.ensures ∙ c.if-starts_from-3.true)).0 (plain 1 _ _ (λ a b. absurd (omega arith)) (λ a b. not_from 9 _ _ (sym c.starts_from-2.ensures ∙ c.if-starts_from-2.false) b) (λ a b. not_from 13 _ _ (sym c.starts_from.ensures ∙ c.if-starts_from.false) b)) _ _ (level_prefix _ 1 _ (λ e. cc) token.Signs (s.Rest k.Unary (in_rest.TokenPart token.Signs (q.Level 1))) refl (from_parts 1 _ _ (sym c.starts_from-3.ensures ∙ c.if-starts_from-3.true)).1 ∙ c.in_ok-deep-3.ensures.ok.1), c.in_ok-deep-3.ensures.ok.2, c.in_ok-deep-3.ensures.ok.3)

pub operand-returns-in_err-deep-3-clause-err : goal.operand-returns-in_err-deep-3-clause-err
operand-returns-in_err-deep-3-clause-err t c = handed_on _ _ _ _ c.from_residual-in_err-deep-3.ensures.1 c.in_err-deep-3.ensures.err (λ m. starts_none _ 1 _ _ (from_parts 1 _ _ (sym c.starts_from-3.ensures ∙ c.if-starts_from-3.true)).0 (plain 1 _ _ (λ a b. absurd (omega arith)) (λ a b. not_from 9 _ _ (sym c.starts_from-2.ensures ∙ c.if-starts_from-2.false) b) (λ a b. not_from 13 _ _ (sym c.starts_from.ensures ∙ c.if-starts_from.false) b)) (level_prefix _ 1 _ (λ e. cc) token.Signs (s.Rest k.Unary (in_rest.TokenPart token.Signs (q.Level 1))) refl (from_parts 1 _ _ (sym c.starts_from-3.ensures ∙ c.if-starts_from-3.true)).1 ∙ m))

pub operand-returns-clause-ok : goal.operand-returns-clause-ok
operand-returns-clause-ok t c = (c.in_ok-deep-4.ensures.ok.0, starts_risen _ 0 _ _ (omega arith) (plain 0 _ _ (λ a b. not_from 1 _ _ (sym c.starts_from-3.ensures ∙ c.if-starts_from-3.false) b) (λ a b. not_from 9 _ _ (sym c.starts_from-2.ensures ∙ c.if-starts_from-2.false) b) (λ a b. not_from 13 _ _ (sym c.starts_from.ensures ∙ c.if-starts_from.false) b)) _ _ c.in_ok-deep-4.ensures.ok.1, c.in_ok-deep-4.ensures.ok.2, c.in_ok-deep-4.ensures.ok.3)

pub operand-returns-in_err-deep-4-clause-err : goal.operand-returns-in_err-deep-4-clause-err
operand-returns-in_err-deep-4-clause-err t c = handed_on _ _ _ _ c.from_residual-in_err-deep-4.ensures.1 c.in_err-deep-4.ensures.err (λ m. starts_none _ 0 _ _ (omega arith) (plain 0 _ _ (λ a b. not_from 1 _ _ (sym c.starts_from-3.ensures ∙ c.if-starts_from-3.false) b) (λ a b. not_from 9 _ _ (sym c.starts_from-2.ensures ∙ c.if-starts_from-2.false) b) (λ a b. not_from 13 _ _ (sym c.starts_from.ensures ∙ c.if-starts_from.false) b)) m)

pub part-returns-in-Param-clause-ok : goal.part-returns-in-Param-clause-ok
part-returns-in-Param-clause-ok t c = carry_ok _ _ _ _ _ _ _ (inside _ _ _ _ _ c.in-Param.is c.if-depth-eq0.false (param_is _ _)) (refl) c.param.ensures.ok

pub part-returns-in-Param-clause-err : goal.part-returns-in-Param-clause-err
part-returns-in-Param-clause-err t c = carry_err _ _ _ (inside _ _ _ _ _ c.in-Param.is c.if-depth-eq0.false (param_is _ _)) c.param.ensures.err

pub param-returns-then-next_is-clause-ok : goal.param-returns-then-next_is-clause-ok
param-returns-then-next_is-clause-ok t c = carry_ok _ _ _ _ _ _ _ (starred_is _ _ (sym c.next_is.ensures ∙ c.if-next_is.true)) (refl) c.begin.ensures.ok

pub param-returns-then-next_is-clause-err : goal.param-returns-then-next_is-clause-err
param-returns-then-next_is-clause-err t c = carry_err _ _ _ (starred_is _ _ (sym c.next_is.ensures ∙ c.if-next_is.true)) c.begin.ensures.err

pub param-returns-in_err-deep-clause-err : goal.param-returns-in_err-deep-clause-err
param-returns-in_err-deep-clause-err t c = handed_on _ _ _ _ c.from_residual.ensures.1 c.in_err-deep.ensures.err (λ n. param_none _ _ (sym c.next_is.ensures ∙ c.if-next_is.false) n)

pub param-returns-then-not-next_is-clause-ok : goal.param-returns-then-not-next_is-clause-ok
param-returns-then-not-next_is-clause-ok t c = (c.in_ok-deep.ensures.ok.0, param_stays _ _ _ _ (sym c.next_is.ensures ∙ c.if-next_is.false) c.in_ok-deep.ensures.ok.1 (sym c.next_is-2.ensures ∙ c.if-not-next_is.true), c.in_ok-deep.ensures.ok.2, c.in_ok-deep.ensures.ok.3)

pub param-returns-clause-ok : goal.param-returns-clause-ok
param-returns-clause-ok t c = carry_ok _ _ _ _ _ _ _ (param_valued _ _ _ _ (sym c.next_is.ensures ∙ c.if-next_is.false) c.in_ok-deep.ensures.ok.1 ∙ fitted_begun _ _ _ _ _ _ _ (drop_last _ _ _ _ c.in_ok-deep.ensures.ok.2 c.len-from.ensures) c.in_ok-deep.ensures.ok.3 (sym c.next_is-2.ensures ∙ c.if-not-next_is.false)) (take_last _ _ _ _ c.in_ok-deep.ensures.ok.2 c.len-from.ensures) c.go_on.ensures.ok

pub param-returns-clause-err : goal.param-returns-clause-err
param-returns-clause-err t c = carry_err _ _ _ (param_valued _ _ _ _ (sym c.next_is.ensures ∙ c.if-next_is.false) c.in_ok-deep.ensures.ok.1 ∙ fitted_begun _ _ _ _ _ _ _ (drop_last _ _ _ _ c.in_ok-deep.ensures.ok.2 c.len-from.ensures) c.in_ok-deep.ensures.ok.3 (sym c.next_is-2.ensures ∙ c.if-not-next_is.false)) c.go_on.ensures.err

pub items_of_row-returns-in_err-part-clause-err : goal.items_of_row-returns-in_err-part-clause-err
items_of_row-returns-in_err-part-clause-err t c = handed_on _ _ _ _ c.from_residual.ensures.1 c.in_err-part.ensures.err (λ n. sym c.more.invariant.rest ∙ item_none c.args.depth c.args.listed c.row-row.result c.more.invariant.row (drop c.args.from c.more.self.stack) c.more.self.leaves (sym c.next_is.ensures ∙ c.more-test.true) n)

pub items_of_row-closing_token-requires : goal.items_of_row-closing_token-requires
items_of_row-closing_token-requires t c = record {
  from = within_push _ _ c.more.invariant.from _ _ c.in_ok-part.ensures.ok.2;
  deep = deepest_more _ _ c.more.invariant.from _ _ _ _ _ _ c.more.invariant.deep c.in_ok-part.ensures.ok c.max-deep.ensures;
  within = omega (arith, c.more.invariant.within, c.max-deep.ensures, c.in_ok-part.ensures.ok.3, part_depth _ _ _ _ _ c.in_ok-part.ensures.ok.1);
  small = c.requires.small;
}

pub items_of_row-returns-then-not-next_is-clause-ok : goal.items_of_row-returns-then-not-next_is-clause-ok
items_of_row-returns-then-not-next_is-clause-ok t c = carry_ok _ _ _ _ _ _ _ (sym (item_last c.args.depth c.args.listed c.row-row.result c.more.invariant.row (drop c.args.from c.more.self.stack) c.more.self.leaves (sym c.next_is.ensures ∙ c.more-test.true) (drop c.args.from c.part.new.self.stack) c.part.new.self.leaves (added _ _ c.more.invariant.from (part_at c.args.depth (nonterminal_of c.row-row.result.nonterminal)) _ _ _ _ c.in_ok-part.ensures.ok) (sym c.next_is-in-more.ensures ∙ c.if-not-next_is.true) ∙ c.more.invariant.rest)) (take_push _ _ c.more.invariant.from _ _ c.in_ok-part.ensures.ok.2 ∙ c.more.invariant.below) c.closing_token.ensures.ok

pub items_of_row-returns-then-not-next_is-clause-err : goal.items_of_row-returns-then-not-next_is-clause-err
items_of_row-returns-then-not-next_is-clause-err t c = carry_err _ _ _ (sym (item_last c.args.depth c.args.listed c.row-row.result c.more.invariant.row (drop c.args.from c.more.self.stack) c.more.self.leaves (sym c.next_is.ensures ∙ c.more-test.true) (drop c.args.from c.part.new.self.stack) c.part.new.self.leaves (added _ _ c.more.invariant.from (part_at c.args.depth (nonterminal_of c.row-row.result.nonterminal)) _ _ _ _ c.in_ok-part.ensures.ok) (sym c.next_is-in-more.ensures ∙ c.if-not-next_is.true) ∙ c.more.invariant.rest)) c.closing_token.ensures.err

pub items_of_row-returns-in_err-take-clause-err : goal.items_of_row-returns-in_err-take-clause-err
items_of_row-returns-in_err-take-clause-err t c = handed_on _ _ _ _ c.from_residual-in_err-take.ensures.1 c.in_err-take.ensures.err (λ n. sym c.more.invariant.rest ∙ separator_none c.args.depth c.args.listed c.row-row.result c.more.invariant.row (drop c.args.from c.more.self.stack) c.more.self.leaves (sym c.next_is.ensures ∙ c.more-test.true) (drop c.args.from c.part.new.self.stack) c.part.new.self.leaves (added _ _ c.more.invariant.from (part_at c.args.depth (nonterminal_of c.row-row.result.nonterminal)) _ _ _ _ c.in_ok-part.ensures.ok) (sym c.next_is-in-more.ensures ∙ c.if-not-next_is.false) n)

pub items_of_row-more-smaller : goal.items_of_row-more-smaller
items_of_row-more-smaller t c = item_shorter c.args.depth (nonterminal_of c.row-row.result.nonterminal) (terminals_of c.row-row.result.separator) c.more.self.leaves c.part.new.self.leaves c.take.new.self.leaves _ _ c.in_ok-part.ensures.ok.1 c.in_ok-take.ensures.ok.1

pub items_of_row-more-preserved : goal.items_of_row-more-preserved
items_of_row-more-preserved t c =
    let deep = deepest_more _ _ c.more.invariant.from _ _ _ _ _ _ c.more.invariant.deep c.in_ok-part.ensures.ok c.max-deep.ensures in
    let within : c.max-deep.result ≤ c.args.depth = omega (arith, c.more.invariant.within, c.max-deep.ensures, c.in_ok-part.ensures.ok.3, part_depth _ _ _ _ _ c.in_ok-part.ensures.ok.1) in
    record {
      row = c.more.invariant.row;
      rest = item_next c.args.depth c.args.listed c.row-row.result c.more.invariant.row (drop c.args.from c.more.self.stack) c.more.self.leaves (sym c.next_is.ensures ∙ c.more-test.true) (drop c.args.from c.part.new.self.stack) c.part.new.self.leaves (added _ _ c.more.invariant.from (part_at c.args.depth (nonterminal_of c.row-row.result.nonterminal)) _ _ _ _ c.in_ok-part.ensures.ok) (sym c.next_is-in-more.ensures ∙ c.if-not-next_is.false) (drop c.args.from c.take.new.self.stack) c.take.new.self.leaves (added _ _ (within_push _ _ c.more.invariant.from _ _ c.in_ok-part.ensures.ok.2) (token_at (terminals_of c.row-row.result.separator)) _ _ _ _ c.in_ok-take.ensures.ok) ∙ c.more.invariant.rest;
      below = take_push _ _ (within_push _ _ c.more.invariant.from _ _ c.in_ok-part.ensures.ok.2) _ _ c.in_ok-take.ensures.ok.2 ∙ (take_push _ _ c.more.invariant.from _ _ c.in_ok-part.ensures.ok.2 ∙ c.more.invariant.below);
      from = within_push _ _ (within_push _ _ c.more.invariant.from _ _ c.in_ok-part.ensures.ok.2) _ _ c.in_ok-take.ensures.ok.2;
      deep = deepest_more _ _ (within_push _ _ c.more.invariant.from _ _ c.in_ok-part.ensures.ok.2) _ _ _ _ _ _ deep c.in_ok-take.ensures.ok c.max-deep-in-more.ensures;
      within = omega (arith, within, c.max-deep-in-more.ensures, c.in_ok-take.ensures.ok.3, leaf_depth _ _ _ _ c.in_ok-take.ensures.ok.1);
    }

pub items_of_row-returns-clause-ok : goal.items_of_row-returns-clause-ok
items_of_row-returns-clause-ok t c = carry_ok _ _ _ _ _ _ _ (sym (row_ends c.args.depth c.args.listed c.row-row.result c.more.invariant.row (drop c.args.from c.more.self.stack) c.more.self.leaves (sym c.next_is.ensures ∙ c.more-test.false) ∙ c.more.invariant.rest)) c.more.invariant.below c.closing_token-2.ensures.ok

pub items_of_row-returns-clause-err : goal.items_of_row-returns-clause-err
items_of_row-returns-clause-err t c = carry_err _ _ _ (sym (row_ends c.args.depth c.args.listed c.row-row.result c.more.invariant.row (drop c.args.from c.more.self.stack) c.more.self.leaves (sym c.next_is.ensures ∙ c.more-test.false) ∙ c.more.invariant.rest)) c.closing_token-2.ensures.err

pub token_and_part-returns-in_err-take-clause-err : goal.token_and_part-returns-in_err-take-clause-err
token_and_part-returns-in_err-take-clause-err t c = handed_on _ _ _ _ c.from_residual.ensures.1 c.in_err-take.ensures.err (λ n. front_none _ _ _ _ _ _ n)

pub token_and_part-returns-in_err-part-clause-err : goal.token_and_part-returns-in_err-part-clause-err
token_and_part-returns-in_err-part-clause-err t c = handed_on _ _ _ _ c.from_residual-in_err-part.ensures.1 c.in_err-part.ensures.err (λ n. part_none _ _ _ _ _ _ _ _ (added _ _ c.requires.from (token_at (terminals_of c.args.token)) _ _ _ _ c.in_ok-take.ensures.ok) n)

pub token_and_part-overflow_add-result : goal.token_and_part-overflow_add-result
token_and_part-overflow_add-result t c =
    let front : c.max-front.result ≤ c.args.depth = omega (arith, c.requires.within, c.max-front.ensures, c.in_ok-take.ensures.ok.3, leaf_depth _ _ _ _ c.in_ok-take.ensures.ok.1) in
    let within : c.max-whole.result ≤ c.args.depth = omega (arith, front, c.max-whole.ensures, c.in_ok-part.ensures.ok.3, part_depth _ _ _ _ _ c.in_ok-part.ensures.ok.1) in
    search rules

pub token_and_part-returns-clause-ok : goal.token_and_part-returns-clause-ok
token_and_part-returns-clause-ok t c =
    let from = within_push _ _ c.requires.from _ _ c.in_ok-take.ensures.ok.2 in (
      node_part c.args.kind (drop c.args.from c.part.new.self.stack),
      both_read _ _ _ _ _ _ _ _ (added _ _ c.requires.from (token_at (terminals_of c.args.token)) _ _ _ _ c.in_ok-take.ensures.ok) _ _ (added _ _ from (part_at c.args.depth (nonterminal_of c.args.nonterminal)) _ _ _ _ c.in_ok-part.ensures.ok),
      c.in_ok-close.ensures ∙ ap (λ (ps : List Part). ps ++ (node_part c.args.kind (drop c.args.from c.part.new.self.stack) ∷ [])) (take_push _ _ from _ _ c.in_ok-part.ensures.ok.2 ∙ take_push _ _ c.requires.from _ _ c.in_ok-take.ensures.ok.2),
      made_depth c.args.kind _ _ _ refl (deepest_more _ _ from _ _ _ _ _ _ (deepest_more _ _ c.requires.from _ _ _ _ _ _ c.requires.deep c.in_ok-take.ensures.ok c.max-front.ensures) c.in_ok-part.ensures.ok c.max-whole.ensures),
    )

pub more_of_row-returns-then-next_is-clause-ok : goal.more_of_row-returns-then-next_is-clause-ok
more_of_row-returns-then-next_is-clause-ok t c = carry_ok _ _ _ _ _ _ _ (sym (more_ends c.args.depth c.args.listed c.row-row.result c.row-row.ensures (drop c.args.from c.args.self.now.stack) c.args.self.now.leaves (sym c.next_is.ensures ∙ c.if-next_is.true))) refl c.closing_token.ensures.ok

pub more_of_row-returns-then-next_is-clause-err : goal.more_of_row-returns-then-next_is-clause-err
more_of_row-returns-then-next_is-clause-err t c = carry_err _ _ _ (sym (more_ends c.args.depth c.args.listed c.row-row.result c.row-row.ensures (drop c.args.from c.args.self.now.stack) c.args.self.now.leaves (sym c.next_is.ensures ∙ c.if-next_is.true))) c.closing_token.ensures.err

pub more_of_row-returns-in_err-take-clause-err : goal.more_of_row-returns-in_err-take-clause-err
more_of_row-returns-in_err-take-clause-err t c = handed_on _ _ _ _ c.from_residual.ensures.1 c.in_err-take.ensures.err (λ n. more_none c.args.depth c.args.listed c.row-row.result c.row-row.ensures (drop c.args.from c.args.self.now.stack) c.args.self.now.leaves (sym c.next_is.ensures ∙ c.if-next_is.false) n)

pub more_of_row-items_of_row-requires : goal.more_of_row-items_of_row-requires
more_of_row-items_of_row-requires t c = (
  omega arith,
  record {
    from = within_push _ _ c.requires.from _ _ c.in_ok-take.ensures.ok.2;
    deep = deepest_more _ _ c.requires.from _ _ _ _ _ _ c.requires.deep c.in_ok-take.ensures.ok c.max-deep.ensures;
    within = omega (arith, c.requires.within, c.max-deep.ensures, c.in_ok-take.ensures.ok.3, leaf_depth _ _ _ _ c.in_ok-take.ensures.ok.1);
    small = c.requires.small;
  },
)

pub more_of_row-returns-clause-ok : goal.more_of_row-returns-clause-ok
more_of_row-returns-clause-ok t c = carry_ok _ _ _ _ _ _ _ (sym (more_goes c.args.depth c.args.listed c.row-row.result c.row-row.ensures (drop c.args.from c.args.self.now.stack) c.args.self.now.leaves (sym c.next_is.ensures ∙ c.if-next_is.false) _ _ (added _ _ c.requires.from (token_at (terminals_of c.row-row.result.separator)) _ _ _ _ c.in_ok-take.ensures.ok))) (take_push _ _ c.requires.from _ _ c.in_ok-take.ensures.ok.2) c.items_of_row.ensures.ok

pub more_of_row-returns-clause-err : goal.more_of_row-returns-clause-err
more_of_row-returns-clause-err t c = carry_err _ _ _ (sym (more_goes c.args.depth c.args.listed c.row-row.result c.row-row.ensures (drop c.args.from c.args.self.now.stack) c.args.self.now.leaves (sym c.next_is.ensures ∙ c.if-next_is.false) _ _ (added _ _ c.requires.from (token_at (terminals_of c.row-row.result.separator)) _ _ _ _ c.in_ok-take.ensures.ok))) c.items_of_row.ensures.err

pub square-returns-in_err-open-clause-err : goal.square-returns-in_err-open-clause-err
square-returns-in_err-open-clause-err t c = handed_on _ _ _ _ c.from_residual.ensures.1 c.in_err-open.ensures.err (λ n. square_unopened _ _ _ n)

pub square-closing_token-requires : goal.square-closing_token-requires
square-closing_token-requires t c = record {
  from = within_push _ _ (within_all _ _ c.len-from.ensures) _ _ c.in_ok-open.ensures.ok.2;
  deep = deepest_open _ _ _ _ _ c.len-from.ensures c.in_ok-open.ensures.ok;
  within = omega (arith, c.in_ok-open.ensures.ok.3, leaf_depth _ _ _ _ c.in_ok-open.ensures.ok.1);
  small = c.requires.small;
}

pub square-returns-then-next_is-clause-ok : goal.square-returns-then-next_is-clause-ok
square-returns-then-next_is-clause-ok t c =
    let le = within_all _ _ c.len-from.ensures in
    let begins = begins_last _ _ c.len-from.ensures in
    carry_ok _ _ _ _ _ _ _ (ap (λ (ps : List Part). found_from c.args.depth ps s.Square c.args.self.now.leaves) (sym begins.0) ∙ sym (square_empty _ _ _ _ _ (added _ _ le (token_at (terminals_of token.OpenSquare)) _ _ _ _ c.in_ok-open.ensures.ok) (sym c.next_is.ensures ∙ c.if-next_is.true))) (take_push _ _ le _ _ c.in_ok-open.ensures.ok.2 ∙ begins.1) c.closing_token.ensures.ok

pub square-returns-then-next_is-clause-err : goal.square-returns-then-next_is-clause-err
square-returns-then-next_is-clause-err t c =
    let le = within_all _ _ c.len-from.ensures in
    let begins = begins_last _ _ c.len-from.ensures in
    carry_err _ _ _ (ap (λ (ps : List Part). found_from c.args.depth ps s.Square c.args.self.now.leaves) (sym begins.0) ∙ sym (square_empty _ _ _ _ _ (added _ _ le (token_at (terminals_of token.OpenSquare)) _ _ _ _ c.in_ok-open.ensures.ok) (sym c.next_is.ensures ∙ c.if-next_is.true))) c.closing_token.ensures.err

pub square-returns-in_err-part-clause-err : goal.square-returns-in_err-part-clause-err
square-returns-in_err-part-clause-err t c =
    let le = within_all _ _ c.len-from.ensures in
    handed_on _ _ _ _ c.from_residual-in_err-part.ensures.1 c.in_err-part.ensures.err (λ n. ap (λ (ps : List Part). found_from c.args.depth ps s.Square c.args.self.now.leaves) (sym (begins_last _ _ c.len-from.ensures).0) ∙ square_none _ _ _ _ _ (added _ _ le (token_at (terminals_of token.OpenSquare)) _ _ _ _ c.in_ok-open.ensures.ok) (sym c.next_is.ensures ∙ c.if-next_is.false) n)

pub square-follow-requires : goal.square-follow-requires
square-follow-requires t c = (
  omega arith,
  record {
    from = within_push _ _ (within_push _ _ (within_all _ _ c.len-from.ensures) _ _ c.in_ok-open.ensures.ok.2) _ _ c.in_ok-part.ensures.ok.2;
    deep = deepest_more _ _ (within_push _ _ (within_all _ _ c.len-from.ensures) _ _ c.in_ok-open.ensures.ok.2) _ _ _ _ _ _ (deepest_open _ _ _ _ _ c.len-from.ensures c.in_ok-open.ensures.ok) c.in_ok-part.ensures.ok c.max-deep.ensures;
    within = omega (arith, c.max-deep.ensures, c.in_ok-open.ensures.ok.3, leaf_depth _ _ _ _ c.in_ok-open.ensures.ok.1, c.in_ok-part.ensures.ok.3, part_depth _ _ _ _ _ c.in_ok-part.ensures.ok.1);
    small = c.requires.small;
  },
)

pub square-more_of_row-requires : goal.square-more_of_row-requires
square-more_of_row-requires t c = (
  omega arith,
  record {
    from = within_push _ _ (within_push _ _ (within_all _ _ c.len-from.ensures) _ _ c.in_ok-open.ensures.ok.2) _ _ c.in_ok-part.ensures.ok.2;
    deep = deepest_more _ _ (within_push _ _ (within_all _ _ c.len-from.ensures) _ _ c.in_ok-open.ensures.ok.2) _ _ _ _ _ _ (deepest_open _ _ _ _ _ c.len-from.ensures c.in_ok-open.ensures.ok) c.in_ok-part.ensures.ok c.max-deep.ensures;
    within = omega (arith, c.max-deep.ensures, c.in_ok-open.ensures.ok.3, leaf_depth _ _ _ _ c.in_ok-open.ensures.ok.1, c.in_ok-part.ensures.ok.3, part_depth _ _ _ _ _ c.in_ok-part.ensures.ok.1);
    small = c.requires.small;
  },
)

pub square-returns-then-next_is-2-clause-ok : goal.square-returns-then-next_is-2-clause-ok
square-returns-then-next_is-2-clause-ok t c =
    let le = within_all _ _ c.len-from.ensures in
    let begins = begins_last _ _ c.len-from.ensures in
    let on = within_push _ _ le _ _ c.in_ok-open.ensures.ok.2 in
    carry_ok _ _ _ _ _ _ _ (ap (λ (ps : List Part). found_from c.args.depth ps s.Square c.args.self.now.leaves) (sym begins.0) ∙ sym (square_for _ _ _ _ _ (added _ _ le (token_at (terminals_of token.OpenSquare)) _ _ _ _ c.in_ok-open.ensures.ok) (sym c.next_is.ensures ∙ c.if-next_is.false) _ _ (added _ _ on (part_at c.args.depth (nonterminal_of (q.Level 13))) _ _ _ _ c.in_ok-part.ensures.ok) (sym c.next_is-2.ensures ∙ c.if-next_is-2.true))) (take_push _ _ on _ _ c.in_ok-part.ensures.ok.2 ∙ take_push _ _ le _ _ c.in_ok-open.ensures.ok.2 ∙ begins.1) c.follow.ensures.ok

pub square-returns-then-next_is-2-clause-err : goal.square-returns-then-next_is-2-clause-err
square-returns-then-next_is-2-clause-err t c =
    let le = within_all _ _ c.len-from.ensures in
    let on = within_push _ _ le _ _ c.in_ok-open.ensures.ok.2 in
    carry_err _ _ _ (ap (λ (ps : List Part). found_from c.args.depth ps s.Square c.args.self.now.leaves) (sym (begins_last _ _ c.len-from.ensures).0) ∙ sym (square_for _ _ _ _ _ (added _ _ le (token_at (terminals_of token.OpenSquare)) _ _ _ _ c.in_ok-open.ensures.ok) (sym c.next_is.ensures ∙ c.if-next_is.false) _ _ (added _ _ on (part_at c.args.depth (nonterminal_of (q.Level 13))) _ _ _ _ c.in_ok-part.ensures.ok) (sym c.next_is-2.ensures ∙ c.if-next_is-2.true))) c.follow.ensures.err

pub square-returns-clause-ok : goal.square-returns-clause-ok
square-returns-clause-ok t c =
    let le = within_all _ _ c.len-from.ensures in
    let begins = begins_last _ _ c.len-from.ensures in
    let on = within_push _ _ le _ _ c.in_ok-open.ensures.ok.2 in
    carry_ok _ _ _ _ _ _ _ (ap (λ (ps : List Part). found_from c.args.depth ps s.Square c.args.self.now.leaves) (sym begins.0) ∙ sym (square_more _ _ _ _ _ (added _ _ le (token_at (terminals_of token.OpenSquare)) _ _ _ _ c.in_ok-open.ensures.ok) (sym c.next_is.ensures ∙ c.if-next_is.false) _ _ (added _ _ on (part_at c.args.depth (nonterminal_of (q.Level 13))) _ _ _ _ c.in_ok-part.ensures.ok) (sym c.next_is-2.ensures ∙ c.if-next_is-2.false))) (take_push _ _ on _ _ c.in_ok-part.ensures.ok.2 ∙ take_push _ _ le _ _ c.in_ok-open.ensures.ok.2 ∙ begins.1) c.more_of_row.ensures.ok

pub square-returns-clause-err : goal.square-returns-clause-err
square-returns-clause-err t c =
    let le = within_all _ _ c.len-from.ensures in
    let on = within_push _ _ le _ _ c.in_ok-open.ensures.ok.2 in
    carry_err _ _ _ (ap (λ (ps : List Part). found_from c.args.depth ps s.Square c.args.self.now.leaves) (sym (begins_last _ _ c.len-from.ensures).0) ∙ sym (square_more _ _ _ _ _ (added _ _ le (token_at (terminals_of token.OpenSquare)) _ _ _ _ c.in_ok-open.ensures.ok) (sym c.next_is.ensures ∙ c.if-next_is.false) _ _ (added _ _ on (part_at c.args.depth (nonterminal_of (q.Level 13))) _ _ _ _ c.in_ok-part.ensures.ok) (sym c.next_is-2.ensures ∙ c.if-next_is-2.false))) c.more_of_row.ensures.err
