use Rattle.bz_token.proofs.Tokens.{whole_rest}
use Rattle.bz_lex.proofs.Lexing.{broken_lexeme, all_gap, lexeme, no_lexeme}
use Rattle.bz_lex.proofs.Fronts.{byte_at}
use Rattle.bz_lex.proofs.Stopping.{broken_stop, token_stop, prefix_stop, prefix_refused, unopened_front, at_token}
use Rattle.bz_lex.proofs.front.lexeme_front.Goals as goal

pub returns-in-Some-clause-answered : goal.returns-in-Some-clause-answered
returns-in-Some-clause-answered c = broken_lexeme _ _ c.gap_front-gap.ensures.taken c.gap_front-gap.ensures.stops c.in-Some.ensures.0

pub returns-in-Some-clause-stops : goal.returns-in-Some-clause-stops
returns-in-Some-clause-stops c =
    rw c.new.ensures (broken_stop _ _ _ c.gap_front-gap.ensures.within c.gap_front-gap.ensures.taken c.gap_front-gap.ensures.stops c.in-Some.ensures.0 c.in-Some.ensures.2)

pub returns-then-gap-text-clause-answered : goal.returns-then-gap-text-clause-answered
returns-then-gap-text-clause-answered c = all_gap _ _ c.gap_front-gap.ensures.taken c.in_default.ensures c.if-gap-text.true

pub returns-in_default-token_front-clause-answered : goal.returns-in_default-token_front-clause-answered
returns-in_default-token_front-clause-answered c =
    no_lexeme _ _ _ c.gap_front-gap.ensures.taken c.gap_front-gap.ensures.stops (byte_at _ _ c.gap_front-gap.ensures.within c.if-gap-text.false) c.in_default-token_front.ensures

pub returns-in_default-token_front-clause-stops : goal.returns-in_default-token_front-clause-stops
returns-in_default-token_front-clause-stops c =
    token_stop _ _ _ _ _ _ c.gap_front-gap.ensures.within c.gap_front-gap.ensures.taken c.gap_front-gap.ensures.stops c.in_default.ensures
    (byte_at _ _ c.gap_front-gap.ensures.within c.if-gap-text.false) c.new-in_default-token_front.ensures (whole_rest _ _ c.gap_front-gap.ensures.within) c.in_default-token_front.ensures c.missing-reason.ensures

pub is_open_prefix-requires-clause-within : goal.is_open_prefix-requires-clause-within
is_open_prefix-requires-clause-within c = rw c.in-Some-token_front.ensures.0 c.gap_front-gap.ensures.within

pub is_open_prefix-requires-clause-token : goal.is_open_prefix-requires-clause-token
is_open_prefix-requires-clause-token c = at_token _ _ _ c.in-Some-token_front.ensures.0 c.in-Some-token_front.ensures.1

pub returns-then-is_open_prefix-clause-answered : goal.returns-then-is_open_prefix-clause-answered
returns-then-is_open_prefix-clause-answered c =
    prefix_refused _ _ _ _ c.gap_front-gap.ensures.within c.gap_front-gap.ensures.taken c.gap_front-gap.ensures.stops c.in_default.ensures
    (byte_at _ _ c.gap_front-gap.ensures.within c.if-gap-text.false) c.in-Some-token_front.ensures.0 c.in-Some-token_front.ensures.1 (c.is_open_prefix.ensures.0 c.if-is_open_prefix.true)

pub returns-then-is_open_prefix-clause-stops : goal.returns-then-is_open_prefix-clause-stops
returns-then-is_open_prefix-clause-stops c =
    prefix_stop _ _ _ c.in-Some-token_front.front _ c.gap_front-gap.ensures.within c.gap_front-gap.ensures.taken c.gap_front-gap.ensures.stops c.in_default.ensures
    (byte_at _ _ c.gap_front-gap.ensures.within c.if-gap-text.false) c.in-Some-token_front.ensures.0 (c.is_open_prefix.ensures.0 c.if-is_open_prefix.true) c.new-then-is_open_prefix.ensures

pub returns-clause-answered : goal.returns-clause-answered
returns-clause-answered c =
    lexeme _ _ _ _ c.gap_front-gap.ensures.within c.gap_front-gap.ensures.taken c.gap_front-gap.ensures.stops c.in_default.ensures
    (byte_at _ _ c.gap_front-gap.ensures.within c.if-gap-text.false) c.in-Some-token_front.ensures.0 c.in-Some-token_front.ensures.1 (unopened_front c.args.text.now c.in-Some-token_front.front.gap _ c.is_open_prefix.ensures.1 c.if-is_open_prefix.false)
