use Rattle.bz_lex.proofs.Words.{◌∙◌, ap, map, map-append, refl}
use Rattle.bz_lex.proofs.Lexing.{begin, next_turn, shorter, done}
use Rattle.bz_lex.proofs.Stopping.{stop_placed, stop_lexical}
use Rattle.bz_lex.proofs.source.lex.Goals as goal

pub tokens-init : goal.tokens-init
tokens-init c = record { lexed = rw c.new-tokens.ensures (begin _); text = c.utf8.source; whole = refl }

pub returns-in-Ok-None-clause-answered : goal.returns-in-Ok-None-clause-answered
returns-in-Ok-None-clause-answered c = rw c.into_vec.ensures (done _ _ _ c.tokens.invariant.lexed (rw (c.in-Ok-None.field-0-is, c.as_bytes.ensures.value) at c.in-Ok-None.ensures.answered))

pub tokens-smaller : goal.tokens-smaller
tokens-smaller c = shorter _ _ _ (rw (c.in-Ok-Some.field-0-is, c.as_bytes.ensures.value) at c.in-Ok-Some.ensures.answered) c.following-rest.ensures

pub tokens-preserved : goal.tokens-preserved
tokens-preserved c = record {
  lexed = next_turn _ _ _ _ _ _ _ c.tokens.invariant.lexed (rw (c.in-Ok-Some.field-0-is, c.as_bytes.ensures.value) at c.in-Ok-Some.ensures.answered) c.token_at-token.ensures
      (ap (map (λ token. token.now)) c.in_ok-push.ensures.ok ∙ map-append _ _ _) c.following-rest.ensures;
  text = c.following-rest.utf8;
  whole = refl;
}

pub returns-in-Err-clause-placed : goal.returns-in-Err-clause-placed
returns-in-Err-clause-placed c _ =
    let stop = rw c.as_bytes.ensures.value at c.in-Err.ensures.stops in
    let fault = rw c.as_bytes-in-Err.ensures.value at c.fault_at.ensures.answered in
    stop_placed _ _ _ _ _ c.tokens.invariant.lexed.lexed c.tokens.invariant.lexed.within stop fault refl

pub returns-in-Err-clause-lexical : goal.returns-in-Err-clause-lexical
returns-in-Err-clause-lexical c = stop_lexical _ _ _ _ _ c.in-Err.ensures.stops c.fault_at.ensures.answered
