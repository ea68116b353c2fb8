use Rattle.bz_lex.proofs.Words.{arith, no_token, refl}
use Rattle.bz_lex.proofs.{Lexing.lexed_more, Lexing.shorter, Stopping.stop_placed}
use Rattle.bz_lex.proofs.source.lexical_fault.Goals as goal

pub tokens-init : goal.tokens-init
tokens-init c = record { lexed = no_token; within = omega arith }

pub tokens-smaller : goal.tokens-smaller
tokens-smaller c = shorter _ _ _ (rw c.in-Ok-Some.field-0-is at c.in-Ok-Some.ensures.answered) c.rest_of-rest.ensures

pub tokens-preserved : goal.tokens-preserved
tokens-preserved c = record {
  lexed = rw c.rest_of-rest.ensures (lexed_more _ _ _ c.tokens.invariant.lexed (rw c.in-Ok-Some.field-0-is at c.in-Ok-Some.ensures.answered));
  within = let less = shorter _ _ _ (rw c.in-Ok-Some.field-0-is at c.in-Ok-Some.ensures.answered) c.rest_of-rest.ensures in let le = c.tokens.invariant.within in omega arith;
}

pub returns-in-Err : goal.returns-in-Err
returns-in-Err c = stop_placed _ _ _ _ _ c.tokens.invariant.lexed c.tokens.invariant.within c.in-Err.ensures.stops c.fault_at.ensures.answered refl
