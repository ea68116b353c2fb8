use Rattle.bz_lex.proofs.Words.{◌≤◌, length, LexedTo}
use Rattle.bz_lex.proofs.source.lexical_fault.Given as goal

abbrev pub invariant-tokens : goal.invariant-tokens
invariant-tokens l = record { lexed : LexedTo l.text l.rest; within : length l.rest ≤ length l.text }

abbrev pub decreases-tokens : goal.decreases-tokens
decreases-tokens l = length l.rest
