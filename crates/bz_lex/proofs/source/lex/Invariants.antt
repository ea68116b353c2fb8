use Rattle.std.proofs.Common.{◌≡◌, length, map}
use denote.Shadow.{shadow}
use denote.Text.{Utf8}
use Rattle.bz_lex.proofs.Lexing.{IsLexedTo}
use Rattle.bz_lex.proofs.source.lex.Given as goal

abbrev pub invariant-tokens : goal.invariant-tokens
invariant-tokens l = record { lexed : IsLexedTo l.source (map (λ token. token.now) l.tokens) l.rest; text : shadow (Utf8 l.rest); whole : l.length ≡ length l.source }

abbrev pub decreases-tokens : goal.decreases-tokens
decreases-tokens l = length l.rest
