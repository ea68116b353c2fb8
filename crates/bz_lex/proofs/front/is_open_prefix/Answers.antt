use Rattle.bz_lex.proofs.Words.{both_ways, refl, whole_rest}
use Rattle.bz_lex.proofs.Stopping.{unmarked}
use Rattle.bz_lex.proofs.front.is_open_prefix.Goals as goal

pub returns-then-not-is_quote_at : goal.returns-then-not-is_quote_at
returns-then-not-is_quote_at c = (
  λ h. absurd (both_ways _ refl h),
  λ o. absurd (unmarked c.args.text.now _ c.args.front _ c.requires.token c.if-not-is_quote_at.true c.is_quote_at.ensures (whole_rest _ _ c.requires.within) o),
)
