use Rattle.bz_passes.proofs.Words.{[], ◌∙◌, ◌∷◌, ◌≡◌, ap, arith, Class as classes, codes, is_unrepeated, refl, renamed, short_end, short_plain, turned, unrepeated_same, ℕ}
use Rattle.bz_passes.specs.Rows.{rule_named}
use Rattle.bz_passes.proofs.TokensKept.{argument_text, body_stays, other_body, other_name, unmoved, value_text, tokens_kept}
use Rattle.bz_passes.proofs.laws.worked_programs.Goals as goal

never : ◌≡◌ {A = ℕ} 0 1 → ⊥
never e = absurd (omega arith)

never_two : ◌≡◌ {A = ℕ} 2 1 → ⊥
never_two e = absurd (omega arith)

pub returns : goal.returns
unfolding Rattle.bz_value.specs.declared.value.Expr.TheBlock.hidden-the_row-Expr-0 denote.Hole.Carrier.hidden
returns c = (
  refl,
  refl,
  turned (codes "a") (short_plain refl short_end) (refl, refl) refl refl,
  renamed 34 (codes "//a") refl refl refl (λ current. unrepeated_same current (codes "//a:a") (codes "//a") (is_unrepeated (codes "//a:a"))),
  (λ h. never (tokens_kept _ _ h classes.Name (codes "deps") refl)),
  (λ h. never_two (tokens_kept _ _ h classes.Name (codes "name") refl)),
  (λ h. other_name (ap argument_text (unmoved _ _ (h.1 refl) (h.1 refl).quotes.same (λ g. refl) (λ g. refl) refl refl refl))),
  (λ h. other_body (ap value_text (unmoved _ _ (h.1 refl) ((h.1 refl).quotes.same ∙ ap (λ text. rule_named text ∷ []) (body_stays _ _ (h.1 refl))) (λ g. refl) (λ g. refl) refl refl refl))),
)
