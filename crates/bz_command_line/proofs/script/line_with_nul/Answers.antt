use Rattle.bz_command_line.proofs.Words.{◌+◌, ◌∙◌, ap, has_nul, option_map, sym, ℕ}
use Rattle.bz_command_line.proofs.Texts.{place_in_texts}
use Rattle.bz_command_line.proofs.script.line_with_nul.Goals as goal

pub returns-in-Some : goal.returns-in-Some
returns-in-Some c = ap (option_map (λ (at : ℕ). at + 1)) (sym c.in-Some.is ∙ c.place_of_nul.ensures.place ∙ place_in_texts has_nul c.args.all.now)

pub returns-in-None : goal.returns-in-None
returns-in-None c = ap (option_map (λ (at : ℕ). at + 1)) (sym c.in-None.is ∙ c.place_of_nul.ensures.place ∙ place_in_texts has_nul c.args.all.now)
