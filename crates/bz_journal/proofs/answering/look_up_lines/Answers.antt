use Rattle.bz_journal.proofs.Words.{[], ◌∙◌, ◌≡◌, GivesAlike, IfSome, is_some, lines_begun, lines_of, List, None, Option, refl, Some, subst, sym, true, true≢false, unwrap_or, ℕ}
use Rattle.bz_journal.proofs.answering.look_up_lines.Goals as goal
use Rattle.bz_journal.proofs.answering.look_up_lines.Goals.{then-is_some-via-then-is_some, then-is_some-via-else-is_some+then-not-looks_at_lines}

given : (found : Option (List ℕ)) (lines : List ℕ) → is_some found ≡ true → IfSome found (λ own. own ≡ lines) → unwrap_or found [] ≡ lines
given None lines some is = absurd (true≢false (sym some))
given (Some own) lines some is = is

pub returns-then-is_some-clause-alike : goal.returns-then-is_some-clause-alike
returns-then-is_some-clause-alike c = elim c.then-is_some.branch [
  | then-is_some-via-then-is_some w ↦ subst (GivesAlike c.args.command.now c.args.target.now (lines_begun c.args.lookups.now))
      (given c.args.lookups.now.lines (lines_of c.args.tree.now) (sym c.is_some.ensures ∙ w.if-is_some.true) c.requires.begun) (λ current items. (refl, refl))
  | then-is_some-via-else-is_some+then-not-looks_at_lines w ↦ λ current items.
      c.lines_matter.ensures c.args.command.now c.args.target.now current (lines_begun c.args.lookups.now) (lines_of c.args.tree.now) items (sym w.looks_at_lines.ensures ∙ w.if-not-looks_at_lines.true)
]
