use Rattle.bz_journal.proofs.Words.{◌++◌, ◌∙◌, ap, List, refl, saved, ℕ}
use Rattle.bz_journal.proofs.Following.{has_moved}
use Rattle.bz_journal.proofs.session.Session.written_since.Goals as goal

pub returns : goal.returns
returns c = (
  has_moved c.cursor.result c.args.from _ c.args.from c.if-cursor-from.false c.cursor.ensures refl,
  record {
    stored = c.in_ok-save_into.ensures.ok ∙ ap (λ (l : List ℕ). l ++ saved c.args.self.now) c.new-journal.ensures.items;
    own = c.in_ok-save_into.ensures.journal;
    text = c.in_ok-text.ensures ∙ c.present.ensures.text;
  },
)
