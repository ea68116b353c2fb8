use Rattle.bz_journal.proofs.Words.{◌∙◌, ◌≡◌, ap, Do, Err, Form, History, MakesOrWants, opened, past_history, present, spell_node, string_bytes, subst, sym}
use Rattle.bz_journal.proofs.{Acting.acts_refused, LastText.last_done}
use Rattle.bz_journal.proofs.past.Past.act_last.Goals as goal

pub returns-in-Ok-clause-makes : goal.returns-in-Ok-clause-makes
returns-in-Ok-clause-makes c =
    let first = c.into_first-tree in
    let h : History = past_history c.args.self.now in
    let form : c.args.self.now ≡ Form.Course c.in-Course.course = sym c.self.view_is ∙ sym c.replace.ensures.value ∙ c.in-Course.is in
    let own : h ≡ opened (string_bytes first.result.1) (spell_node first.result.0) = ap past_history form ∙ first.ensures.first in
    let spelled : c.args.text.items ≡ spell_node first.result.0 = c.requires.text ∙ ap present own in
    last_done (string_bytes c.args.note) c.args.command.now c.args.target.now h c.taken_up-texts.result.0 c.as_bytes.result.now (string_bytes first.result.1) c.args.text.items first.result.0 c.in-Ok.made c.in-Ok.printed
    c.taken_up-texts.result.1 (own ∙ ap (opened (string_bytes first.result.1)) (sym spelled)) spelled c.as_bytes.ensures.value c.in-Ok.ensures.ok c.taken_up-texts.ensures

pub returns-in-Err-clause-makes : goal.returns-in-Err-clause-makes
returns-in-Err-clause-makes c =
    let first = c.into_first-tree in
    let h : History = past_history c.args.self.now in
    let form : c.args.self.now ≡ Form.Course c.in-Course.course = sym c.self.view_is ∙ sym c.replace.ensures.value ∙ c.in-Course.is in
    let own : h ≡ opened (string_bytes first.result.1) (spell_node first.result.0) = ap past_history form ∙ first.ensures.first in
    let spelled : c.args.text.items ≡ spell_node first.result.0 = c.requires.text ∙ ap present own in
    let same : h ≡ opened (string_bytes first.result.1) c.args.text.items = own ∙ ap (opened (string_bytes first.result.1)) (sym spelled) in
    subst (λ (after : History). MakesOrWants (Do c.args.command.now c.args.target.now) (string_bytes c.args.note) h (Err c.in-Err.refusal) after) (same ∙ sym c.of_first.ensures)
    (acts_refused (string_bytes c.args.note) c.args.command.now c.args.target.now h c.as_bytes.result.now (spell_node first.result.0) c.in-Err.refusal (c.as_bytes.ensures.value ∙ sym (ap (λ (g : History). g.«package») own))
    (sym spelled ∙ sym (ap present same)) c.in-Err.ensures.err)
