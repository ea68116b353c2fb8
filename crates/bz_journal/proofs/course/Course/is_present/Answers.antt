use Rattle.bz_journal.proofs.Words.{◌↔◌, ◌∙◌, ◌≡◌, ap, IsTrue, List, Node, Part, present, Reads, session_history, spell_node, subst, sym, window_parts, with_windows}
use Rattle.bz_journal.proofs.MadeLines.{parts_stay}
use Rattle.bz_journal.proofs.course.Course.is_present.Goals as goal

pub returns : goal.returns
returns c =
    let tree : Node = c.args.self.now.tree in
    let same : c.present-here.result.now ≡ tree = c.present-here.ensures.tree in
    let reads : Reads (spell_node tree) tree = subst (λ (n : Node). Reads (spell_node n) n) same c.reads_back.ensures in
    let is : spell_node tree ≡ present (session_history c.args.self.now) = ap spell_node (sym same) ∙ c.present-here.ensures.text in
    let stays : IsTrue c.stay.result ↔ (window_parts c.args.windows.now tree.parts ≡ tree.parts) =
    subst (λ (ps : List Part). IsTrue c.stay.result ↔ (window_parts c.args.windows.now ps ≡ ps)) (c.as_slice.ensures ∙ ap (λ (n : Node). n.parts) (c.here.view_is ∙ same)) c.stay.ensures in
    let text = parts_stay c.one_reading.ensures (with_windows c.args.windows.now tree) tree (present (session_history c.args.self.now)) (c.requires.next.0.legal.file.root ∙ sym reads.0.legal.file.root) c.requires.next reads is in
    (λ yes. text.0 (stays.0 yes), λ kept. stays.1 (text.1 kept))
