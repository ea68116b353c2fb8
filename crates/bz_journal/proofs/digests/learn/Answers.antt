use Rattle.bz_journal.proofs.Words.{[], ◌++◌, ◌<◌, ◌∙◌, ◌∷◌, ◌≡◌, ap, Bytes, length, List, rules, session_history, slice_index_or, subst, sym, ℕ}
use Rattle.bz_journal.proofs.Digested.{learn_next}
use Rattle.bz_journal.proofs.digests.learn.Goals as goal

pub returns : goal.returns
returns c =
    let first = c.args.digests.now.items in
    let texts : List Bytes = (session_history c.args.course.now).texts in
    let here : length first ≡ c.cursor-cursor.result = search rules in
    let grown : c.push.new.self.items ≡ first ++ c.digest.result ∷ [] = search rules in
    learn_next c.cursor-cursor.result first c.push.new.self.items texts c.as_slice.result.now c.digest.result c.requires.first here
    (subst (λ (k : ℕ). k < length texts) (sym c.cursor-cursor.ensures) c.present-tree.ensures.within)
    (ap (λ (k : ℕ). slice_index_or texts k []) c.cursor-cursor.ensures ∙ sym (rw c.in-Ok.is at c.requires.text) ∙ sym c.as_slice.ensures.value) c.digest.ensures grown
