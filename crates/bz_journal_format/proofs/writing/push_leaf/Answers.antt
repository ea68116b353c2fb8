use Rattle.bz_journal_format.proofs.Words.{[], ◌++◌, ◌∙◌, ◌∷◌, ap, class_number, codes, last_number, length, line_feed, spaced_number}
use Rattle.bz_journal_format.proofs.Appends.{leaf_pushed}
use Rattle.bz_journal_format.proofs.writing.push_leaf.Goals as goal

pub returns : goal.returns
returns c =
    let l = c.args.leaf.now in
    leaf_pushed c.args.out.now.items (codes "leaf ") (spaced_number (class_number l.class)) (spaced_number (length l.gap)) (last_number (length l.token)) l.gap l.token (line_feed ∷ [])
    c.extend_from_slice.new.self.items c.push_number.new.out.items c.push_number-2.new.out.items c.push_number-3.new.out.items c.extend_from_slice-2.new.self.items c.extend_from_slice-3.new.self.items c.push.new.self.items
    c.in_ok-extend_from_slice.ensures.items
    (c.in_ok-push_number.ensures ∙ ap (λ k. c.extend_from_slice.new.self.items ++ spaced_number k) c.number.ensures)
    (c.in_ok-push_number-2.ensures ∙ ap (λ k. c.push_number.new.out.items ++ spaced_number k) c.len.ensures)
    (c.in_ok-push_number-3.ensures ∙ ap (λ k. c.push_number-2.new.out.items ++ last_number k) c.len-2.ensures)
    (c.in_ok-extend_from_slice-2.ensures.items ∙ ap (λ k. c.push_number-3.new.out.items ++ k) c.as_slice.ensures)
    (c.in_ok-extend_from_slice-3.ensures.items ∙ ap (λ k. c.extend_from_slice-2.new.self.items ++ k) c.as_slice-2.ensures)
    c.in_ok-push.ensures.items
