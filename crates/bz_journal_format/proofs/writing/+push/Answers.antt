use Rattle.bz_journal_format.proofs.Words.{◌++◌, ◌∙◌, ap, flat_map, last_number, on_ok_weaker, part_text, spaced_number}
use Rattle.bz_journal_format.proofs.Appends.{node_pushed}
use Rattle.bz_journal_format.proofs.writing.+push.Goals as goal

pub push_part-returns-in_ok-push_number-in-Node-2 : goal.push_part-returns-in_ok-push_number-in-Node-2
push_part-returns-in_ok-push_number-in-Node-2 t c =
    on_ok_weaker c.push_parts.result (λ h. node_pushed c.args.out.now.items c.extend_from_slice.new.self.items c.push_number.new.out.items c.push_number-in-Node.new.out.items c.push_parts.new.out.items c.args.part.now c.in-Node.node c.in-Node.is c.in_ok-extend_from_slice-in-Node.ensures.items (c.in_ok-push_number-in-Node.ensures ∙ ap (λ k. c.extend_from_slice.new.self.items ++ spaced_number k) c.number.ensures) (c.in_ok-push_number-in-Node-2.ensures ∙ ap (λ k. c.push_number.new.out.items ++ last_number k) c.len.ensures) (h ∙ ap (λ k. c.push_number-in-Node.new.out.items ++ flat_map part_text k) c.as_slice.ensures)) c.push_parts.ensures
