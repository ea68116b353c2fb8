use Rattle.bz_journal_format.proofs.Words.{[], ◌++◌, ◌∙◌, ◌∷◌, ap, codes, counted_text, digest_text, encode_lower, end_line, entry_text, flat_map, last_number, line_feed, record_in, sha256, space, spaced_number, sym, version_line}
use Rattle.bz_journal_format.proofs.{Appends.end_pushed, Appends.lines_pushed, Paired.entries_length}
use Rattle.bz_journal_format.proofs.writing.joined_lines.Goals as goal

pub returns : goal.returns
returns c =
    let v = c.args.version in
    let r = record_in c.args.content.now in
    let all = c.extend_from_slice-8.new.self.items in
    let count = sym (entries_length c.args.content.now.notes.now c.args.content.now.steps.now c.requires.noted) in
    let lines = lines_pushed [] (version_line v) (codes "package ") (counted_text space r.package) (line_feed ∷ []) (codes "text ") (counted_text line_feed r.text)
    (codes "steps ") _ (codes "now ") (spaced_number r.cursor) (codes "before ") (last_number r.before) (flat_map digest_text r.digests) (flat_map (entry_text v) r.steps)
    _ _ _ _ _ _ _ _ _ _ _ _ _
    (c.in_ok-extend_from_slice.ensures.items ∙ ap (λ t. t ++ c.version_line.result.now) c.new-bytes.ensures.items ∙ c.version_line.ensures) c.in_ok-extend_from_slice-2.ensures.items
    c.in_ok-push_counted.ensures c.in_ok-extend_from_slice-3.ensures.items c.in_ok-push_counted-2.ensures c.in_ok-extend_from_slice-4.ensures.items
    (c.in_ok-push_number.ensures ∙ ap (λ k. c.extend_from_slice-4.new.self.items ++ spaced_number k) count)
    c.in_ok-extend_from_slice-5.ensures.items c.in_ok-push_number-2.ensures c.in_ok-extend_from_slice-6.ensures.items c.in_ok-push_number-3.ensures
    (c.in_ok-extend_from_slice-7.ensures.items ∙ ap (λ t. c.push_number-3.new.out.items ++ t) (c.as_slice.ensures.value ∙ c.requires.lines.digest_lines))
    (c.in_ok-extend_from_slice-8.ensures.items ∙ ap (λ t. c.extend_from_slice-7.new.self.items ++ t) (c.as_slice-2.ensures.value ∙ c.requires.lines.step_lines)) in
    end_pushed all (codes "end ") (encode_lower (sha256 all)) (line_feed ∷ [])
    c.extend_from_slice-9.new.self.items c.extend_from_slice-10.new.self.items c.push.new.self.items
    c.in_ok-extend_from_slice-9.ensures.items
    (c.in_ok-extend_from_slice-10.ensures.items ∙ ap (λ t. c.extend_from_slice-9.new.self.items ++ t) (c.hex_digits-digits.ensures ∙ ap encode_lower (c.digest.ensures ∙ ap sha256 c.as_slice-3.ensures.value)))
    c.in_ok-push.ensures.items ∙ ap (λ t. t ++ end_line t) lines
