use Rattle.bz_journal_format.proofs.Words.{[], ◌∷◌, ◌≡◌, after_mark, codes, encode_lower, line_feed, None, rules, sha256, Some}
use Rattle.bz_journal_format.proofs.Marks.{no_front, no_middle, at_end}
use Rattle.bz_journal_format.proofs.lines.is_end.Goals as goal

pub returns-in_default : goal.returns-in_default
returns-in_default c = no_front (codes "end ") (encode_lower (sha256 c.args.lines.now)) (line_feed ∷ []) c.args.input.now (search rules)

pub returns-in_default-strip_mark : goal.returns-in_default-strip_mark
returns-in_default-strip_mark c =
    let none : after_mark (encode_lower (sha256 c.args.lines.now)) c.in-Some.rest.now ≡ None = search rules in
    no_middle (codes "end ") (encode_lower (sha256 c.args.lines.now)) (line_feed ∷ []) c.args.input.now c.in-Some.rest.now c.in-Some.ensures none

pub returns : goal.returns
returns c =
    let some : after_mark (encode_lower (sha256 c.args.lines.now)) c.in-Some.rest.now ≡ Some c.in-Some-strip_mark.rest.now = search rules in
    at_end (codes "end ") (encode_lower (sha256 c.args.lines.now)) (line_feed ∷ []) c.args.input.now c.in-Some.rest.now c.in-Some.ensures c.in-Some-strip_mark.rest.now c.eq.result some (search rules)
