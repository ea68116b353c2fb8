use Rattle.bz_command_syntax.proofs.Imported.{◌++◌, ◌∙◌, ap, AreUtf8, Bytes, nil_from_length, subst, sym, words_after}
use Rattle.bz_command_syntax.proofs.{Pieces.words_end, Utf8Texts.words_utf8}
use Rattle.bz_command_syntax.proofs.words.read_words.Goals as goal

pub returns : goal.returns
returns c =
    let l = c.loop-byte in
    let none = nil_from_length l.left.now c.in_default.ensures.cases in
    let same = c.in_ok-close-2.ensures ∙ (ap (λ more. l.words.items ++ more) (sym (words_end l.word.items l.after_backslash))
    ∙ (ap (λ (left : Bytes). l.words.items ++ words_after l.word.items l.after_backslash left) (sym none) ∙ l.invariant)) in
    record { words = same; utf8 = λ u. subst AreUtf8 (sym same) (words_utf8 c.args.text.now u) }
