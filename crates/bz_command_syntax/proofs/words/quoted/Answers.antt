use Rattle.bz_command_syntax.proofs.Imported.{◌∙◌, ◌≡◌, arith, Class as class, IsLexeme, IsUtf8, quoted_of, subst, sym}
use Rattle.std.proofs.lemmas.Grind.{common_steps}
use Rattle.bz_command_syntax.proofs.{Strings.quoted_lexeme, Strings.quoted_plain, Utf8Texts.quoted_utf8}
use Rattle.bz_command_syntax.proofs.words.quoted.Goals as goal

pub returns : goal.returns
returns c =
    let same : c.from_vec.result ≡ quoted_of c.args.word.now = grind (arith, common_steps) in
    record {
      value = same;
      lexeme = subst (IsLexeme class.String) (sym same) (quoted_lexeme c.args.word.now);
      utf8 = λ u. subst IsUtf8 (sym same) (quoted_utf8 c.args.word.now u);
      plain = λ h. same ∙ quoted_plain c.args.word.now h;
    }
