use Rattle.bz_command_syntax.proofs.Imported.{◌∙◌, ap, IsUtf8, IsUtf8-string_bytes, subst, sym}
use Rattle.bz_command_syntax.proofs.Alike.{as_matched}
use Rattle.bz_command_syntax.proofs.pattern.Compiled.replaced.Goals as goal

pub returns : goal.returns
returns c =
    let same = c.from_vec.ensures ∙ ap (λ bytes. bytes.items) c.into_bytes.ensures.value in
    record {
      ok = same ∙ c.in_ok-text.ensures.written.read _ _ c.in_ok-template.ensures.read
          ∙ as_matched c.args.template.now c.args.body.now (λ k. (c.type_inv.body k).fits) c.self.inside.regex _ _ _ c.self.view_is
          c.self.invariant.0 c.self.invariant.1 c.in_ok-matcher.ensures.pattern c.capture_names.ensures;
      utf8 = subst IsUtf8 (sym same) (IsUtf8-string_bytes c.in_ok-text.text);
    }
