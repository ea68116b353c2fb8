use Rattle.bz_buildozer.proofs.Words.{◌∙◌, ap, Bool, folder_of, if◌then◌else◌, input_package, sym}
use Rattle.bz_buildozer.proofs.acting.label_package.Goals as goal

pub returns-then-is_of_input : goal.returns-then-is_of_input
returns-then-is_of_input c = c.as_bytes.ensures.value
    ∙ sym (ap (λ (b : Bool). if b then input_package else folder_of c.args.name.now) (sym c.is_of_input.ensures ∙ c.if-is_of_input.true))

pub returns : goal.returns
returns c = c.as_bytes-2.ensures.value ∙ c.folder_of.ensures
    ∙ sym (ap (λ (b : Bool). if b then input_package else folder_of c.args.name.now) (sym c.is_of_input.ensures ∙ c.if-is_of_input.false))
