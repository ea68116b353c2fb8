use Rattle.std.proofs.Common.{◌≡◌, rules, sym, ◌∙◌}
use Rattle.std.specs.Prelude.{Some}
use Rattle.bz_change.proofs.SettingsTexts.{renamed}
use Rattle.bz_change.proofs.whole.rename.Goals as goal

pub returns : goal.returns
returns c =
    let is : Some c.in_ok-at.at ≡ c.place_of.result = search rules in
    let ok = renamed c.args.from.now c.args.to.now c.in_ok-name.name c.args.arguments.now c.as_slice.result.now c.as_slice-2.result.now c.in_ok-at.at c.at_mut.result.now c.set_name.new.argument (is ∙ c.place_of.ensures) c.as_slice.ensures
    (sym c.has_attribute.ensures ∙ c.if-has_attribute.false) c.as_slice-2.ensures c.at_mut.ensures.value c.in_ok-name.ensures c.set_name.ensures in
    record { ok = ok; err = tt }
