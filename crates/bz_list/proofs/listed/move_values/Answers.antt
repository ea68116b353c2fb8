use Rattle.bz_list.proofs.Words.{[], ◌∙◌, ◌≡◌, attribute, chooses, has_lists, inl, inr, rules, Some, true}
use Rattle.std.proofs.lemmas.Result.{err_from_is_err_and}
use Rattle.bz_list.proofs.ListedForms.{nothing_moved, something_moved, not_emptied}
use Rattle.bz_command_syntax.specs.declared.command.Selects.TheVariants.{Skipped}
use Rattle.bz_list.proofs.listed.move_values.Goals as goal

pub returns-then-is_empty-clause-ok : goal.returns-then-is_empty-clause-ok
returns-then-is_empty-clause-ok c =
    let value = c.in-Some.value.now in
    let own : attribute c.args.from.attribute.now c.args.arguments.now ≡ Some value = search rules in
    let lists : has_lists Skipped value ≡ true = search rules in
    let none : c.in_ok-taken.taken ≡ [] = search rules in
    nothing_moved c.args.from.current.now c.args.from.attribute.now c.args.to.now c.args.values.now c.args.arguments.now (chooses c.args.from.current.now c.args.from.attribute.now c.in_ok-chosen.chosen) c.in_ok-chosen.ensures
    value c.in_ok-taken.taken c.take_items.new.arguments own lists c.in_ok-taken.ensures.taken c.in_ok-taken.ensures.left none

pub returns-clause-ok : goal.returns-clause-ok
returns-clause-ok c =
    let value = c.in-Some.value.now in
    let own : attribute c.args.from.attribute.now c.args.arguments.now ≡ Some value = search rules in
    let lists : has_lists Skipped value ≡ true = search rules in
    let moved = something_moved c.args.from.current.now c.args.from.attribute.now c.args.to.now c.args.values.now c.args.arguments.now (chooses c.args.from.current.now c.args.from.attribute.now c.in_ok-chosen.chosen) c.in_ok-chosen.ensures
    value c.in_ok-taken.taken c.take_items.new.arguments own lists c.in_ok-taken.ensures.taken c.in_ok-taken.ensures.left (not_emptied c.in_ok-taken.taken c.if-is_empty.ensures) in
    moved ∙ c.in_ok-add_items.ensures.ok

pub returns-in_err-add_items-clause-err : goal.returns-in_err-add_items-clause-err
returns-in_err-add_items-clause-err c =
    let value = c.in-Some.value.now in
    let own : attribute c.args.from.attribute.now c.args.arguments.now ≡ Some value = search rules in
    let lists : has_lists Skipped value ≡ true = search rules in
    let moved = something_moved c.args.from.current.now c.args.from.attribute.now c.args.to.now c.args.values.now c.args.arguments.now (chooses c.args.from.current.now c.args.from.attribute.now c.in_ok-chosen.chosen) c.in_ok-chosen.ensures
    value c.in_ok-taken.taken c.take_items.new.arguments own lists c.in_ok-taken.ensures.taken c.in_ok-taken.ensures.left (not_emptied c.in_ok-taken.taken c.if-is_empty.ensures) in
    let p = err_from_is_err_and c.from_residual-in_err-add_items.result c.from_residual-in_err-add_items.ensures.1 in
    rw (p.1, p.2) (elim c.in_err-add_items.ensures.err [
      | inl is ↦ inl (moved ∙ is)
      | inr memory ↦ inr memory
    ])
