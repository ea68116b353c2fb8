use Rattle.bz_list.proofs.Words.{rules, value_changed_by}
use Rattle.bz_list.proofs.ListedForms.{named_there}
use Rattle.bz_list.proofs.replacing.Change.on_attributes.Goals as goal

pub returns : goal.returns
returns c =
    named_there c.args.attributes.now c.in-Named.name (value_changed_by c.args.selects c.args.self c.args.current.now) c.args.arguments.now c.in-Named.is c.in-Some.at c.at_mut.result.now c.on_argument.new.x
    c.at_mut.ensures.value (search rules) (search rules)
