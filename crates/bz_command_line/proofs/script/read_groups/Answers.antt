use Rattle.bz_command_line.proofs.Words.{◌+◌, ◌∙◌, ◌≡◌, All, All-push, ap, arith, HasPath, in_front, line_group, map, Ok, requested_in, rules, sym, usage_in}
use Rattle.std.proofs.lemmas.Grind.{common_steps}
use Rattle.bz_command_line.specs.declared.requested.Requested.{Requested}
use Rattle.bz_command_line.proofs.InTurn.{fault_turn, groups_turn, text_at, texts_in}
use Rattle.bz_command_line.proofs.script.read_groups.Goals as goal

pub loop-at-preserved-then-not-is_read : goal.loop-at-preserved-then-not-is_read
loop-at-preserved-then-not-is_read c =
    let groups = map requested_in c.loop-at.groups.items in
    let turn : in_front (Ok groups) (line_group c.args.profile (c.loop-at.at + 1) (text_at c.args.lines.now c.loop-at.at)) ≡ Ok groups = search rules in
    record { answered = groups_turn c.args.profile c.args.lines.now c.loop-at.at groups groups c.loop-at-test.true c.loop-at.invariant.answered turn; paths = c.loop-at.invariant.paths }

pub loop-at-preserved : goal.loop-at-preserved
loop-at-preserved c =
    let groups = map requested_in c.loop-at.groups.items in
    let more = map requested_in c.push_reserved.new.self.items in
    let turn : in_front (Ok groups) (line_group c.args.profile (c.loop-at.at + 1) (text_at c.args.lines.now c.loop-at.at)) ≡ Ok more = grind (arith, common_steps) in
    record {
      answered = groups_turn c.args.profile c.args.lines.now c.loop-at.at groups more c.loop-at-test.true c.loop-at.invariant.answered turn;
      paths = rw (c.push_reserved.ensures.items, c.reserve.ensures.items)
          (All-push (λ (requested : Requested). All HasPath requested.targets.items) c.loop-at.groups.items c.in-Ok-group_of.group c.loop-at.invariant.paths c.in-Ok-group_of.ensures.paths);
    }

pub returns-in-Err-clause-err : goal.returns-in-Err-clause-err
returns-in-Err-clause-err c =
    fault_turn c.args.profile c.args.lines.now c.loop-at.at (map requested_in c.loop-at.groups.items) (usage_in c.in-Err.fault) _ c.loop-at-test.true c.loop-at.invariant.answered
    (sym c.is_read.ensures ∙ c.if-not-is_read.false) (ap texts_in c.deref.ensures.value ∙ c.in-Ok.ensures) c.in-Err.ensures.err
