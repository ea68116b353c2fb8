use Rattle.bz_command.proofs.Words.{◌++◌, ◌≡◌, decimal, drop, map, option_map, printed_field, seen_rule, spaced}
use Rattle.bz_command.proofs.printing.push_fields.Given as goal

abbrev pub invariant-loop-i : goal.invariant-loop-i
invariant-loop-i l =
    l.out.items ++ spaced (map (printed_field l.subject.current.now (option_map decimal l.subject.line) l.subject.item.now (seen_rule l.subject)) (drop l.i l.fields)) ≡
    l.fn.out.items ++ spaced (map (printed_field l.subject.current.now (option_map decimal l.subject.line) l.subject.item.now (seen_rule l.subject)) l.fields)
