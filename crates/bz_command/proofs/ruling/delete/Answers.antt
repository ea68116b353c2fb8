use Rattle.bz_command.proofs.Words.{◌++◌, ◌+◌, ◌<◌, ◌∙◌, ◌∷◌, ◌≡◌, ap, append-nil, ap₂, arith, Bool, drop, drop_more, false, get_or, into_iter_items, IsGrown, Item, length, List, marked_places, marks_by, subst, sym, unmarked}
use Rattle.bz_command.proofs.{MeantPlaces.unmarked_none, TargetMarks.as_many}
use Rattle.bz_command.proofs.ruling.delete.Goals as goal

pub loop-at-preserved : goal.loop-at-preserved
loop-at-preserved c =
    let l = c.loop-at in
    let items = c.args.items in
    let marks = marks_by c.args.work items in
    let at = l.at-iterator.count in
    let after = c.next.new.self.count in
    let rest = into_iter_items c.next.new.self.iter in
    let kept = c.push_unmarked.new.kept.items in
    let split = c.in-Some.ensures.steps.0.0 in
    let here = c.in-Some.ensures.steps.1 in
    let next = c.in-Some.ensures.steps.2 in
    let fewer = ap length split in
    let many = as_many c.args.work.target.now.which c.args.work.lines.now items in
    let there : at < length marks = omega (arith, many, fewer, l.invariant.count) in
    let first = drop_more marks at false there in
    let mark = c.take_place-mark.ensures (get_or marks at false) (drop (at + 1) marks) (l.invariant.left ∙ (ap (marked_places at) first ∙ ap (λ n. marked_places n (get_or marks at false ∷ drop (at + 1) marks)) (sym here))) in
    let pushed = c.in_ok-push_unmarked.ensures in record {
      stay =
          ap (λ n. kept ++ unmarked (drop n marks) rest) next
          ∙ (pushed.stay (drop (at + 1) marks) rest
          ∙ (ap (λ (b : Bool). l.kept.items ++ unmarked (b ∷ drop (at + 1) marks) (c.in-Some.item ∷ rest)) mark.0
          ∙ (ap₂ (λ (bs : List Bool) (xs : List Item). l.kept.items ++ unmarked bs xs) (sym first) (sym split) ∙ l.invariant.stay)));
      left = mark.1 ∙ (ap (λ n. marked_places n (drop (at + 1) marks)) (omega (arith, here, next)) ∙ ap (λ n. marked_places after (drop n marks)) (sym next));
      count = omega (arith, next, fewer, l.invariant.count);
      grown = pushed.grown items rest (subst (λ (xs : List Item). IsGrown l.growing items (l.kept.items ++ xs)) split l.invariant.grown);
      past = pushed.past;
      fewer = omega (arith, fewer, pushed.count, l.invariant.fewer);
      none = λ full. pushed.none (omega (arith, full, fewer, pushed.count, l.invariant.fewer)) ∙ l.invariant.none (omega (arith, full, fewer, pushed.count, l.invariant.fewer));
    }

pub returns-clause-items : goal.returns-clause-items
returns-clause-items c =
    let l = c.loop-at in
    let rest = into_iter_items l.at-iterator.iter in
    let none : length rest ≡ 0 = omega (arith, c.in-None.ensures.steps.0.0, l.at-iterator.iter.rest.ok.0) in
    let marks = drop l.at-iterator.count (marks_by c.args.work c.args.items) in
    c.from_vec.ensures ∙ (sym (ap (λ (xs : List Item). l.kept.items ++ xs) (unmarked_none marks rest none) ∙ append-nil l.kept.items) ∙ l.invariant.stay)
