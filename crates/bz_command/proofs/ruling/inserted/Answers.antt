use Rattle.bz_command.proofs.Words.{◌∙◌, ap, insert, Item, List, others, put_in, sym, true≢false}
use Rattle.bz_command.proofs.ruling.inserted.Goals as goal

pub returns-clause-compared : goal.returns-clause-compared
returns-clause-compared c =
    let is = c.from_vec.ensures ∙ (c.in_ok-insert.ensures.items ∙ ap (λ (items : List Item). insert items c.args.at c.args.new) c.into_vec-all.ensures) in
    let other = others c.args.at c.args.new c.args.items c.from_vec.result c.requires is in record {
      windows = c.in_ok-windows_of.ensures.over c.args.items c.from_vec.result other (put_in c.args.at c.args.new c.args.items c.from_vec.result c.requires is);
      same = c.in_ok-windows_of.ensures.same c.args.items c.from_vec.result other;
      names = λ none. absurd (true≢false (sym none));
    }
