use Rattle.bz_label.proofs.Words.{◌≡◌, ap, arith, codes, sym, text_from_reads, which_of}
use Rattle.bz_label.proofs.target.which_rules.Goals as goal

pub returns-in-95 : goal.returns-in-95
returns-in-95 c =
    let text : c.args.word.now ≡ codes "__pkg__" = text_from_reads c.args.word.now (codes "__pkg__") (omega arith) (omega arith, (omega arith, (omega arith, (omega arith, (omega arith, (omega arith, (omega arith, tt))))))) in
    sym (ap which_of text)
