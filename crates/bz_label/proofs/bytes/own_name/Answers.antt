use Rattle.bz_label.proofs.Words.{◌∙◌, length, sym, take_rest}
use Rattle.bz_label.proofs.LabelFunctions.{own_cut, own_end}
use Rattle.bz_label.proofs.bytes.own_name.Goals as goal

pub returns : goal.returns
returns c =
    let text = c.args.text.now in
    let rest = c.in-Some.rest.now in
    let path = c.in-Some-cut_colon.package.now in
    let name = c.in-Some-cut_colon.name.now in
    let cut = c.in-Some-cut_colon.ensures in (
      own_cut c.args.current.now text rest path name c.in-Some.ensures (cut.1, cut.2, cut.3) ∙ sym c.if-not-is_current.ensures,
      take_rest rest (length path) ∙ own_end text rest path name c.in-Some.ensures cut.0 cut.3,
    )
