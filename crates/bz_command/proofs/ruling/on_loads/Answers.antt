use Rattle.bz_command.proofs.Words.{◌∙◌, ap, ap₂, LoadOperation, loads_changed, new_load, Ok, replace_load, sym}
use Rattle.bz_command.proofs.ruling.on_loads.Goals as goal

pub returns-in_ok-made-in-New-clause-ok : goal.returns-in_ok-made-in-New-clause-ok
returns-in_ok-made-in-New-clause-ok c =
    ap (λ (operation : LoadOperation). loads_changed operation c.args.work.current.now c.args.items) c.in-New.is
    ∙ ap Ok (sym (c.with_load.ensures.items ∙ (c.in_ok-made-in-New.ensures.items
    ∙ ap₂ (λ path symbols. new_load path symbols c.args.items) c.as_slice.ensures c.as_slice-in-New.ensures)))
