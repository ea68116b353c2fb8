use Rattle.bz_command_line.proofs.verb.words_hint.Goals as goal

pub returns : goal.returns
returns c = rw (c.in_ok-near.ensures, c.as_str.ensures.value, c.in_ok-form.ensures) at c.did_you_mean.ensures
