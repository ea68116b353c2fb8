use Rattle.bz_label.proofs.LabelFunctions.{shortened_once, unrepeated_once}
use Rattle.bz_label.proofs.Shorter.{shortened_same, shortened_stays, unrepeated_same, unrepeated_stays}
use Rattle.bz_label.proofs.laws.shorter_forms.Goals as goal

pub returns-clause-shortened : goal.returns-clause-shortened
returns-clause-shortened c = λ current text short h. (shortened_same current text short h, shortened_stays current text short h)

pub returns-clause-unrepeated : goal.returns-clause-unrepeated
returns-clause-unrepeated c = λ text short h. (λ current. unrepeated_same current text short h, unrepeated_stays text short h)

pub returns-clause-one_shortened : goal.returns-clause-one_shortened
returns-clause-one_shortened c = shortened_once

pub returns-clause-one_unrepeated : goal.returns-clause-one_unrepeated
returns-clause-one_unrepeated c = unrepeated_once
