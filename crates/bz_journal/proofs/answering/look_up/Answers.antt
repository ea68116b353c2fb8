use Rattle.bz_journal.proofs.Words.{◌∙◌, ◌≡◌, AreListed, Item, item_hash, List, map, subst}
use Rattle.bz_journal.proofs.answering.look_up.Goals as goal

pub returns-in_ok-of-in-Loads-clause-looked : goal.returns-in_ok-of-in-Loads-clause-looked
returns-in_ok-of-in-Loads-clause-looked c = record {
  named = c.look_up_lines.ensures.looked.named;
  begun = c.look_up_lines.ensures.looked.begun;
  hashed = c.look_up_lines.ensures.looked.hashed;
  listed = subst (λ (xs : List Item). AreListed c.in_ok-of-in-Loads.field-0 xs) (c.as_slice-items.ensures ∙ (c.file.view_is ∙ c.requires.value)) c.in_ok-of-in-Loads.ensures;
}

pub returns-in_ok-hashes_of-in-Puts-clause-looked : goal.returns-in_ok-hashes_of-in-Puts-clause-looked
returns-in_ok-hashes_of-in-Puts-clause-looked c = record {
  named = c.look_up_lines.ensures.looked.named;
  begun = c.look_up_lines.ensures.looked.begun;
  hashed = subst (λ (xs : List Item). c.in_ok-hashes_of-in-Puts.field-0 ≡ map item_hash xs) (c.as_slice-items.ensures ∙ (c.file.view_is ∙ c.requires.value)) c.in_ok-hashes_of-in-Puts.ensures;
  listed = c.look_up_lines.ensures.looked.listed;
}
