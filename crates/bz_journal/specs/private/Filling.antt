-- What is known of what a command makes of items before all of them are made.
use Rattle.std.specs.Prelude.{◌≡◌, ◌≢◌, ◌≤◌, ◌<◌, ℕ, Bool, true, List, [], ◌∷◌, Option, Result, Ok, Err, All, IfOk, length}
use Rattle.std.specs.Option.{option_copied}
use Rattle.bz_journal.specs.Words.{Bytes, Expr, IsProperItem, Item, NewItem, Operation, Refusal, Work, layout, limit, meant, on_meant, on_one, tidied}

-- what is made of items is something else, and past the limit of a text
abbrev pub Overfills : List Item → Result (List Item) Refusal → Type 0
Overfills before (Ok items) = (items ≢ before) × (limit < length (layout (tidied items)))
Overfills before (Err refusal) = ⊥

-- what is made of an item, where what that is need not be known
unfoldable pub item_made : Operation → Bytes → Option Expr → Item → NewItem
item_made operation current found item = on_one operation current found item

abbrev pub item_made_by : Work → Item → NewItem
item_made_by work = item_made work.command.now work.current.now (option_copied work.found)

-- what is made of the items that a target means
abbrev pub items_made_by : Work → List Item → Result (List Item) Refusal
items_made_by work items = on_meant (item_made_by work) (meant work.target.now.which work.lines.now items) items

-- what is made of each item is proper
abbrev pub AreProperMade : (Item → NewItem) → List Item → Type 0
AreProperMade change items = All (λ item. IfOk (change item) IsProperItem) items

-- how many bytes an item has in a file of its own
unfoldable pub alone_length : Item → ℕ
alone_length item = length (layout (tidied (item ∷ [])))

-- What is made of an item has at least this many bytes in a file of its own; and it is another item, where that is said.
abbrev pub Grows : ℕ → Bool → Item → NewItem → Type 0
Grows size differs item (Ok new) = (size ≤ alone_length new) × (differs ≡ true → new ≢ item)
Grows size differs item (Err refusal) = ⊥
