-- The names and the numbers of refusals.
use Rattle.std.specs.Prelude.{ℕ, codes}
use Rattle.bz_items.specs.Characters.{Bytes}
use Rattle.bz_value.specs.declared.refusal.Refusal.{Refusal}
use Rattle.bz_value.specs.declared.refusal.Refusal.TheVariants.{Memory, TooLarge, TooDeep, NoTarget, NoAttribute, AttributeExists, NotAList, NotADict, NoSource, NameTaken, TooFar, Full, NoteTooLong}

-- the table of refusals: names
abbrev pub refusal_name : Refusal → Bytes
refusal_name Memory = codes "Memory"
refusal_name TooLarge = codes "TooLarge"
refusal_name TooDeep = codes "TooDeep"
refusal_name NoTarget = codes "NoTarget"
refusal_name NoAttribute = codes "NoAttribute"
refusal_name AttributeExists = codes "AttributeExists"
refusal_name NotAList = codes "NotAList"
refusal_name NotADict = codes "NotADict"
refusal_name NoSource = codes "NoSource"
refusal_name NameTaken = codes "NameTaken"
refusal_name TooFar = codes "TooFar"
refusal_name Full = codes "Full"
refusal_name NoteTooLong = codes "NoteTooLong"

-- the table of refusals: numbers
abbrev pub refusal_number : Refusal → ℕ
refusal_number Memory = 8
refusal_number TooLarge = 21
refusal_number TooDeep = 22
refusal_number NoTarget = 41
refusal_number NoAttribute = 42
refusal_number AttributeExists = 43
refusal_number NotAList = 44
refusal_number NotADict = 45
refusal_number NoSource = 46
refusal_number NameTaken = 47
refusal_number TooFar = 61
refusal_number Full = 62
refusal_number NoteTooLong = 63
