-- What a refusal says of the text.
use Rattle.std.specs.Prelude.{◌≡◌, ◌≢◌, ◌↔◌, ◌≤◌, ◌<◌, ℕ, List, length}
use Rattle.std.specs.Str.{IsValidUpTo}
use Rattle.bz_lex.specs.declared.leaf.Leaf.{Leaf}
use Rattle.bz_lex.specs.declared.fault.ReadFault.{ReadFault}
use Rattle.bz_lex.specs.declared.fault.ReadFault.TheVariants as f
use Rattle.bz_grammar.specs.declared.tree.Node.{Node}
use Rattle.bz_grammar.specs.Legal.{IsFileOf}
use Rattle.bz_grammar.specs.Spell.{limit}

-- a fault of the text: every one but want of memory
abbrev pub IsOfText : ReadFault → Type 0
IsOfText f.Memory = ⊥
IsOfText _ = Unit {0}

-- a fault that neither the length of the text nor its coding gives
abbrev pub IsOther : ReadFault → Type 0
IsOther (f.NotUtf8 at) = ⊥
IsOther f.TooLarge = ⊥
IsOther _ = Unit {0}

-- A fault of the text: TooLarge and NotUtf8 exactly where it is that.
pub record IsFaultOf (text : List ℕ) (fault : ReadFault) : Type 0 where
  pub too_large : (fault ≡ f.TooLarge) ↔ (limit < length text)
  pub not_utf8 : (at : ℕ) → ((fault ≡ f.NotUtf8 at) ↔ ((length text ≤ limit) × IsValidUpTo text at))
  pub other : fault ≢ f.Memory

-- the leaves are no file
abbrev pub NoFile : List Leaf → Type 0
NoFile leaves = (n : Node) → IsFileOf leaves n → ⊥
