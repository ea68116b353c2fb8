-- Kinds and their numbers.
use Rattle.bz_grammar.proofs.Words.{◌∙◌, ◌≡◌, ap, Kind, Kind as k, kind_number, kind_of, refl, same_Some, Some, sym}

pub of_number : (kind : Kind) → kind_of (kind_number kind) ≡ Some kind
of_number k.File = refl
of_number _ = refl

-- no two kinds have one number
pub same_kind : (a b : Kind) → kind_number a ≡ kind_number b → a ≡ b
same_kind a b e = same_Some a b (sym (of_number a) ∙ ap kind_of e ∙ of_number b)
