-- The name that a command's words begin with: whether it is in the table, and what is read by it.
use Rattle.bz_command_syntax.proofs.Imported.{[], ◌∙◌, ◌∷◌, ◌≡◌, ap, Arguments, Bytes, bytes_eq, cases_Bool, command_forms, command_in, command_names, commands, Err, false, false_from_ne_true, if◌then◌else◌, inl, inr, List, listed_in, map, None, Option, option_map_or, read_by_profile, ReadCommand, refl, row_named, Some, subst, sym, true, Unknown}
use Rattle.std.proofs.lemmas.Slice.Eq.{bytes_eq-Decides}
use Rattle.bz_command_syntax.specs.Refused.{IsReadAs}
use Rattle.bz_command_syntax.specs.declared.profile.Profile.{Profile}

abbrev Table : Type 0
Table = List (Bytes × (Bytes × (List Bytes → ReadCommand)))

-- ---- a name that is in the table

-- what is read by the name of a command is what is read by this one
pub by_name : (name known : Bytes) (words : List Bytes) (result : ReadCommand) → name ≡ known → IsReadAs (listed_in true (known ∷ words)) result
    → IsReadAs (listed_in true (name ∷ words)) result
by_name name known words result is answered = subst (λ (n : Bytes). IsReadAs (listed_in true (n ∷ words)) result) (sym is) answered

-- ---- a name that is not

-- it is none of these
abbrev pub IsNone : Bytes → List Bytes → Type 0
IsNone name [] = Unit {0}
IsNone name (known ∷ more) = (name ≡ known → ⊥) × IsNone name more

differs : (name text : Bytes) → (name ≡ text → ⊥) → bytes_eq name text ≡ false
differs name text other = false_from_ne_true _ (λ e. other ((bytes_eq-Decides name text).0 e))

none_in : (table : Table) (name : Bytes) → IsNone name (map (λ command. command.0) table) → row_named table name ≡ None
none_in [] name other = refl
none_in (command ∷ table) name other = rw (differs name command.0 other.0) (none_in table name other.1)

pub unknown : (name : Bytes) (words : List Bytes) → IsNone name command_names → IsReadAs (listed_in true (name ∷ words)) (Err Unknown)
unknown name words other = inl (inl (ap (λ found. option_map_or (λ (command : Bytes × (List Bytes → ReadCommand)). command.1 words) found (Err Unknown)) (none_in commands name other)))

-- ---- a text that is too long

-- what is answered by the forms of the command of this name
abbrev pub answered : Option Bytes → ReadCommand
answered None = Err Unknown
answered (Some forms) = Err Arguments

answered_by : (table : Table) (name : Bytes) (words : List Bytes)
    → option_map_or (λ (command : Bytes × (List Bytes → ReadCommand)). if false then command.1 words else Err Arguments) (row_named table name) (Err Unknown)
    ≡ answered (row_named (map (λ command. (command.0, command.1.0)) table) name)
answered_by [] name words = refl
answered_by (command ∷ table) name words = elim (cases_Bool (bytes_eq name command.0)) [
  | inl e ↦ rw e refl
  | inr e ↦ rw e (answered_by table name words)
]

in_profile : (profile : Profile) (forms : Option Bytes) → read_by_profile profile (answered forms) ≡ answered forms
in_profile profile None = refl
in_profile profile (Some forms) = refl

pub too_long : (profile : Profile) (name : Bytes) (words : List Bytes) (forms : Option Bytes) → forms ≡ row_named command_forms name
    → command_in profile false (name ∷ words) ≡ answered forms
too_long profile name words forms is =
    ap (read_by_profile profile) (answered_by commands name words ∙ ap answered (sym is)) ∙ in_profile profile forms
