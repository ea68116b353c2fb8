-- By its words alone no operand is refused for a pattern.
use Rattle.bz_command_line.proofs.Words.{[], ◌∷◌, ◌≡◌, ◌≢◌, aimed, BadTarget, Bool, by_command, Bytes, bytes_eq, codes, Command, count_of, Err, false, if◌then◌else◌, is_target, length, List, Memory, nat_le, None, Ok, ok_or, operand_target, Option, Refused, refused_for, Requested, requested_by, Result, Some, steps_of, subst, Target, true, verb_in, wanted, without_words, words_of, ℕ}
use Rattle.std.specs.{Option.option_map_or, Result.result_map_both}
use Rattle.bz_label.specs.TargetRead.{target_in}
use Rattle.bz_command_syntax.specs.Commands.{ReadCommand, begins_with_kind, command_in, commands, delete_of, listed_in, operation_of, prints_label, read_by_profile, remove_of, row_named, set_if_absent_of, set_of, set_select_of, text_limit}
use Rattle.bz_command_syntax.specs.declared.command.Operation.{Operation}
use Rattle.bz_command_syntax.specs.declared.profile.Profile.{Profile}
use Rattle.bz_command_syntax.specs.declared.profile.Profile.TheVariants.{Own, Bazelbuild}
use Rattle.bz_command_syntax.specs.declared.fault.CommandFault.TheVariants as c
use Rattle.bz_command_line.specs.declared.{verb.OperandFault.OperandFault, verb.Verb.Verb}
use Rattle.bz_command_line.specs.declared.verb.Verb.TheVariants.{Undo, Redo, Journal, Format}

-- ---- commands

abbrev IsOther : ReadCommand → Type 0
IsOther (Err c.BadPattern) = ⊥
IsOther _ = Unit {0}

of_parts : {X : Type 0} (make : X → Operation) (parts : Option X) → IsOther (operation_of make parts)
of_parts make None = tt
of_parts make (Some parts) = tt

of_test : (t : Bool) (a b : ReadCommand) → IsOther a → IsOther b → IsOther (if t then a else b)
of_test true a b f g = f
of_test false a b f g = g

of_delete : (words : List Bytes) → IsOther (delete_of words)
of_delete [] = tt
of_delete (word ∷ words) = tt

of_set : (words : List Bytes) → IsOther (set_of words)
of_set words = of_test (begins_with_kind words) _ _ (of_parts _ _) (of_parts _ _)

of_set_if_absent : (words : List Bytes) → IsOther (set_if_absent_of words)
of_set_if_absent words = of_test (begins_with_kind words) _ _ tt (of_parts _ _)

of_remove : (words : List Bytes) → IsOther (remove_of words)
of_remove [] = tt
of_remove (attribute ∷ values) = of_parts _ _

of_set_select : (words : List Bytes) → IsOther (set_select_of words)
of_set_select words = of_test (begins_with_kind words) _ _ tt (of_parts _ _)

abbrev AreOther : List (Bytes × (Bytes × (List Bytes → ReadCommand))) → Type 0
AreOther [] = Unit {0}
AreOther (row ∷ rows) = ((words : List Bytes) → IsOther (row.1.1 words)) × AreOther rows

-- each row of the table
commands_other : AreOther commands
commands_other = search (of_parts, of_delete, of_set, of_set_if_absent, of_remove, of_set_select) depth 80

abbrev read_by : Option (Bytes × (List Bytes → ReadCommand)) → Bool → List Bytes → ReadCommand
read_by found fits words = option_map_or (λ command. if fits then command.1 words else Err c.Arguments) found (Err c.Unknown)

of_found : (t fits : Bool) (words : List Bytes) (row : Bytes × (List Bytes → ReadCommand)) (more : Option (Bytes × (List Bytes → ReadCommand))) → IsOther (row.1 words)
    → IsOther (read_by more fits words) → IsOther (read_by (if t then Some row else more) fits words)
of_found true fits words row more this that = of_test fits (row.1 words) (Err c.Arguments) this tt
of_found false fits words row more this that = that

of_row : (rows : List (Bytes × (Bytes × (List Bytes → ReadCommand)))) → AreOther rows → (name : Bytes) (fits : Bool) (words : List Bytes)
    → IsOther (read_by (row_named rows name) fits words)
of_row [] are name fits words = tt
of_row (row ∷ rows) are name fits words =
    of_found (bytes_eq name row.0) fits words row.1 (row_named rows name) (are.0 words) (of_row rows are.1 name fits words)

of_listed : (fits : Bool) (words : List Bytes) → IsOther (listed_in fits words)
of_listed fits [] = tt
of_listed fits (name ∷ words) = of_row commands commands_other name fits words

of_profile : (profile : Profile) (read : ReadCommand) → IsOther read → IsOther (read_by_profile profile read)
of_profile Own (Ok operation) other = of_test (prints_label operation) (Err c.Arguments) (Ok operation) tt tt
of_profile Bazelbuild (Ok operation) other = tt
of_profile profile (Err fault) other = other

of_words : (profile : Profile) (fits : Bool) (words : List Bytes) → IsOther (command_in profile fits words)
of_words profile fits words = of_profile profile (listed_in fits words) (of_listed fits words)

-- ---- what is done with a file as a whole, and operands

abbrev IsOtherVerb : Result Verb OperandFault → Type 0
IsOtherVerb (Err (Command c.BadPattern)) = ⊥
IsOtherVerb _ = Unit {0}

of_command : (read : ReadCommand) → IsOther read → IsOtherVerb (by_command read)
of_command (Ok operation) other = tt
of_command (Err c.Unknown) other = tt
of_command (Err c.Arguments) other = tt
of_command (Err c.BadPattern) other = other
of_command (Err c.Memory) other = tt

of_count : (make : ℕ → Verb) (count : Option ℕ) → IsOtherVerb (result_map_both make (λ fault. fault) (ok_or count (Command c.Arguments)))
of_count make None = tt
of_count make (Some count) = tt

of_steps : (make : ℕ → Verb) (words : List Bytes) → IsOtherVerb (result_map_both make (λ fault. fault) (steps_of words))
of_steps make [] = tt
of_steps make (count ∷ []) = of_count make (count_of count)
of_steps make (count ∷ word ∷ words) = tt

of_none : (verb : Verb) (words : List Bytes) → IsOtherVerb (without_words verb words)
of_none verb [] = tt
of_none verb (word ∷ words) = tt

-- of a text that is not too long, where it is one of these, else of a command
module _ (fits : Bool) (read : Result Verb OperandFault) (other : IsOtherVerb read) where
  abbrev Fits : Option (Result Verb OperandFault) → Type 0
  Fits verb = IsOtherVerb (option_map_or (λ it. if fits then it else Err (Command c.Arguments)) verb read)

  of_some : (t : Bool) (verb : Result Verb OperandFault) (more : Option (Result Verb OperandFault)) → IsOtherVerb verb → Fits more → Fits (if t then Some verb else more)
  of_some false verb more f g = g
  of_some true verb more f g = by fits
    where
      by : (b : Bool) → IsOtherVerb (if b then verb else Err (Command c.Arguments))
      by true = f
      by false = tt

of_verb : (profile : Profile) (fits : Bool) (words : List Bytes) → IsOtherVerb (verb_in profile fits words)
of_verb profile fits [] = tt
of_verb profile fits (name ∷ words) =
    let read = by_command (command_in profile fits (name ∷ words)) in
    let other = of_command (command_in profile fits (name ∷ words)) (of_words profile fits (name ∷ words)) in
    of_some fits read other (bytes_eq name (codes "undo")) _ _ (of_steps Undo words)
    (of_some fits read other (bytes_eq name (codes "redo")) _ _ (of_steps Redo words)
    (of_some fits read other (bytes_eq name (codes "journal")) _ _ (of_none Journal words)
    (of_some fits read other (bytes_eq name (codes "format")) _ None (of_none Format words) other)))

abbrev IsOtherRefused : Result Requested Refused → Type 0
IsOtherRefused (Ok requested) = Unit {0}
IsOtherRefused (Err refused) = refused.fault ≢ Command c.BadPattern

of_wanted : (profile : Profile) (operand : Bytes) (verb : Result Verb OperandFault) → IsOtherVerb verb → IsOtherRefused (wanted profile operand verb)
of_wanted profile operand (Ok verb) other = tt
of_wanted profile operand (Err Memory) other = λ is. absurd (cc is)
of_wanted profile operand (Err BadTarget) other = λ is. absurd (cc is)
of_wanted profile operand (Err (Command c.Unknown)) other = λ is. absurd (cc is)
of_wanted profile operand (Err (Command c.Arguments)) other = λ is. absurd (cc is)
of_wanted profile operand (Err (Command c.BadPattern)) other = absurd other
of_wanted profile operand (Err (Command c.Memory)) other = λ is. absurd (cc is)

of_aimed : (profile : Profile) (operand : Bytes) (target : Option Target) → IsOtherRefused (aimed profile operand (ok_or target BadTarget))
of_aimed profile operand None = λ is. absurd (cc is)
of_aimed profile operand (Some target) = tt

of_operand : (profile : Profile) (operand : Bytes) → IsOtherRefused (requested_by profile operand)
of_operand profile operand = by (is_target operand)
  where
    by : (t : Bool) → IsOtherRefused (if t then aimed profile operand (operand_target operand)
        else wanted profile operand (verb_in profile (nat_le (length operand) text_limit) (words_of operand)))
    by true = of_aimed profile operand (target_in operand)
    by false = of_wanted profile operand _ (of_verb profile (nat_le (length operand) text_limit) (words_of operand))

-- what its function refuses it for is something else
pub no_pattern : (profile : Profile) (operand : Bytes) (fault : OperandFault) → requested_by profile operand ≡ Err (refused_for profile operand fault)
    → fault ≢ Command c.BadPattern
no_pattern profile operand fault is = subst IsOtherRefused is (of_operand profile operand)
