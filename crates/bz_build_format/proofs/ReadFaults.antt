-- The fault that is reported where a text is not formatted.
use Rattle.bz_build_format.proofs.Words.{◌<◌, ◌↔◌, ◌≡◌, ◌≤◌, ap, Bytes, Err, is_of_leaves, IsFaultAt, IsFaultOf, IsReported, length, limit, ReadFault, ReadFault as f, refl, Result, true, ℕ}
use Rattle.std.specs.Str.{IsValidUpTo}
use Rattle.bz_grammar.specs.Faults.{IsOfText}

-- a fault of the text says that it is refused
pub refused_text : (Refused : Type 0) (fault : ReadFault) → (IsOfText fault → Refused) → (fault ≡ f.Memory → ⊥) → Refused
refused_text Refused f.Memory refused memory = absurd (memory refl)
refused_text Refused _ refused memory = refused tt

fault_of_text : (A : Type 0) (text : Bytes) (fault : ReadFault)
    → (◌≡◌ {A = Result A ReadFault} (Err fault) (Err f.TooLarge) ↔ (limit < length text))
    → ((at : ℕ) → (◌≡◌ {A = Result A ReadFault} (Err fault) (Err (f.NotUtf8 at)) ↔ ((length text ≤ limit) × IsValidUpTo text at)))
    → (fault ≡ f.Memory → ⊥) → IsFaultOf text fault
fault_of_text A text fault large coding other = record {
  too_large = (λ is. large.0 (ap Err is), λ long. let e = large.1 long in cc);
  not_utf8 = λ at. ((λ is. (coding at).0 (ap Err is)), λ short. let e = (coding at).1 short in cc);
  other = other;
}

-- a fault that is reported where a text is not read
pub reported : (A Refused : Type 0) (Indented : Bytes → Type 0) (text : Bytes) (fault : ReadFault) → (IsOfText fault → Refused)
    → (◌≡◌ {A = Result A ReadFault} (Err fault) (Err f.TooLarge) ↔ (limit < length text))
    → ((at : ℕ) → (◌≡◌ {A = Result A ReadFault} (Err fault) (Err (f.NotUtf8 at)) ↔ ((length text ≤ limit) × IsValidUpTo text at)))
    → (is_of_leaves fault ≡ true → IsFaultAt Indented text fault) → (fault ≡ f.Memory → ⊥) → IsReported Refused Indented text fault
reported A Refused Indented text fault refused large coding placed other = (refused_text Refused fault refused other, fault_of_text A text fault large coding other, placed)
