-- What is known of the calls that are to fail.
use Rattle.bz_files.proofs.Words.{◌≡◌, FailurePlan, GoesAsPlanned, IsNextCall, Option, Some, subst}

-- a call that is not to fail, and goes on
pub goes_on : {Fails Goes : FailurePlan → Type 0} {failed : Type 0} (before later : FailurePlan) (after : Option FailurePlan) → after ≡ Some later
    → IsNextCall before later → (Fails later → ⊥) → Goes later → GoesAsPlanned (Some before) after Fails failed Goes
goes_on before later after is next whole goes plan of =
    let same : before ≡ plan = cc in (later, is, subst (λ (p : FailurePlan). IsNextCall p later) same next, (λ fails. absurd (whole fails)), λ _. goes)
