-- Which calls of files are to fail, where that is known beforehand, as of files in memory.
use Rattle.std.specs.Prelude.{◌≡◌, ◌⊎◌, ◌≤◌, ◌<◌, ◌+◌, ◌-◌, ◌^◌, ℕ, List, Option, Some, None, [], IsTrue}
use Rattle.std.specs.List.{list_any}
use Rattle.std.specs.Str.{bytes_eq}
use Rattle.bz_files.specs.Folder.{Text}

-- the call of this number, that of this number once its file is replaced, each from this number on, and each read of these
-- names; and how many calls there were
pub record FailurePlan : Type 0 where
  pub fails_at : Option ℕ
  pub fails_after : Option ℕ
  pub stops_at : Option ℕ
  pub unreadable : List Text
  pub calls : ℕ

-- before the first call, of which none is to fail
abbrev pub no_plan : FailurePlan
no_plan = record { fails_at = None; fails_after = None; stops_at = None; unreadable = []; calls = 0 }

-- the call that was counted last is to fail; or once its file is replaced; or is of a name that is not to be read
abbrev pub IsToFail : FailurePlan → Type 0
IsToFail plan = (plan.fails_at ≡ Some plan.calls) ⊎ ((k : ℕ) × (plan.stops_at ≡ Some k) × (k ≤ plan.calls))

abbrev pub IsToFailAfter : FailurePlan → Type 0
IsToFailAfter plan = plan.fails_after ≡ Some plan.calls

abbrev pub IsUnreadable : Text → FailurePlan → Type 0
IsUnreadable name plan = IsTrue (list_any (λ other. bytes_eq other name) plan.unreadable)

-- one call more was counted, up to the greatest number
abbrev pub IsNextCall : FailurePlan → FailurePlan → Type 0
IsNextCall before after = (after ≡ record before { calls = after.calls }) × (before.calls < 2 ^ 64 - 1 → after.calls ≡ before.calls + 1)

-- Where it is known which calls are to fail, one more was counted: it failed where it was to, and where it was not it went on. (When it is to, by the plan after it.)
abbrev pub GoesAsPlanned : Option FailurePlan → Option FailurePlan → (FailurePlan → Type 0) → Type 0 → (FailurePlan → Type 0) → Type 0
GoesAsPlanned before after Fails failed Goes = (plan : FailurePlan) → before ≡ Some plan
    → (later : FailurePlan) × (after ≡ Some later) × IsNextCall plan later × (Fails later → failed) × ((Fails later → ⊥) → Goes later)
