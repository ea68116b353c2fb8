-- Where a history is.
use Rattle.bz_resume.proofs.Words.{◌≡◌, Bool, bytes_eq, bytes_eq-Decides, false, History, if◌then◌else◌, None, present, refl, Some, stands, sym, text_at, true, true≢false, ℕ}
use Rattle.bz_files.specs.Folder.{Text}

-- the choice by its two tests
chosen : (now was : Bool) (here there : ℕ) → was ≡ true → (place : ℕ) × ((if now then Some here else (if was then Some there else None)) ≡ Some place)
chosen true was here there is = (here, refl)
chosen false true here there is = (there, refl)
chosen false false here there is = absurd (true≢false (sym is))

-- a history matches its text before
pub stands_before : (h : History) (text : Text) → text_at h h.before ≡ text → (place : ℕ) × (stands h text ≡ Some place)
stands_before h text is =
    chosen (bytes_eq text (present h)) (bytes_eq text (text_at h h.before)) h.cursor h.before ((bytes_eq-Decides text (text_at h h.before)).1 (sym is))

-- and for its present one
pub stands_now : (h : History) → stands h (present h) ≡ Some h.cursor
stands_now h = let same : bytes_eq (present h) (present h) ≡ true = (bytes_eq-Decides (present h) (present h)).1 refl in rw same refl
