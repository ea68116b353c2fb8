-- Each journal, and each that names another version, begins with the same bytes.
use Rattle.bz_resume.proofs.Words.{◌++◌, ◌∙◌, ◌∷◌, ◌≡◌, ◌≤◌, ap, BeginsNoJournal, codes, IsOtherVersion, length, line_feed, One, Record, record_of, record_text, refl, sym, take, take-append-le, Text, Two, Version}

marked : (v : Version) (r : Record) → take 10 (record_text v r) ≡ codes "bzjournal "
marked One r = refl
marked Two r = refl

apart : (front rest bytes : Text) → 10 ≤ length front → (take 10 front ≡ codes "bzjournal " → ⊥) → take 10 bytes ≡ codes "bzjournal " → front ++ rest ≡ bytes → ⊥
apart front rest bytes long other own is = other (sym (take-append-le 10 front rest long) ∙ ap (take 10) is ∙ own)

pub begins_other : (front : Text) → 10 ≤ length front → (take 10 front ≡ codes "bzjournal " → ⊥) → BeginsNoJournal front
begins_other front long other rest = (
  λ (version : IsOtherVersion (front ++ rest)).
      apart front rest (codes "bzjournal " ++ version.0 ++ line_feed ∷ version.1) long other refl version.3,
  λ h es journal. apart front rest (record_text journal.version (record_of h es)) long other (marked journal.version (record_of h es)) journal.spelled,
)
