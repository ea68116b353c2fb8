-- What the reader of records gives, as a theorem on texts.
use Rattle.bz_journal_format.proofs.Words.{◌∙◌, ◌≡◌, ap, depth_limit, IsRead, IsRecord, List, None, One, Record, record_at, record_text, Some, sym, Two, Version, ℕ}
use Rattle.bz_journal_format.proofs.Whole.{record_sound, record_complete}

pub found : (v : Version) (s : List ℕ) (r : Record) → record_at v depth_limit s ≡ Some r → IsRead s r
found v s r e = let p = record_sound v depth_limit s r e in (v, p.0, p.1)

none_of : (v : Version) (s : List ℕ) (r : Record) → record_at v depth_limit s ≡ None → IsRecord v depth_limit r → s ≡ record_text v r → ⊥
none_of v s r n h e = let f = sym n ∙ ap (record_at v depth_limit) e ∙ record_complete v depth_limit r h in cc

pub no_record : (s : List ℕ) → record_at One depth_limit s ≡ None → record_at Two depth_limit s ≡ None → (r : Record) → IsRead s r → ⊥
no_record s n m r (One, h, e) = none_of One s r n h e
no_record s n m r (Two, h, e) = none_of Two s r m h e
