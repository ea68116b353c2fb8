-- The bytes of a record are not of another version.
use Rattle.bz_journal_format.proofs.Words.{[], ◌++◌, ◌∙◌, ◌∷◌, ◌≡◌, after_mark, ap, append_assoc, codes, IsLine, IsOtherNumber, IsOtherVersion, line_feed, List, One, Record, record_text, refl, same_Some, sym, Two, Version, version_line, ℕ}
use Rattle.bz_journal_format.proofs.{Versions.digits_in_line, Versions.one_line, Whole.begins, Chains.after_own}

-- the digits in a first line
line_of : (digits bytes begun ds rest : List ℕ) → bytes ≡ (codes "bzjournal " ++ (digits ++ line_feed ∷ [])) ++ begun → bytes ≡ codes "bzjournal " ++ ds ++ line_feed ∷ rest → digits ++ line_feed ∷ begun ≡ ds ++ line_feed ∷ rest
line_of digits bytes begun ds rest b e =
    let mark = codes "bzjournal " in
    let one : bytes ≡ mark ++ (digits ++ line_feed ∷ begun) = b ∙ append_assoc mark (digits ++ line_feed ∷ []) begun ∙ ap (λ t. mark ++ t) (append_assoc digits (line_feed ∷ []) begun) in
    let two : bytes ≡ mark ++ (ds ++ line_feed ∷ rest) = e ∙ append_assoc mark ds (line_feed ∷ rest) in
    same_Some (digits ++ line_feed ∷ begun) (ds ++ line_feed ∷ rest) (sym (after_own mark (digits ++ line_feed ∷ begun)) ∙ ap (after_mark mark) (sym one ∙ two) ∙ after_own mark (ds ++ line_feed ∷ rest))

no_other : (v : Version) (r : Record) (digits : List ℕ) → version_line v ≡ codes "bzjournal " ++ (digits ++ line_feed ∷ []) → IsLine digits → (ds rest : List ℕ) → IsOtherNumber ds → record_text v r ≡ codes "bzjournal " ++ ds ++ line_feed ∷ rest → ds ≡ digits
no_other v r digits first line ds rest number e =
    let b = begins v r in
    let same = line_of digits (record_text v r) b.0 ds rest (b.1 ∙ ap (λ t. t ++ b.0) first) e in
    sym (one_line digits ds b.0 rest line (digits_in_line ds number.digits_alone) same)

pub own_version : (v : Version) (r : Record) → IsOtherVersion (record_text v r) → ⊥
own_version One r (ds, rest, number, e) = number.other (no_other One r (codes "1") refl (digits_in_line (codes "1") refl) ds rest number e)
own_version Two r (ds, rest, number, e) = number.other_two (no_other Two r (codes "2") refl (digits_in_line (codes "2") refl) ds rest number e)
