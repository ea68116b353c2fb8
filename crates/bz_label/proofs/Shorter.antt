-- Shorter forms of a text: that they mean the same, and that they are shortened no further.
use Rattle.bz_label.proofs.Words.{[], ◌++◌, ◌||◌, ◌∙◌, ◌∷◌, ◌≡◌, and_parts, ap, Bool, both_ways, Bytes, codes, colon_name, eqb-true, false, has_colon, inl, inr, is_at, is_colon, is_empty, is_path, is_repository, is_repository_name, IsColonName, IsOwn, IsPackageAlone, IsRepeat, IsSame, IsShortened, IsUnrepeated, IsWhole, Label, last_piece, other, own, package_alone, refl, repeat, stays, sym, true, whole}
use Rattle.bz_label.proofs.Repeats.{front_colonless}
use Rattle.bz_label.proofs.Shapes.{any_at, path_colonless, repository_holds, whole_after, whole_kept}

-- ---- a shorter form means the same
repeat_package : (path name : Bytes) → (is_empty path || is_path path) ≡ true → is_path name ≡ true → last_piece path ≡ name → is_path path ≡ true
repeat_package [] name good named e = absurd (both_ways _ (ap is_path (sym e)) named)
repeat_package (first ∷ rest) name good named e = good

repeat_alone : (text short : Bytes) (label : Label) → IsRepeat text label → short ≡ label.repository ++ codes "//" ++ label.package → IsPackageAlone short label
repeat_alone text short label r e = record {
  repository = r.written.repository;
  «package» = repeat_package label.package label.name r.written.package r.written.name r.name;
  name = sym r.name;
  spelled = e;
}

own_colon : (current text short : Bytes) (label : Label) → IsOwn current text label → short ≡ codes ":" ++ label.name → IsColonName current short label
own_colon current text short label o e = record { repository = o.repository; «package» = o.package; name = o.written.name; spelled = e }

pub unrepeated_same : (current text short : Bytes) → IsUnrepeated text short → IsSame current text short
unrepeated_same current text short (repeat label r e) = inr (label, whole r.written, package_alone (repeat_alone text short label r e))
unrepeated_same current text short (stays none e) = inl (sym e)

pub shortened_same : (current text short : Bytes) → IsShortened current text short → IsSame current text short
shortened_same current text short (own label o e) = inr (label, whole o.written, colon_name (own_colon current text short label o e))
shortened_same current text short (other none h) = unrepeated_same current text short h

-- ---- a shorter form is shortened no further, for it is no whole label: its colon is nowhere, or before everything

alone_unwhole : (text : Bytes) (label : Label) → IsPackageAlone text label → (another : Label) → IsWhole text another → ⊥
alone_unwhole text label a another w = both_ways (has_colon text)
    (ap has_colon a.spelled ∙ front_colonless label.repository label.package a.repository (path_colonless label.package a.package))
    (ap has_colon (whole_kept text another w) ∙ any_at is_colon (another.repository ++ codes "//" ++ another.package) 58 another.name refl)

abbrev begins_with_colon : Bytes → Bool
begins_with_colon [] = false
begins_with_colon (first ∷ _) = is_colon first

slashes_first : (front rest : Bytes) → is_repository front ≡ true → begins_with_colon (front ++ codes "//" ++ rest) ≡ false
slashes_first [] rest h = refl
slashes_first (first ∷ name) rest h = ap is_colon (eqb-true first 64 (and_parts (is_at first) (is_empty name || is_repository_name name) h).0)

colon_unwhole : (current text : Bytes) (label : Label) → IsColonName current text label → (another : Label) → IsWhole text another → ⊥
colon_unwhole current text label c another w = both_ways (begins_with_colon text)
    (ap begins_with_colon (whole_after another text w) ∙ slashes_first another.repository _ (repository_holds another.repository w.repository)) (ap begins_with_colon c.spelled)

keeps : (text : Bytes) → ((label : Label) → IsWhole text label → ⊥) → IsUnrepeated text text
keeps text none = stays (λ label r. none label r.written) refl

stays_short : (current text : Bytes) → ((label : Label) → IsWhole text label → ⊥) → IsShortened current text text
stays_short current text none = other (λ label o. none label o.written) (keeps text none)

pub unrepeated_stays : (text short : Bytes) → IsUnrepeated text short → IsUnrepeated short short
unrepeated_stays text short (repeat label r e) = keeps short (alone_unwhole short label (repeat_alone text short label r e))
unrepeated_stays text short (stays none e) = stays (λ label r. none label (rw (← e) r)) refl

pub shortened_stays : (current text short : Bytes) → IsShortened current text short → IsShortened current short short
shortened_stays current text short (own label o e) = stays_short current short (colon_unwhole current short label (own_colon current text short label o e))
shortened_stays current text short (other none (repeat label r e)) = stays_short current short (alone_unwhole short label (repeat_alone text short label r e))
shortened_stays current text short (other none (stays nothing e)) = other (λ label o. none label (rw (← e) o)) (stays (λ label r. nothing label (rw (← e) r)) refl)
