-- A history whose numbers fit has a journal.
use Rattle.bz_resume.proofs.Words.{[], ◌<◌, ◌∙◌, ◌∷◌, ◌≡◌, AllByRecursion, ap, arith, depth_limit, Edit, entries_of, History, IsDigest, IsEdit, IsNote, IsNotedStep, IsRecord, IsTrail, Journal, journal_text, length, length-map, List, map, MaySave, Node, number_limit, present_text, Record, record_of, refl, sha256, slice_index_or, spell_node, sym, Text, text_at, texts_length, texts_of, Trail, trail_at, Two}
use Rattle.bz_journal_format.proofs.{Digests.digest_fits, Paired.entries_length}
use Rattle.bz_resume.proofs.{Paths.trail_all, Sized.step_fits, Slots.few_edits}

-- ---- the steps of a trail fit

abbrev Fits : List Edit → Type 0
Fits e = (length e < number_limit) × AllByRecursion (IsEdit depth_limit) e

trail_fits : (t : Trail) → IsTrail t → AllByRecursion Fits t.steps
trail_fits = trail_all Fits (λ n e t l. (few_edits n e t l, step_fits n e l))

entries_fit : (ns : List Text) (es : List (List Edit)) → AllByRecursion (IsNote Two) ns → AllByRecursion Fits es → AllByRecursion (IsNotedStep Two depth_limit) (entries_of ns es)
entries_fit [] es h k = tt
entries_fit (n ∷ ns) [] h k = tt
entries_fit (n ∷ ns) (e ∷ es) h k = (record { note = h.0; edits_length = k.0.0; edits = k.0.1 }, entries_fit ns es h.1 k.1)

digests_fit : (ts : List Text) → AllByRecursion IsDigest (map sha256 ts)
digests_fit [] = tt
digests_fit (t ∷ ts) = (digest_fits t, digests_fit ts)

-- ---- the record of a history

module _ (h : History) (es : List (List Edit)) (n : Node) (trail : IsTrail (trail_at n es h.cursor)) (is : texts_of (trail_at n es h.cursor) ≡ h.texts) (noted : length h.notes ≡ length es) (saves : MaySave h) where
  fits : IsRecord Two depth_limit (record_of h es)
  fits =
      let t = trail_at n es h.cursor in
      let size = entries_length h.notes es noted in
      let steps = saves.steps_length in
      let cursor = trail.within in
      let before = saves.known in
      let shown : text_at h h.cursor ≡ spell_node n = sym (ap (λ l. slice_index_or l h.cursor []) is) ∙ present_text t trail in
      record {
        package_length = saves.package_length;
        package_text = saves.package_text;
        text = omega (arith, ap length shown, trail.tree.1);
        steps_length = omega (arith, size, noted);
        cursor = omega (arith, size);
        before = omega (arith, size, noted);
        digests_length = omega (arith, size, length-map h.texts sha256, ap length is, texts_length t trail);
        digests = digests_fit h.texts;
        steps = entries_fit h.notes es saves.notes (trail_fits t trail);
      }

  pub is_saved : Journal (journal_text h es) h es
  is_saved = record { version = Two; spelled = refl; fits = fits; noted = noted; follows = (n, trail, is) }

-- ---- what is written

pub record_made : (h : History) (es : List (List Edit)) (t : Text) (ds : List Text) → t ≡ text_at h h.cursor → ds ≡ map sha256 h.texts
    → (let r : Record = record { «package» = h.package; text = t; cursor = h.cursor; before = h.before; digests = ds; steps = entries_of h.notes es } in r) ≡ record_of h es
record_made h es t ds e g = rw (e, g) refl
