-- The lines of the first digests and steps, those that follow, and those of lists that begin alike.
use Rattle.bz_journal_format.proofs.Words.{[], ◌++◌, ◌+◌, ◌∙◌, ◌∷◌, ◌≡◌, ◌≤◌, ap, arith, Bytes, digest_text, drop, Edit, entries_of, entry_of, entry_text, flat_map, length, List, RecordedStep, refl, subst, suc, sym, take, take-take, take_all, Version, zero, ℕ}
use Rattle.std.proofs.lemmas.List.Concat.{flat_map-append}
use Rattle.bz_journal_format.specs.{FirstLines.AreAllLines, FirstLines.AreFirstLines, declared.kept.KeptLines.KeptLines}

-- ---- those that follow

no_entries : (notes : List Bytes) → entries_of notes [] ≡ []
no_entries [] = refl
no_entries (n ∷ ns) = refl

entries_joined : (k : ℕ) (notes : List Bytes) (steps : List (List Edit)) → entries_of (take k notes) (take k steps) ++ entries_of (drop k notes) (drop k steps) ≡ entries_of notes steps
entries_joined zero [] es = refl
entries_joined zero (n ∷ ns) [] = refl
entries_joined zero (n ∷ ns) (e ∷ es) = refl
entries_joined (suc k) [] es = refl
entries_joined (suc k) (n ∷ ns) [] = no_entries (drop k ns)
entries_joined (suc k) (n ∷ ns) (e ∷ es) = ap (λ (l : List RecordedStep). entry_of n e ∷ l) (entries_joined k ns es)

pub entries_begun : (v : Version) (k : ℕ) (notes : List Bytes) (steps : List (List Edit)) → flat_map (entry_text v) (entries_of (take k notes) (take k steps))
    ++ flat_map (entry_text v) (entries_of (drop k notes) (drop k steps)) ≡ flat_map (entry_text v) (entries_of notes steps)
entries_begun v k notes steps =
    sym (flat_map-append (entry_text v) (entries_of (take k notes) (take k steps)) (entries_of (drop k notes) (drop k steps)))
    ∙ ap (flat_map (entry_text v)) (entries_joined k notes steps)

-- ---- which are the first ones

take_none : {X : Type 0} (xs : List X) → [] ≡ take 0 xs
take_none [] = refl
take_none (x ∷ xs) = refl

pub none_first : (v : Version) (digests notes : List Bytes) (steps : List (List Edit)) (kept : KeptLines) → kept.digests ≡ 0 → kept.digest_lines.items ≡ [] → kept.steps ≡ 0
    → kept.step_lines.items ≡ [] → AreFirstLines v digests notes steps kept
none_first v digests notes steps kept no_digests no_digest no_steps no_step = record {
  few_digests = omega (arith, no_digests);
  digest_lines = no_digest ∙ ap (flat_map digest_text) (take_none digests) ∙ ap (λ k. flat_map digest_text (take k digests)) (sym no_digests);
  few_steps = omega (arith, no_steps);
  step_lines =
      no_step ∙ ap (λ (l : List Bytes). flat_map (entry_text v) (entries_of l (take 0 steps))) (take_none notes)
      ∙ ap (λ k. flat_map (entry_text v) (entries_of (take k notes) (take k steps))) (sym no_steps);
}

pub still_none : (v : Version) (digests notes : List Bytes) (steps : List (List Edit)) (none kept : KeptLines)
    → ((w : Version) (ds ns : List Bytes) (es : List (List Edit)) → AreFirstLines w ds ns es none) → kept ≡ none → AreFirstLines v digests notes steps kept
still_none v digests notes steps none kept first same = subst (λ (k : KeptLines). AreFirstLines v digests notes steps k) (sym same) (first v digests notes steps)

pub all_first : (v : Version) (digests notes : List Bytes) (steps : List (List Edit)) (kept : KeptLines) → length notes ≡ length steps → AreAllLines v digests notes steps kept
    → AreFirstLines v digests notes steps kept
all_first v digests notes steps kept noted all = record {
  few_digests = omega (arith, all.all_digests);
  digest_lines = all.digest_lines ∙ ap (flat_map digest_text) (sym (take_all kept.digests digests (omega (arith, all.all_digests))));
  few_steps = omega (arith, all.all_steps);
  step_lines =
      all.step_lines ∙ ap (λ (l : List Bytes). flat_map (entry_text v) (entries_of l steps)) (sym (take_all kept.steps notes (omega (arith, noted, all.all_steps))))
      ∙ ap (λ (l : List (List Edit)). flat_map (entry_text v) (entries_of (take kept.steps notes) l)) (sym (take_all kept.steps steps (omega (arith, all.all_steps))));
}

-- what lists begin with that begin alike
alike : {X : Type 0} (k n : ℕ) (xs ys : List X) → k ≤ n → take n ys ≡ take n xs → take k xs ≡ take k ys
alike k n xs ys few same = sym (take-take k n xs few) ∙ ap (take k) (sym same) ∙ take-take k n ys few

pub lines_stay : (v : Version) (n : ℕ) (ds es : List Bytes) (ns ms : List Bytes) (ss ts : List (List Edit)) (kept : KeptLines) → AreFirstLines v ds ns ss kept
    → kept.steps ≤ n → kept.digests ≤ n + 1 → n + 1 ≤ length es → n ≤ length ts → take (n + 1) es ≡ take (n + 1) ds → take n ms ≡ take n ns → take n ts ≡ take n ss
    → AreFirstLines v es ms ts kept
lines_stay v n ds es ns ms ss ts kept first few few_digests digests steps same_digests same_notes same_steps = record {
  few_digests = omega (arith, few_digests, digests);
  digest_lines = first.digest_lines ∙ ap (flat_map digest_text) (alike kept.digests (n + 1) ds es few_digests same_digests);
  few_steps = omega (arith, few, steps);
  step_lines =
      first.step_lines ∙ ap (λ (l : List Bytes). flat_map (entry_text v) (entries_of l (take kept.steps ss))) (alike kept.steps n ns ms few same_notes)
      ∙ ap (λ (l : List (List Edit)). flat_map (entry_text v) (entries_of (take kept.steps ms) l)) (alike kept.steps n ss ts few same_steps);
}
