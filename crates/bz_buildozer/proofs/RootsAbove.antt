-- How a root is sought, from one folder to the one above it; and what is noted of it.
use Rattle.bz_buildozer.proofs.Words.{◌++◌, ◌+◌, ◌-◌, ◌<◌, ◌∙◌, ◌≡◌, ◌≤◌, ◌⊎◌, AreOfInputAndSome, arith, Bool, Bytes, codes, false, Folder, inl, inr, is_root, List, names_file, None, Option, refl, ReportsLines, Requested, root_above, root_from, root_note, Some, subst, suc, sym, true, true≢false, ℕ}
use Rattle.bz_streams.specs.declared.sink.Sink.{Ghosts as SinkOf}
use Rattle.bz_buildozer.proofs.StepLists.{none_filed}

module _ (folder : Folder) (count at : ℕ) (path : Bytes) where
  pub found_here : at < count → is_root folder path ≡ true → root_from (count - at) folder path ≡ Some path
  unfolding root_from
  found_here within is =
      let more : suc (count - (at + 1)) ≡ count - at = omega arith in subst (λ (n : ℕ). root_from n folder path ≡ Some path) more (rw is refl)

  pub found_above : at < count → is_root folder path ≡ false → root_from (count - at) folder path ≡ root_from (count - (at + 1)) folder (path ++ codes "../")
  unfolding root_from
  found_above within is =
      let more : suc (count - (at + 1)) ≡ count - at = omega arith in
      subst (λ (n : ℕ). root_from n folder path ≡ root_from (count - (at + 1)) folder (path ++ codes "../")) more (rw is refl)

  pub found_nowhere : count ≤ at → root_from (count - at) folder path ≡ None
  unfolding root_from
  found_nowhere past = let none : 0 ≡ count - at = omega arith in subst (λ (n : ℕ). root_from n folder path ≡ None) none refl

-- ---- what is noted

module _ {E : Type 0} (sink : SinkOf E) (lines : List Requested) (folder : Folder) (honest : Bool) (premise : (honest ≡ true) ⊎ AreOfInputAndSome lines) where
  -- no rules of a file are meant
  pub nothing_noted : (here : E) → names_file lines ≡ false → ReportsLines sink here here (root_note (names_file lines) (root_above folder))
  nothing_noted here none = subst (λ (b : Bool). ReportsLines sink here here (root_note b (root_above folder))) (sym none) (refl, refl)

  pub root_noted : (old new : E) (root : Option Bytes) → names_file lines ≡ true → (honest ≡ true → root ≡ root_above folder) → ReportsLines sink old new (root_note true root)
      → ReportsLines sink old new (root_note (names_file lines) (root_above folder))
  root_noted old new root named is told = elim premise [
    | inl trusted ↦ subst (λ (b : Bool). ReportsLines sink old new (root_note b (root_above folder))) (sym named)
        (subst (λ (r : Option Bytes). ReportsLines sink old new (root_note true r)) (is trusted) told)
    | inr are ↦ absurd (true≢false (sym named ∙ none_filed lines are.0))
  ]
