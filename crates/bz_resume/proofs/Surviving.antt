-- What each moment of a keeping leaves.
use Rattle.bz_resume.proofs.Words.{[], ◌∙◌, ◌≡◌, ◌≢◌, ◌⊎◌, ap, Edit, Folder, get, History, Holds, inl, inr, IsChecking, IsKeeping, IsNew, IsRecordedBy, journal_name, List, MayResume, other_stays, OthersStay, present, reads_back, refl, Resumes, SameBut, Some, subst, Survives, sym, unwrap_or, with_both, with_file}
use Rattle.bz_files.specs.Folder.{Text}
use Rattle.bz_resume.proofs.Names.{file_journal, journal_file, file_is_old, journal_is_old}
use Rattle.bz_resume.proofs.PairStanding.{stands_before, stands_now}

module _ (file : Text) where
  -- what is recorded stays where the journal does
  moved_over : (old now : Folder) (current text : Text) (texts : List Text) → get now (journal_name file) ≡ get old (journal_name file)
      → IsRecordedBy old file current text texts → IsRecordedBy now file current text texts
  moved_over old now current text texts same (inl (none, alone)) = inl (same ∙ none, alone)
  moved_over old now current text texts same (inr (bytes, h, es, place, there, records, of, is, at)) = inr (bytes, h, es, place, same ∙ there, records, of, is, at)

  others : (old base now : Folder) → SameBut (IsNew (journal_name file) file) base now
      → ((name : Text) → name ≢ file → name ≢ journal_name file → get base name ≡ get old name) → OthersStay file old now
  others old base now same apart name not_file not_journal not_new not_new_journal =
      same name (elim [ inl e ↦ not_new_journal e | inr e ↦ not_new e ]) ∙ apart name not_file not_journal

  -- where the file holds the text at which the action was begun
  module _ (standing stored text : Text) (h after : History) (es : List (List Edit)) (old : Folder)
      (may : MayResume old file standing stored text h after es) (there : get old file ≡ Some standing) where
    -- it is the present one, and the file goes on there
    met : Holds old file h.package (present h) h.texts
    met = subst (λ found. Holds old file h.package found h.texts)
        (ap (λ found. unwrap_or found []) (sym may.resumes.1.holds ∙ there) ∙ may.begun) may.resumes.1

    -- nothing is there yet
    unkept : (now : Folder) → SameBut (IsNew (journal_name file) file) old now → Holds now file h.package (present h) h.texts
    unkept now same = record {
      holds = same file (file_is_old file) ∙ met.holds;
      history = moved_over old now h.package (present h) h.texts (same (journal_name file) (journal_is_old file)) met.history;
    }

    -- the journal alone is there
    halfway : (now : Folder) → SameBut (IsNew (journal_name file) file) (with_file old (journal_name file) stored) now
        → Holds now file h.package (present h) after.texts
    halfway now same = record {
      holds = same file (file_is_old file) ∙ other_stays old (journal_name file) file stored (file_journal file) ∙ met.holds;
      history = let at = stands_before after (present h) may.follows.1 in
          inr (stored, after, es, at.0, same (journal_name file) (journal_is_old file) ∙ reads_back old (journal_name file) stored, may.journal, may.follows.0, refl, at.1);
    }

    -- both are there
    pub kept : (now : Folder) → SameBut (IsNew (journal_name file) file) (with_both (journal_name file) stored file text old) now
        → Holds now file h.package (present after) after.texts
    kept now same = record {
      holds = same file (file_is_old file) ∙ reads_back (with_file old (journal_name file) stored) file text ∙ ap Some may.written;
      history = inr (
        stored,
        after,
        es,
        after.cursor,
        same (journal_name file) (journal_is_old file)
            ∙ other_stays (with_file old (journal_name file) stored) file (journal_name file) text (journal_file file)
            ∙ reads_back old (journal_name file) stored,
        may.journal,
        may.follows.0,
        refl,
        stands_now after,
      );
    }

    pub others_kept : (now : Folder) → SameBut (IsNew (journal_name file) file) (with_both (journal_name file) stored file text old) now
        → OthersStay file old now
    others_kept now same = others old (with_both (journal_name file) stored file text old) now same
        (λ name not_file not_journal. other_stays (with_file old (journal_name file) stored) file name text not_file
        ∙ other_stays old (journal_name file) name stored not_journal)

    pub survives : (now : Folder) → IsKeeping (journal_name file) stored file text old now → Survives file h after old now
    survives now (inl same) = record {
      holds = inl (unkept now same);
      others = others old old now same (λ name not_file not_journal. refl);
    }
    survives now (inr (inl same)) = record {
      holds = inr (inl (halfway now same));
      others = others old (with_file old (journal_name file) stored) now same (λ name not_file not_journal. other_stays old (journal_name file) name stored not_journal);
    }
    survives now (inr (inr same)) = record { holds = inr (inr (kept now same)); others = others_kept now same }

  -- a moment of a call that reads first
  pub checked : (standing stored text : Text) (h after : History) (es : List (List Edit)) (old : Folder)
      → MayResume old file standing stored text h after es
      → (now : Folder) → IsChecking standing (journal_name file) stored file text old now → (now ≡ old) ⊎ Survives file h after old now
  checked standing stored text h after es old may now (inl same) = inl same
  checked standing stored text h after es old may now (inr (there, keeping)) = inr (survives standing stored text h after es old may there now keeping)

  either_resumes : (h after : History) (now : Folder)
      → Holds now file h.package (present h) h.texts
      ⊎ (Holds now file h.package (present h) after.texts ⊎ Holds now file h.package (present after) after.texts)
      → Resumes now file h.package h.texts ⊎ Resumes now file h.package after.texts
  either_resumes h after now (inl unkept) = inl (present h, unkept)
  either_resumes h after now (inr (inl halfway)) = inr (present h, halfway)
  either_resumes h after now (inr (inr both)) = inr (present after, both)

  -- a moment of which it is known whether anything was touched before it
  pub goes_on : (h after : History) (old now : Folder) → Resumes old file h.package h.texts
      → (now ≡ old) ⊎ Survives file h after old now
      → Resumes now file h.package h.texts ⊎ Resumes now file h.package after.texts
  goes_on h after old now resumes (inl same) = inl (subst (λ folder. Resumes folder file h.package h.texts) (sym same) resumes)
  goes_on h after old now resumes (inr survives) = either_resumes h after now survives.holds
