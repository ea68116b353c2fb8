-- What several texts of buildifier's do, one after the other.
use Rattle.bz_buildifier.proofs.Words.{[], ◌++◌, ◌==◌, ◌||◌, ◌∙◌, ◌∷◌, ◌≡◌, ap, begun, Bool, Bor, Counts, Cut, Cut as c, Effect, effect_seen, eqb-true, Err, false, FilesFormatted, FileStep, FileType, first_cut, Folder, FormatOutcome, grown, if◌then◌else◌, InputStep, inr, IsCutBy, IsFormatUsageLine, length, List, map, Mode, nil_from_length, Ok, Option, refl, Rises, rises_more, RunOf, subst, sym, true, true≢false, worse, Writes, writes_more, WritesUnlessClosed, ℕ}
use Rattle.bz_streams.specs.Faults.{AppendsSome}
use Rattle.bz_buildifier.specs.Modes as m
use Rattle.bz_buildifier.specs.declared.effect.Effect as e

-- ---- why a run is cut

pub cut_more : (cut later : Cut) (f g h u v w : ℕ) → IsCutBy cut f g u v → IsCutBy later g h v w → Counts f g → Counts g h → Counts u v → Counts v w
    → IsCutBy (first_cut cut later) f h u w
cut_more c.Whole later f g h u v w first more files files' out out' =
    subst (λ (n : ℕ). IsCutBy later n h u w) first.0 (subst (λ (n : ℕ). IsCutBy later g h n w) first.1 more)
cut_more c.Memory later f g h u v w first more files files' out out' = tt
cut_more c.Read later f g h u v w first more files files' out out' = first
cut_more c.Write later f g h u v w first more files files' out out' = rises_more u v w out.grows first out'
cut_more c.Files later f g h u v w first more files files' out out' = rises_more f g h files.grows first files'

-- ---- what is written

-- a closed writer is left as it is, by the run too
pub writes_on : (closed closes : Bool) (f g h : ℕ) (old mid new : Option (List ℕ)) (out more : List ℕ) → Writes closed f g old mid out
    → WritesUnlessClosed closed closes g h mid new more → Writes (closed || closes) f h old new (if closed then out else out ++ more)
writes_on true closes f g h old mid new out more first last =
    (subst (Rises f) (sym last.1) first.0, subst (λ (held : Option (List ℕ)). AppendsSome old held out) (sym last.2) first.1)
writes_on false closes f g h old mid new out more first last = writes_more false closes f g h old mid new out more first last

-- ---- statuses

failed_last : (a : ℕ) → worse a 3 ≡ 3
failed_last a = elim (a == 3) as (λ (b : Bool). ◌≡◌ {A = ℕ} (if b || true then 3 else (if a == 1 || false then 1 else (if a == 4 || false then 4 else 0))) 3)
    [ true ↦ refl | false ↦ refl ]

pub status_more : (cut later : Cut) (a b : ℕ) → ((cut ≡ c.Whole → ⊥) → a ≡ 3) → ((later ≡ c.Whole → ⊥) → b ≡ 3)
    → (first_cut cut later ≡ c.Whole → ⊥) → worse a b ≡ 3
status_more c.Whole later a b first last other = rw (last other) (failed_last a)
status_more c.Memory later a b first last other = rw (first other) refl
status_more c.Read later a b first last other = rw (first other) refl
status_more c.Write later a b first last other = rw (first other) refl
status_more c.Files later a b first last other = rw (first other) refl

-- ---- a run goes on by one file

pub files_more : (mode : Mode) (file_type : FileType) (names left rest : List (List ℕ)) (name : List ℕ) (start run : Effect) (before folder mid : Folder) (effect : Effect)
    → left ≡ name ∷ rest → FileStep mode file_type name run.closes folder effect mid
    → ((after : Effect) (last : Folder) → FilesFormatted mode file_type left run folder after last → FilesFormatted mode file_type names start before after last)
    → (after : Effect) (last : Folder) → FilesFormatted mode file_type rest (grown run effect) mid after last → FilesFormatted mode file_type names start before after last
files_more mode file_type names left rest name start run before folder mid effect split step runs after last more =
    runs after last (rw (split) (effect, mid, step, more))

-- what the code holds of a run that goes on
abbrev made : e.Effect → e.Effect → e.Effect
made progress effect = record {
  status = worse progress.status effect.status;
  cut = first_cut progress.cut effect.cut;
  closes = progress.closes || effect.closes;
}

pub grown_is : (progress result : e.Effect) (held : e.Effect) (run : Effect) (effect : Effect) → progress ≡ effect_seen run → held ≡ effect_seen effect
    → result ≡ made progress held → result ≡ effect_seen (grown run effect)
grown_is progress result held run effect at is made_so =
    made_so ∙ ap (λ (p : e.Effect). made p held) at ∙ ap (made (effect_seen run)) is

-- ---- whole runs

pub input_outcome : (words : List (List ℕ)) (line : m.FormatLine) (known : Option (List ℕ)) (folder : Folder) (effect : Effect)
    → m.format_line words ≡ Ok line → line.files ≡ [] → InputStep line.mode line.file_type known effect → FormatOutcome words known folder (grown begun effect) folder
input_outcome words line known folder effect read none step = inr (rw (read, none) (effect, step, refl, refl))

pub files_outcome : (words : List (List ℕ)) (line : m.FormatLine) (known : Option (List ℕ)) (folder after : Folder) (run : Effect)
    → m.format_line words ≡ Ok line → (line.files ≡ [] → ⊥) → FilesFormatted line.mode line.file_type line.files begun folder run after → FormatOutcome words known folder run after
files_outcome words line known folder after run read some runs = inr (rw (read) (go line.files some runs))
  where
    go : (names : List (List ℕ)) → (names ≡ [] → ⊥) → FilesFormatted line.mode line.file_type names begun folder run after → RunOf line.mode line.file_type names known folder run after
    go [] other all = absurd (other refl)
    go (name ∷ names) other all = all

pub usage_outcome : (words : List (List ℕ)) (usage : m.FormatUsage) (line : List ℕ) (known : Option (List ℕ)) (folder : Folder)
    → m.format_line words ≡ Err usage → IsFormatUsageLine words usage line
    → FormatOutcome words known folder (record begun { lines = line ∷ []; status = 2 }) folder
usage_outcome words usage line known folder read reported = inr (rw (read) (line, reported, refl, refl))

-- a list of names that its test finds empty
pub no_names : (items names : List (Bor (List ℕ))) (empty : Bool) → names ≡ items → empty ≡ (length names == 0) → empty ≡ true
    → map (λ name. name.now) items ≡ []
no_names items names empty is test found =
    let none : names ≡ [] = nil_from_length names (eqb-true (length names) 0 (sym test ∙ found)) in ap (map (λ name. name.now)) (sym is ∙ none)

-- and one that it doesn't find empty
pub some_names : (items names : List (Bor (List ℕ))) (empty : Bool) → names ≡ items → empty ≡ (length names == 0) → empty ≡ false
    → map (λ name. name.now) items ≡ [] → ⊥
some_names [] names empty is test found none = true≢false (sym (test ∙ ap (λ (ns : List (Bor (List ℕ))). length ns == 0) is) ∙ found)
some_names (x ∷ xs) names empty is test found none = absurd (cc none)
