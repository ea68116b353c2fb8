-- Whole runs over files, as exact ones, and those that a failure of standard output cuts, up to that failure.
use Rattle.bz_buildifier.proofs.Words.{[], ◌++◌, ◌||◌, ◌∙◌, ◌∷◌, ◌≡◌, All, ap, Bool, Bytes, cond, Cut, Cut as c, Effect, Exact, exact_absent, exact_formatted, exact_unformatted, ExactStep, false, file_out, FileFault, FileFault as file, FilesFormatted, FileStep, FileType, first_cut, Folder, get, get-insert, grown, if◌then◌else◌, inl, inr, is_rewritten, IsAside, kept, List, Mode, Mode as m, nat_cmp, new_name, None, noted, output_effect, refl, rewritten, SameBut, SameFolders, Some, subst, sym, text_status, true, unformatted, unread, unread_file, with_file, without_memory}
use Rattle.std.specs.{Ordering.eq_by_cmp, Cmp.Lexicographic.slice_cmp}
use Rattle.std.proofs.{lemmas.Cmp.nat_list_cmp_total, lemmas.List.Elements.All-head, lemmas.List.Elements.All-tail}
use Rattle.bz_buildifier.proofs.FormatSteps.{unread_quiet, refused_quiet}

both_whole : (a b : Cut) → first_cut a b ≡ c.Whole → (a ≡ c.Whole) × (b ≡ c.Whole)
both_whole c.Whole b is = (refl, is)
both_whole c.Memory b is = absurd (cc is)
both_whole c.Read b is = absurd (cc is)
both_whole c.Write b is = absurd (cc is)
both_whole c.Files b is = absurd (cc is)

-- a run that is whole at its end was so at each file
whole_start : (mode : Mode) (file_type : FileType) (names : List Bytes) (run last : Effect) (folder after : Folder) → FilesFormatted mode file_type names run folder last after
    → last.cut ≡ c.Whole → run.cut ≡ c.Whole
whole_start mode file_type [] run last folder after runs is = ap (λ (r : Effect). r.cut) (sym runs.0) ∙ is
whole_start mode file_type (name ∷ names) run last folder after runs is =
    (both_whole run.cut runs.0.cut (whole_start mode file_type names (grown run runs.0) last runs.1 after runs.3 is)).0

-- ---- folders

same_with : (pure folder : Folder) (name new : Bytes) → SameFolders pure folder → SameFolders (with_file pure name new) (with_file folder name new)
same_with pure folder name new same other aside =
    get-insert nat_list_cmp_total folder name new other
    ∙ ap (cond (eq_by_cmp (slice_cmp nat_cmp) other name) (Some new)) (same other aside)
    ∙ sym (get-insert nat_list_cmp_total pure name new other)

same_rewritten : (pure folder after : Folder) (name new : Bytes) → SameFolders pure folder
    → SameBut (λ other. other ≡ new_name name) (with_file folder name new) after → SameFolders (with_file pure name new) after
same_rewritten pure folder after name new same done other aside =
    done other (λ is. aside (name, is)) ∙ same_with pure folder name new same other aside

-- ---- one file, at which nothing fails: standard output stays open

abbrev pub Stepped : Mode → FileType → Bytes → Folder → Effect → Folder → Type 0
Stepped mode file_type name pure effect after = (exact : Folder) × ExactStep mode file_type name pure effect exact × SameFolders exact after × (effect.closes ≡ false)

left_as_is : (mode : Mode) (file_type : FileType) (name : Bytes) (pure folder after : Folder) (effect : Effect) → SameFolders pure folder → after ≡ folder
    → effect.closes ≡ false → ExactStep mode file_type name pure effect pure → Stepped mode file_type name pure effect after
left_as_is mode file_type name pure folder after effect same stays open_still step = (pure, step, subst (λ (f : Folder). SameFolders pure f) (sym stays) same, open_still)

by_fault : (mode : Mode) (file_type : FileType) (name : Bytes) (pure folder after : Folder) (effect : Effect) (fault : FileFault) → (fault ≡ file.Absent → get pure name ≡ None)
    → effect ≡ unread_file name fault → effect.cut ≡ c.Whole → SameFolders pure folder → after ≡ folder → Stepped mode file_type name pure effect after
by_fault mode file_type name pure folder after effect file.Absent none is whole same stays =
    left_as_is mode file_type name pure folder after effect same stays (ap (λ (e : Effect). e.closes) is) (exact_absent (none refl) is refl)
by_fault mode file_type name pure folder after effect file.Open none is whole same stays =
    absurd (cc (sym (ap (λ (e : Effect). e.cut) is) ∙ whole))
by_fault mode file_type name pure folder after effect file.Write none is whole same stays =
    absurd (cc (sym (ap (λ (e : Effect). e.cut) is) ∙ whole))
by_fault mode file_type name pure folder after effect file.Memory none is whole same stays =
    absurd (cc (sym (ap (λ (e : Effect). e.cut) is) ∙ whole))

-- Only in mode `fix` is a file rewritten.
fixed_effect : (mode : Mode) (name text new : Bytes) → is_rewritten mode text new ≡ true
    → noted name text (output_effect [] 0) ≡ noted name text (output_effect (file_out mode name text new) (text_status mode text new))
fixed_effect m.Fix name text new differs = refl
fixed_effect m.Check name text new differs = absurd (cc differs)
fixed_effect m.PrintIfChanged name text new differs = absurd (cc differs)

pub exact_step : (mode : Mode) (file_type : FileType) (name : Bytes) (closed : Bool) (pure folder after : Folder) (effect : Effect) → FileStep mode file_type name closed folder effect after
    → effect.cut ≡ c.Whole → SameFolders pure folder → (IsAside name → ⊥) → Stepped mode file_type name pure effect after
exact_step mode file_type name closed pure folder after effect (unread fault none is stays) whole same other =
    by_fault mode file_type name pure folder after effect fault (λ absent. sym (same name other) ∙ none absent) is whole same stays
exact_step mode file_type name closed pure folder after effect (without_memory is stays) whole same other =
    absurd (cc (sym (ap (λ (e : Effect). e.cut) is) ∙ whole))
exact_step mode file_type name closed pure folder after effect (unformatted text fault there formats is stays) whole same other =
    left_as_is mode file_type name pure folder after effect same stays (ap (λ (e : Effect). e.closes) is ∙ (refused_quiet name text fault).stays)
    (exact_unformatted text fault (sym (same name other) ∙ there) formats is whole refl)
exact_step mode file_type name closed pure folder after effect (kept text new there formats unchanged (inl is) stays) whole same other =
    left_as_is mode file_type name pure folder after effect same stays (ap (λ (e : Effect). e.closes) is)
    (exact_formatted text new (sym (same name other) ∙ there) formats is (rw (unchanged) refl))
exact_step mode file_type name closed pure folder after effect (kept text new there formats unchanged (inr failed) stays) whole same other =
    absurd (cc (sym (ap (λ (e : Effect). e.cut) failed.1) ∙ whole))
exact_step mode file_type name closed pure folder after effect (rewritten text new there formats differs (inl done)) whole same other = (
  with_file pure name new,
  exact_formatted text new (sym (same name other) ∙ there) formats (done.0 ∙ fixed_effect mode name text new differs) (rw (differs) refl),
  same_rewritten pure folder after name new same done.2,
  ap (λ (e : Effect). e.closes) done.0,
)
exact_step mode file_type name closed pure folder after effect (rewritten text new there formats differs (inr failed)) whole same other =
    absurd (cc (sym (ap (λ (e : Effect). e.cut) failed.0) ∙ whole))

-- ---- whole runs

abbrev pub Other : Bytes → Type 0
Other name = IsAside name → ⊥

pub exact_run : (mode : Mode) (file_type : FileType) (names : List Bytes) (run last : Effect) (pure folder after : Folder) → FilesFormatted mode file_type names run folder last after
    → last.cut ≡ c.Whole → SameFolders pure folder → All (λ name. IsAside name → ⊥) names
    → (exact : Folder) × Exact mode file_type names run pure last exact × SameFolders exact after
exact_run mode file_type [] run last pure folder after runs whole same others =
    (pure, (runs.0, refl), subst (λ (f : Folder). SameFolders pure f) (sym runs.1) same)
exact_run mode file_type (name ∷ names) run last pure folder after runs whole same others =
    let effect = runs.0 in
    let mid = runs.1 in
    let so_far = whole_start mode file_type names (grown run effect) last mid after runs.3 whole in
    let step = exact_step mode file_type name run.closes pure folder mid effect runs.2 (both_whole run.cut effect.cut so_far).1 same (All-head Other name names others) in
    let rest = exact_run mode file_type names (grown run effect) last step.0 mid after runs.3 whole step.2 (All-tail Other name names others) in
    (rest.0, (effect, step.0, step.1, rest.1), rest.2)

-- ---- what stays to the end of a run

cut_stays : (mode : Mode) (file_type : FileType) (names : List Bytes) (run last : Effect) (folder after : Folder) → FilesFormatted mode file_type names run folder last after
    → (run.cut ≡ c.Whole → ⊥) → last.cut ≡ run.cut
cut_stays mode file_type [] run last folder after runs other = ap (λ (r : Effect). r.cut) runs.0
cut_stays mode file_type (name ∷ names) run last folder after runs other =
    let first : first_cut run.cut runs.0.cut ≡ run.cut = first_stays run.cut runs.0.cut other in
    cut_stays mode file_type names (grown run runs.0) last runs.1 after runs.3 (λ whole. other (sym first ∙ whole)) ∙ first
  where
    first_stays : (cut later : Cut) → (cut ≡ c.Whole → ⊥) → first_cut cut later ≡ cut
    first_stays c.Whole later other = absurd (other refl)
    first_stays c.Memory later other = refl
    first_stays c.Read later other = refl
    first_stays c.Write later other = refl
    first_stays c.Files later other = refl

-- Once standard output is closed it stays so, and nothing more comes there.
closed_stays : (mode : Mode) (file_type : FileType) (names : List Bytes) (run last : Effect) (folder after : Folder) → FilesFormatted mode file_type names run folder last after
    → run.closes ≡ true → (last.closes ≡ true) × (last.out ≡ run.out)
closed_stays mode file_type [] run last folder after runs closed = (ap (λ (r : Effect). r.closes) runs.0 ∙ closed, ap (λ (r : Effect). r.out) runs.0)
closed_stays mode file_type (name ∷ names) run last folder after runs closed =
    let rest = closed_stays mode file_type names (grown run runs.0) last runs.1 after runs.3 (rw (closed) refl) in
    (rest.0, rest.1 ∙ (rw (closed) refl))

-- ---- one file

-- a file at which standard output failed: what was to be written of it, and by an exact step
record Failed (mode : Mode) (file_type : FileType) (name : Bytes) (pure : Folder) (effect : Effect) : Type 0 where
  pub closes : effect.closes ≡ true
  pub exact : Effect
  pub step : ExactStep mode file_type name pure exact pure
  pub whole : exact.cut ≡ c.Whole
  pub out : exact.out ≡ effect.out

failed_step : (mode : Mode) (file_type : FileType) (name : Bytes) (closed : Bool) (pure folder after : Folder) (effect : Effect) → FileStep mode file_type name closed folder effect after
    → effect.cut ≡ c.Write → SameFolders pure folder → (IsAside name → ⊥) → Failed mode file_type name pure effect
failed_step mode file_type name closed pure folder after effect (unread fault none is stays) cut same other =
    absurd ((unread_quiet name fault).other (sym (ap (λ (e : Effect). e.cut) is) ∙ cut))
failed_step mode file_type name closed pure folder after effect (without_memory is stays) cut same other =
    absurd (cc (sym (ap (λ (e : Effect). e.cut) is) ∙ cut))
failed_step mode file_type name closed pure folder after effect (unformatted text fault there formats is stays) cut same other =
    absurd ((refused_quiet name text fault).other (sym (ap (λ (e : Effect). e.cut) is) ∙ cut))
failed_step mode file_type name closed pure folder after effect (kept text new there formats unchanged (inl is) stays) cut same other =
    absurd (cc (sym (ap (λ (e : Effect). e.cut) is) ∙ cut))
failed_step mode file_type name closed pure folder after effect (kept text new there formats unchanged (inr failed) stays) cut same other = record {
  closes = ap (λ (e : Effect). e.closes) failed.1;
  exact = noted name text (output_effect (file_out mode name text new) (text_status mode text new));
  step = exact_formatted text new (sym (same name other) ∙ there) formats refl (rw (unchanged) refl);
  whole = refl;
  out = sym (ap (λ (e : Effect). e.out) failed.1);
}
failed_step mode file_type name closed pure folder after effect (rewritten text new there formats differs (inl done)) cut same other =
    absurd (cc (sym (ap (λ (e : Effect). e.cut) done.0) ∙ cut))
failed_step mode file_type name closed pure folder after effect (rewritten text new there formats differs (inr failed)) cut same other =
    absurd (cc (sym (ap (λ (e : Effect). e.cut) failed.0) ∙ cut))

-- ---- runs

-- a run of which the files so far were written as an exact run writes them
abbrev pub Begins : Mode → FileType → List Bytes → Effect → Effect → Folder → Type 0
Begins mode file_type names run last pure = (front rest : List Bytes) × (names ≡ front ++ rest) × (last.closes ≡ true)
    × (exact : Effect) × (end : Folder) × Exact mode file_type front run pure exact end × (exact.cut ≡ c.Whole) × (exact.out ≡ last.out)

pub cut_run : (mode : Mode) (file_type : FileType) (names : List Bytes) (run last : Effect) (pure folder after : Folder) → FilesFormatted mode file_type names run folder last after
    → run.cut ≡ c.Whole → run.closes ≡ false → last.cut ≡ c.Write → SameFolders pure folder → All (λ name. IsAside name → ⊥) names
    → Begins mode file_type names run last pure
cut_run mode file_type [] run last pure folder after runs whole opened cut same others =
    absurd (cc (sym whole ∙ sym (ap (λ (r : Effect). r.cut) runs.0) ∙ cut))
cut_run mode file_type (name ∷ names) run last pure folder after runs whole opened cut same others =
    go (λ mid still left alike. cut_run mode file_type names (grown run runs.0) last mid runs.1 after runs.3 still left cut alike (All-tail Other name names others))
    runs.0.cut refl
  where
    -- what the rest of the run does
    Rest : Type 0
    Rest = (mid : Folder) → (grown run runs.0).cut ≡ c.Whole → (grown run runs.0).closes ≡ false → SameFolders mid runs.1
        → Begins mode file_type names (grown run runs.0) last mid

    effect : Effect
    effect = runs.0

    other : IsAside name → ⊥
    other = All-head Other name names others

    grown_cut : first_cut run.cut effect.cut ≡ effect.cut
    grown_cut = ap (λ (first : Cut). first_cut first effect.cut) whole

    -- a failure that is none of standard output would be that of the run
    not_other : (effect.cut ≡ c.Whole → ⊥) → effect.cut ≡ c.Write
    not_other some =
        sym (cut_stays mode file_type names (grown run effect) last runs.1 after runs.3 (λ is. some (sym grown_cut ∙ is)) ∙ grown_cut) ∙ cut

    go : Rest → (found : Cut) → effect.cut ≡ found → Begins mode file_type (name ∷ names) run last pure
    go more c.Whole is =
        let step = exact_step mode file_type name run.closes pure folder runs.1 effect runs.2 is same other in
        let rest = more step.0 (grown_cut ∙ is) (ap (λ (b : Bool). b || effect.closes) opened ∙ step.3) step.2 in
        (name ∷ rest.0, rest.1, ap (λ (ns : List Bytes). name ∷ ns) rest.2, rest.3, rest.4, rest.5, (effect, step.0, step.1, rest.6), rest.7, rest.8)
    go more c.Write is =
        let step = failed_step mode file_type name run.closes pure folder runs.1 effect runs.2 is same other in
        let stays = closed_stays mode file_type names (grown run effect) last runs.1 after runs.3 (ap (λ (b : Bool). b || effect.closes) opened ∙ step.closes) in
        let still = ap (λ (first : Cut). first_cut first step.exact.cut) whole ∙ step.whole in
        let out = ap (λ (bytes : Bytes). if run.closes then run.out else run.out ++ bytes) step.out ∙ sym stays.1 in
        (name ∷ [], names, refl, stays.0, grown run step.exact, pure, (step.exact, pure, step.step, (refl, refl)), still, out)
    go more c.Memory is = absurd (cc (sym is ∙ not_other (λ w. cc (sym is ∙ w))))
    go more c.Read is = absurd (cc (sym is ∙ not_other (λ w. cc (sym is ∙ w))))
    go more c.Files is = absurd (cc (sym is ∙ not_other (λ w. cc (sym is ∙ w))))
