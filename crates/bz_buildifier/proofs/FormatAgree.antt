-- Two runs that no failure cuts agree.
use Rattle.bz_buildifier.proofs.Words.{[], ◌++◌, ◌<◌, ◌∙◌, ◌∷◌, ◌≡◌, ◌≤◌, ◌⊎◌, absent, Agree, All, ap, arith, begun, Bool, Bytes, Cut as c, Effect, Err, Exact, exact_absent, exact_formatted, exact_unformatted, ExactStep, false, file_out, FilesFormatted, FileType, Folder, FormatFault, FormatFault as f, FormatOutcomeOf, FormatsAs, get, grown, IfOk, if◌then◌else◌, inl, input_out, input_printed, input_unformatted, input_unread, input_without_memory, InputStep, inr, is_bzl, is_rewritten, IsAside, IsFormatUsageLine, length, limit, List, Mode, None, noted, Ok, OutcomesAgree, output_effect, ReadFault, ReadsBzl, refl, refused, Result, RunOf, SameFolders, SameReports, Some, stdin, subst, sym, text_status, true, unopened, with_file}
use Rattle.bz_grammar.specs.{declared.tree.Node.Node, Laws.OneReading, Laws.OneBzlReading}
use Rattle.bz_hosts.specs.View.{view_of}
use Rattle.bz_build_format.specs.Meaning.{Meaning, gives, refuses, written, Formats}
use Rattle.bz_value.specs.declared.refusal.Refusal.TheVariants as r
use Rattle.bz_build_format.specs.Faults.{bzl_formatted, formatted_tree}
use Rattle.bz_buildifier.specs.Modes as m
use Rattle.bz_buildifier.proofs.FormatWhole.{exact_run}

-- ---- what formatting a text answers is fixed

-- the tree of a BUILD file is one of any file
one_build : OneBzlReading → OneReading
one_build one text tree other reads others = one text tree other (reads.0.legal, reads.1, reads.2) (others.0.legal, others.1, others.2)

one_meaning : OneBzlReading → (text : Bytes) (one other : Meaning) → Formats text one → Formats text other → other ≡ one
one_meaning laws text one other formats others =
    others.2 ∙ ap (λ (n : Node). written (view_of n) None) (one_build laws text others.0 formats.0 others.1 formats.1) ∙ sym formats.2

one_formatted : OneBzlReading → (bzl : Bool) (text one other : Bytes) → FormatsAs bzl text (Ok one) → FormatsAs bzl text (Ok other) → other ≡ one
one_formatted laws true text one other formats others =
    others.2 ∙ ap bzl_formatted (laws text others.0 formats.0 others.1 formats.1) ∙ sym formats.2
one_formatted laws false text one other formats others =
    let same = one_meaning laws text (gives one None) (gives other None) formats others in cc

ok_or_large : OneBzlReading → (bzl : Bool) (text new : Bytes) → FormatsAs bzl text (Ok new) → FormatsAs bzl text (Err f.TooLarge) → ⊥
ok_or_large laws true text new formats large =
    let same : bzl_formatted large.0 ≡ new = ap bzl_formatted (laws text large.0 formats.0 large.1 formats.1) ∙ sym formats.2 in
    let long : limit < length new = subst (λ (bytes : Bytes). limit < length bytes) same large.2 in
    let short : length new ≤ limit = formats.3 in omega (arith, long, short)
ok_or_large laws false text new formats large =
    let same = one_meaning laws text (gives new None) (refuses r.TooLarge) formats large in absurd (cc same)

ok_or_deep : OneBzlReading → (bzl : Bool) (text new : Bytes) → FormatsAs bzl text (Ok new) → FormatsAs bzl text (Err f.TooDeep) → ⊥
ok_or_deep laws true text new formats deep =
    let same : formats.0 ≡ deep.0 = laws text formats.0 deep.0 formats.1 deep.1 in
    deep.4 (formatted_tree formats.0) (subst (λ (n : Node). ReadsBzl (bzl_formatted n) (formatted_tree formats.0)) same formats.4.0)
ok_or_deep laws false text new formats deep =
    let same = one_meaning laws text (gives new None) (refuses r.TooDeep) formats deep in absurd (cc same)

large_or_deep : OneBzlReading → (bzl : Bool) (text : Bytes) → FormatsAs bzl text (Err f.TooLarge) → FormatsAs bzl text (Err f.TooDeep) → ⊥
large_or_deep laws true text large deep =
    let same : bzl_formatted large.0 ≡ bzl_formatted deep.0 = ap bzl_formatted (laws text large.0 deep.0 large.1 deep.1) in
    let long : limit < length (bzl_formatted deep.0) = subst (λ (bytes : Bytes). limit < length bytes) same large.2 in
    let short : length (bzl_formatted deep.0) ≤ limit = deep.2 in omega (arith, long, short)
large_or_deep laws false text large deep =
    let same = one_meaning laws text (refuses r.TooLarge) (refuses r.TooDeep) large deep in absurd (cc same)

unread_or_ok : (bzl : Bool) (text new : Bytes) (fault : ReadFault) → FormatsAs bzl text (Err (f.Unread fault)) → FormatsAs bzl text (Ok new) → ⊥
unread_or_ok true text new fault unread formats = unread.0 formats.0 formats.1
unread_or_ok false text new fault unread formats = unread.0 (formats.0, formats.1)

unread_or_large : (bzl : Bool) (text : Bytes) (fault : ReadFault) → FormatsAs bzl text (Err (f.Unread fault)) → FormatsAs bzl text (Err f.TooLarge) → ⊥
unread_or_large true text fault unread large = unread.0 large.0 large.1
unread_or_large false text fault unread large = unread.0 (large.0, large.1)

unread_or_deep : (bzl : Bool) (text : Bytes) (fault : ReadFault) → FormatsAs bzl text (Err (f.Unread fault)) → FormatsAs bzl text (Err f.TooDeep) → ⊥
unread_or_deep true text fault unread deep = unread.0 deep.0 deep.1
unread_or_deep false text fault unread deep = unread.0 (deep.0, deep.1)

-- ---- effects

same_reports : (lines : List Bytes) → SameReports lines lines
same_reports [] = tt
same_reports (line ∷ lines) = (inl refl, same_reports lines)

more_reports : (lines others more others' : List Bytes) → SameReports lines others → SameReports more others' → SameReports (lines ++ more) (others ++ others')
more_reports [] [] more others' same again = again
more_reports [] (other ∷ others) more others' same again = absurd same
more_reports (line ∷ lines) [] more others' same again = absurd same
more_reports (line ∷ lines) (other ∷ others) more others' same again = (same.0, more_reports lines others more others' same.1 again)

same_effect : (one other : Effect) → other ≡ one → Agree one other
same_effect one other same = subst (λ (e : Effect). Agree one e) (sym same) (record { out = refl; lines = same_reports one.lines; status = refl; cut = refl; closes = refl })

not_memory_effect : (name text : Bytes) → (refused name text f.Memory).cut ≡ c.Whole → ⊥
not_memory_effect name text is = cc is

same_refusal : OneBzlReading → (bzl : Bool) (text name : Bytes) (fault other : FormatFault) → FormatsAs bzl text (Err fault) → FormatsAs bzl text (Err other)
    → (refused name text fault).cut ≡ c.Whole → (refused name text other).cut ≡ c.Whole → Agree (refused name text fault) (refused name text other)
same_refusal laws bzl text name (f.Unread fault) (f.Unread other) one two whole whole' =
    record { out = refl; lines = (inr (name, text, fault, other, refl, refl), tt); status = refl; cut = refl; closes = refl }
same_refusal laws bzl text name f.TooLarge f.TooLarge one two whole whole' = same_effect (refused name text f.TooLarge) (refused name text f.TooLarge) refl
same_refusal laws bzl text name f.TooDeep f.TooDeep one two whole whole' = same_effect (refused name text f.TooDeep) (refused name text f.TooDeep) refl
same_refusal laws bzl text name (f.Unread fault) f.TooLarge one two whole whole' = absurd (unread_or_large bzl text fault one two)
same_refusal laws bzl text name (f.Unread fault) f.TooDeep one two whole whole' = absurd (unread_or_deep bzl text fault one two)
same_refusal laws bzl text name f.TooLarge (f.Unread other) one two whole whole' = absurd (unread_or_large bzl text other two one)
same_refusal laws bzl text name f.TooDeep (f.Unread other) one two whole whole' = absurd (unread_or_deep bzl text other two one)
same_refusal laws bzl text name f.TooLarge f.TooDeep one two whole whole' = absurd (large_or_deep laws bzl text one two)
same_refusal laws bzl text name f.TooDeep f.TooLarge one two whole whole' = absurd (large_or_deep laws bzl text two one)
same_refusal laws bzl text name f.Memory other one two whole whole' = absurd (not_memory_effect name text whole)
same_refusal laws bzl text name (f.Unread fault) f.Memory one two whole whole' = absurd (not_memory_effect name text whole')
same_refusal laws bzl text name f.TooLarge f.Memory one two whole whole' = absurd (not_memory_effect name text whole')
same_refusal laws bzl text name f.TooDeep f.Memory one two whole whole' = absurd (not_memory_effect name text whole')

not_both : OneBzlReading → (bzl : Bool) (text name new : Bytes) (fault : FormatFault) → FormatsAs bzl text (Ok new) → FormatsAs bzl text (Err fault) → (refused name text fault).cut ≡ c.Whole → ⊥
not_both laws bzl text name new (f.Unread fault) formats reported whole = unread_or_ok bzl text new fault reported formats
not_both laws bzl text name new f.TooLarge formats reported whole = ok_or_large laws bzl text new formats reported
not_both laws bzl text name new f.TooDeep formats reported whole = ok_or_deep laws bzl text new formats reported
not_both laws bzl text name new f.Memory formats reported whole = not_memory_effect name text whole

-- by effects that are these
alike_as : (one other one' other' : Effect) → one' ≡ one → other' ≡ other → Agree one other → Agree one' other'
alike_as one other one' other' is is' alike =
    subst (λ (e : Effect). Agree e other') (sym is) (subst (λ (e : Effect). Agree one e) (sym is') alike)

cut_as : (one one' : Effect) → one' ≡ one → one'.cut ≡ c.Whole → one.cut ≡ c.Whole
cut_as one one' is whole = sym (ap (λ (e : Effect). e.cut) is) ∙ whole

-- ---- one text

-- What formatting a text under a name does: it is reported, or something is made of the formatted text.
data Answered (bzl : Bool) (name text : Bytes) (output : Bytes → Effect) (left : Bytes → Folder) (folder : Folder) (effect : Effect) (after : Folder) : Type 0 where
  was_refused : (fault : FormatFault) → FormatsAs bzl text (Err fault) → effect ≡ refused name text fault → effect.cut ≡ c.Whole → after ≡ folder
      → Answered bzl name text output left folder effect after
  was_formatted : (new : Bytes) → FormatsAs bzl text (Ok new) → effect ≡ output new → after ≡ left new → Answered bzl name text output left folder effect after

answers_agree : OneBzlReading → (bzl : Bool) (name text : Bytes) (output : Bytes → Effect) (left : Bytes → Folder) (folder : Folder) (one other : Effect) (after after' : Folder)
    → Answered bzl name text output left folder one after → Answered bzl name text output left folder other after' → Agree one other × (after' ≡ after)
answers_agree laws bzl name text output left folder one other after after' (was_refused fault formats is whole stays) (was_refused fault' formats' is' whole' stays') = (
  alike_as (refused name text fault) (refused name text fault') one other is is' (same_refusal laws bzl text name fault fault' formats formats'
      (cut_as (refused name text fault) one is whole) (cut_as (refused name text fault') other is' whole')),
  stays' ∙ sym stays,
)
answers_agree laws bzl name text output left folder one other after after' (was_refused fault formats is whole stays) (was_formatted new formats' is' made) =
    absurd (not_both laws bzl text name new fault formats' formats (cut_as (refused name text fault) one is whole))
answers_agree laws bzl name text output left folder one other after after' (was_formatted new formats is made) (was_refused fault formats' is' whole stays) =
    absurd (not_both laws bzl text name new fault formats formats' (cut_as (refused name text fault) other is' whole))
answers_agree laws bzl name text output left folder one other after after' (was_formatted new formats is made) (was_formatted new' formats' is' made') =
    let news : new' ≡ new = one_formatted laws bzl text new new' formats formats' in
    (same_effect one other (is' ∙ ap output news ∙ sym is), made' ∙ ap left news ∙ sym made)

-- ---- one file

abbrev FileAnswer : Mode → FileType → Bytes → Folder → Bytes → Effect → Folder → Type 0
FileAnswer mode file_type name folder text effect after =
    Answered (is_bzl file_type name) name text (λ new. noted name text (output_effect (file_out mode name text new) (text_status mode text new)))
    (λ new. if is_rewritten mode text new then with_file folder name new else folder) folder effect after

-- by what is at its name
abbrev Found : Mode → FileType → Bytes → Folder → Effect → Folder → Type 0
Found mode file_type name folder effect after = ((get folder name ≡ None) × (effect ≡ absent name) × (after ≡ folder))
    ⊎ ((text : Bytes) × (get folder name ≡ Some text) × FileAnswer mode file_type name folder text effect after)

found : (mode : Mode) (file_type : FileType) (name : Bytes) (folder : Folder) (effect : Effect) (after : Folder) → ExactStep mode file_type name folder effect after
    → Found mode file_type name folder effect after
found mode file_type name folder effect after (exact_absent none is stays) = inl (none, is, stays)
found mode file_type name folder effect after (exact_unformatted text fault there formats is whole stays) = inr (text, there, was_refused fault formats is whole stays)
found mode file_type name folder effect after (exact_formatted text new there formats is made) = inr (text, there, was_formatted new formats is made)

never_both : (folder : Folder) (name text : Bytes) → get folder name ≡ None → get folder name ≡ Some text → ⊥
never_both folder name text none there = let same = sym none ∙ there in cc same

same_text : (folder : Folder) (name text other : Bytes) → get folder name ≡ Some text → get folder name ≡ Some other → other ≡ text
same_text folder name text other there there' = let same = sym there' ∙ there in cc

one_found : OneBzlReading → (mode : Mode) (file_type : FileType) (name : Bytes) (folder after after' : Folder) (one other : Effect)
    → Found mode file_type name folder one after → Found mode file_type name folder other after' → Agree one other × (after' ≡ after)
one_found laws mode file_type name folder after after' one other (inl a) (inl b) = (same_effect one other (b.1 ∙ sym a.1), b.2 ∙ sym a.2)
one_found laws mode file_type name folder after after' one other (inl a) (inr b) = absurd (never_both folder name b.0 a.0 b.1)
one_found laws mode file_type name folder after after' one other (inr a) (inl b) = absurd (never_both folder name a.0 b.0 a.1)
one_found laws mode file_type name folder after after' one other (inr a) (inr b) =
    answers_agree laws (is_bzl file_type name) name a.0 (λ new. noted name a.0 (output_effect (file_out mode name a.0 new) (text_status mode a.0 new)))
    (λ new. if is_rewritten mode a.0 new then with_file folder name new else folder) folder one other after after' a.2
    (subst (λ (text : Bytes). FileAnswer mode file_type name folder text other after') (same_text folder name a.0 b.0 a.1 b.1) b.2)

-- ---- runs

grown_agree : (run run' : Effect) (one other : Effect) → Agree run run' → Agree one other → Agree (grown run one) (grown run' other)
grown_agree run run' one other agree alike = record {
  out = rw (agree.closes, agree.out, alike.out) refl;
  lines = more_reports run.lines run'.lines one.lines other.lines agree.lines alike.lines;
  status = rw (agree.status, alike.status) refl;
  cut = rw (agree.cut, alike.cut) refl;
  closes = rw (agree.closes, alike.closes) refl;
}

runs_agree : OneBzlReading → (mode : Mode) (file_type : FileType) (names : List Bytes) (run run' one other : Effect) (folder after after' : Folder) → Agree run run'
    → Exact mode file_type names run folder one after → Exact mode file_type names run' folder other after' → Agree one other × (after' ≡ after)
runs_agree laws mode file_type [] run run' one other folder after after' agree exact exact' = (
  subst (λ (r : Effect). Agree r other) (sym exact.0) (subst (λ (r : Effect). Agree run r) (sym exact'.0) agree),
  exact'.1 ∙ sym exact.1,
)
runs_agree laws mode file_type (name ∷ names) run run' one other folder after after' agree exact exact' =
    let step = one_found laws mode file_type name folder exact.1 exact'.1 exact.0 exact'.0 (found mode file_type name folder exact.0 exact.1 exact.2)
    (found mode file_type name folder exact'.0 exact'.1 exact'.2) in
    runs_agree laws mode file_type names (grown run exact.0) (grown run' exact'.0) one other exact.1 after after'
    (grown_agree run run' exact.0 exact'.0 agree step.0) exact.3
    (subst (λ (mid : Folder). Exact mode file_type names (grown run' exact'.0) mid other after') step.1 exact'.3)

files_agree : OneBzlReading → (mode : Mode) (file_type : FileType) (names : List Bytes) (one other : Effect) (folder after after' : Folder)
    → FilesFormatted mode file_type names begun folder one after → FilesFormatted mode file_type names begun folder other after'
    → one.cut ≡ c.Whole → other.cut ≡ c.Whole → All (λ name. IsAside name → ⊥) names → Agree one other × SameFolders after after'
files_agree laws mode file_type names one other folder after after' runs runs' whole whole' others =
    let exact = exact_run mode file_type names begun one folder folder after runs whole (λ name aside. refl) others in
    let exact' = exact_run mode file_type names begun other folder folder after' runs' whole' (λ name aside. refl) others in
    let found = runs_agree laws mode file_type names begun begun one other folder exact.0 exact'.0 (same_effect begun begun refl) exact.1 exact'.1 in
    (found.0, λ name aside. exact'.2 name aside ∙ ap (λ (g : Folder). get g name) found.1 ∙ sym (exact.2 name aside))

-- ---- standard input

abbrev InputAnswer : Mode → FileType → Bytes → Folder → Effect → Type 0
InputAnswer mode file_type input folder effect =
    Answered (is_bzl file_type stdin) stdin input (λ new. noted stdin input (output_effect (input_out mode input new) (text_status mode input new))) (λ new. folder) folder effect folder

exactly : (mode : Mode) (file_type : FileType) (input : Bytes) (folder : Folder) (effect : Effect) → InputStep mode file_type (Some input) effect → effect.cut ≡ c.Whole
    → InputAnswer mode file_type input folder effect
exactly mode file_type input folder effect (input_unread is) whole = absurd (cc (sym (ap (λ (e : Effect). e.cut) is) ∙ whole))
exactly mode file_type input folder effect (input_without_memory is) whole = absurd (cc (sym (ap (λ (e : Effect). e.cut) is) ∙ whole))
exactly mode file_type input folder effect (input_unformatted text fault of formats is) whole =
    was_refused fault (subst (λ (t : Bytes). FormatsAs (is_bzl file_type stdin) t (Err fault)) of formats) (is ∙ ap (λ (t : Bytes). refused stdin t fault) of) whole refl
exactly mode file_type input folder effect (input_printed text new of formats (inl is)) whole =
    was_formatted new (subst (λ (t : Bytes). FormatsAs (is_bzl file_type stdin) t (Ok new)) of formats)
    (is ∙ ap (λ (t : Bytes). noted stdin t (output_effect (input_out mode t new) (text_status mode t new))) of) refl
exactly mode file_type input folder effect (input_printed text new of formats (inr failed)) whole = absurd (cc (sym (ap (λ (e : Effect). e.cut) failed.1) ∙ whole))

-- a run over one text is whole where its effect is
begun_cut : (effect : Effect) (run : Effect) → run ≡ grown begun effect → run.cut ≡ c.Whole → effect.cut ≡ c.Whole
begun_cut effect run is whole = sym (ap (λ (r : Effect). r.cut) is) ∙ whole

-- ---- whole runs

run_of_agree : OneBzlReading → (mode : Mode) (file_type : FileType) (names : List Bytes) (input : Bytes) (one other : Effect) (folder after after' : Folder)
    → RunOf mode file_type names (Some input) folder one after → RunOf mode file_type names (Some input) folder other after'
    → one.cut ≡ c.Whole → other.cut ≡ c.Whole → All (λ name. IsAside name → ⊥) names → Agree one other × SameFolders after after'
run_of_agree laws mode file_type [] input one other folder after after' run run' whole whole' others =
    let w = begun_cut run.0 one run.2 whole in
    let w' = begun_cut run'.0 other run'.2 whole' in
    let alike = (answers_agree laws (is_bzl file_type stdin) stdin input (λ new. noted stdin input (output_effect (input_out mode input new) (text_status mode input new))) (λ new. folder) folder
    run.0 run'.0 folder folder (exactly mode file_type input folder run.0 run.1 w) (exactly mode file_type input folder run'.0 run'.1 w')).0 in (
      subst (λ (r : Effect). Agree r other) (sym run.2) (subst (λ (r : Effect). Agree (grown begun run.0) r) (sym run'.2) (grown_agree begun begun run.0 run'.0 (same_effect begun begun refl) alike)),
      λ name aside. ap (λ (g : Folder). get g name) (run'.3 ∙ sym run.3),
    )
run_of_agree laws mode file_type (name ∷ names) input one other folder after after' run run' whole whole' others =
    files_agree laws mode file_type (name ∷ names) one other folder after after' run run' whole whole' others

-- the line of words that are no line of buildifier's is fixed, but where clap finds the fault
one_line : (words : List Bytes) (usage : m.FormatUsage) (line other : Bytes) → (usage ≡ m.clap_fault → ⊥)
    → IsFormatUsageLine words usage line → IsFormatUsageLine words usage other → other ≡ line
one_line words m.clap_fault line other some is is' = absurd (some refl)
one_line words (m.no_mode name) line other some is is' = is' ∙ sym is
one_line words (m.no_type name) line other some is is' = is' ∙ sym is

of_agree : OneBzlReading → (words : List Bytes) (read : Result m.FormatLine m.FormatUsage) (input : Bytes) (one other : Effect) (folder after after' : Folder)
    → FormatOutcomeOf words read (Some input) folder one after → FormatOutcomeOf words read (Some input) folder other after'
    → one.cut ≡ c.Whole → other.cut ≡ c.Whole → (read ≡ Err m.clap_fault → ⊥) → IfOk read (λ line. All (λ name. IsAside name → ⊥) line.files)
    → Agree one other × SameFolders after after'
of_agree laws words (Err usage) input one other folder after after' outcome outcome' whole whole' some others =
    let lines : outcome'.0 ≡ outcome.0 = one_line words usage outcome.0 outcome'.0 (λ is. some (ap Err is)) outcome.1 outcome'.1 in
    let same : other ≡ one = outcome'.2 ∙ (rw (lines) (sym outcome.2)) in (
      same_effect one other same,
      λ name aside. ap (λ (g : Folder). get g name) (outcome'.3 ∙ sym outcome.3),
    )
of_agree laws words (Ok line) input one other folder after after' outcome outcome' whole whole' some others =
    run_of_agree laws line.mode line.file_type line.files input one other folder after after' outcome outcome' whole whole' others

pub outcomes_agree : OneBzlReading → OutcomesAgree
outcomes_agree laws words input folder after after' one other (inl wants) outcome' whole whole' some others =
    absurd (cc (sym (ap (λ (r : Effect). r.cut) wants.0) ∙ whole))
outcomes_agree laws words input folder after after' one other (inr outcome) (inl wants) whole whole' some others =
    absurd (cc (sym (ap (λ (r : Effect). r.cut) wants.0) ∙ whole'))
outcomes_agree laws words input folder after after' one other (inr outcome) (inr outcome') whole whole' some others =
    of_agree laws words (m.format_line words) input one other folder after after' outcome outcome' whole whole' some others
