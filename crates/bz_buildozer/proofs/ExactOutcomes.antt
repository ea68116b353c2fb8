-- Words, standard input and a folder have at most one outcome.
use Rattle.bz_buildozer.proofs.Words.{[], ◌&&◌, ◌++◌, ◌+◌, ◌||◌, ◌∙◌, ◌∷◌, ◌≡◌, ◌≢◌, ◌⊎◌, accepted, all_steps, ap, append-nil, arith, Bool, Bytes, bytes_eq, cases_lt, command_line_of, CommandLine, cond, Cut, Cut as c, Ended, Err, false, fault_line, first_cut, flat_map, Folder, get, get-insert, Given, GivenOutcome, GivenReportsPattern, if◌then◌else◌, in_line, inl, input_package, inr, is_of_input, IsFirstFault, IsFirstRefused, IsGroupFault, IsLeftOpen, IsPatternFault, IsScript, IsScriptFault, IsText, IsTextFault, IsUtf8, joined_operands, journal_name, length, LineOutcome, LinesEnd, LinesOutcome, LineUsage, List, list_any, list_any-append, map, names_file, names_input, nat_cmp, no_command, no_line, no_target, None, nothing_done, NotUtf8, nul, of_clap, of_operand, Ok, OneReading, operand_group, operands, OperandsOutcome, Option, Options, or_parts, OutcomesAreExact, output_lines, Performs, Progress, ReadFault, refl, reported_name, ReportsPattern, Request, Requested, requested_by, requested_of, Result, root_above, root_note, RunsSteps, SameBut, SameLeft, script, script_lines, script_of, ScriptOutcome, shows_input, slice_cmp, Some, status_of, step_of, steps_requested, subst, suc, sym, take-length, Target, TextOutcome, texts_out, TriesFile, TriesFiles, true, true≢false, unread, unused, Usage, usage_line, Used, WordsOutcome, World, WritesFile, Writing, writing_of, ℕ}
use Rattle.bz_command_syntax.specs.declared.profile.Profile.{Profile}
use Rattle.bz_command_line.specs.{Requested.Refused, Script.line_with_nul, Script.is_read, Script.operands_in, Script.in_front, Script.group_in_line, Script.line_group, Script.operand_groups, Script.some_groups, Script.without_nul, Line.beside_script, Line.beside_stdout, Line.no_profile}
use Rattle.std.specs.{Ordering.eq_by_cmp, Str.IsValidUpTo}
use Rattle.std.proofs.lemmas.Cmp.{nat_list_cmp_total}
use Rattle.bz_buildozer.proofs.CutSteps.{both_whole}
use Rattle.bz_buildozer.proofs.ExactSteps.{same_append, same_lines, same_parts, AreSeen, Stays, reads_input, same_folder, same_run, stays_run, one_input}

-- ---- why operands and lines are refused, as their functions say it, but for patterns

both_joined : (first more : Result Requested Refused) (requested : Requested) → joined_operands first more ≡ Ok requested
    → (a : Requested) × (b : Requested) × (first ≡ Ok a) × (more ≡ Ok b)
both_joined (Ok a) (Ok b) requested is = (a, b, refl, refl)
both_joined (Ok a) (Err refused) requested is = absurd (cc is)
both_joined (Err refused) more requested is = absurd (cc is)

module _ (profile : Profile) where
  -- The first operand that is refused is reported.
  first_refused : (front rest : List Bytes) (operand : Bytes) (refused : Refused) (requested : Requested) → requested_of profile front ≡ Ok requested
      → requested_by profile operand ≡ Err refused → requested_of profile (front ++ operand ∷ rest) ≡ Err refused
  first_refused [] rest operand refused requested before is = ap (λ (it : Result Requested Refused). joined_operands it (requested_of profile rest)) is
  first_refused (first ∷ front) rest operand refused requested before is =
      let parts = both_joined (requested_by profile first) (requested_of profile front) requested before in
      ap (λ (it : Result Requested Refused). joined_operands it (requested_of profile (front ++ operand ∷ rest))) parts.2
      ∙ ap (λ (it : Result Requested Refused). joined_operands (Ok parts.0) it) (first_refused front rest operand refused parts.1 parts.3 is)

  -- a usage that reports a pattern of these operands
  abbrev pub ReportsOperand : List Bytes → Usage → Type 0
  ReportsOperand texts usage = (refused : Refused) × (usage ≡ of_operand refused) × IsFirstRefused profile texts refused × IsPatternFault profile refused.operand refused.fault

  by_operand : (texts : List Bytes) (refused : Refused) → IsFirstRefused profile texts refused → (operand_group profile texts ≡ Err (of_operand refused)) ⊎ ReportsOperand texts (of_operand refused)
  by_operand texts refused first = elim first.fault [
    | inl requested ↦ inl (ap (operand_group profile) first.split ∙ ap accepted (first_refused first.front first.rest refused.operand refused first.requested first.before requested))
    | inr pattern ↦ inr (refused, refl, first, pattern)
  ]

  pub group_fault : (texts : List Bytes) (usage : Usage) → IsGroupFault profile texts usage → (operand_group profile texts ≡ Err usage) ⊎ ReportsOperand texts usage
  group_fault texts (of_operand refused) fault = by_operand texts refused fault
  group_fault texts no_command fault = inl fault
  group_fault texts no_target fault = inl fault
  group_fault texts _ fault = absurd fault

  -- ---- lines

  both_in_front : (first more : Result (List Requested) Usage) (groups : List Requested) → in_front first more ≡ Ok groups
      → (a : List Requested) × (b : List Requested) × (first ≡ Ok a) × (more ≡ Ok b)
  both_in_front (Ok a) (Ok b) groups is = (a, b, refl, refl)
  both_in_front (Ok a) (Err usage) groups is = absurd (cc is)
  both_in_front (Err usage) more groups is = absurd (cc is)

  -- The line that is refused, after this many others.
  refused_group : (number : ℕ) (line : Bytes) (usage : Usage) → is_read line ≡ true → operand_group profile (operands_in line) ≡ Err usage
      → line_group profile number line ≡ Err (in_line number usage)
  refused_group number line usage read is =
      ap (λ (test : Bool). if test then group_in_line number (operand_group profile (operands_in line)) else Ok []) read ∙ ap (group_in_line number) is

  first_fault : (number : ℕ) (front rest : List Bytes) (line : Bytes) (usage : Usage) (groups : List Requested) → operand_groups profile number front ≡ Ok groups
      → is_read line ≡ true → operand_group profile (operands_in line) ≡ Err usage
      → operand_groups profile number (front ++ line ∷ rest) ≡ Err (in_line (number + length front) usage)
  first_fault number [] rest line usage groups before read is =
      let same : number ≡ number + 0 = omega arith in
      ap (λ (it : Result (List Requested) Usage). in_front it (operand_groups profile (number + 1) rest)) (refused_group number line usage read is)
      ∙ ap (λ (n : ℕ). Err (in_line n usage)) same
  first_fault number (first ∷ front) rest line usage groups before read is =
      let parts = both_in_front (line_group profile number first) (operand_groups profile (number + 1) front) groups before in
      let same : number + 1 + length front ≡ number + suc (length front) = omega arith in
      ap (λ (it : Result (List Requested) Usage). in_front it (operand_groups profile (number + 1) (front ++ line ∷ rest))) parts.2
      ∙ ap (λ (it : Result (List Requested) Usage). in_front (Ok parts.0) it) (first_fault (number + 1) front rest line usage parts.1 parts.3 read is)
      ∙ ap (λ (n : ℕ). Err (in_line n usage)) same

  -- a usage that reports a pattern of these lines
  abbrev pub ReportsLine : List Bytes → Usage → Type 0
  ReportsLine lines usage =
      (refused : Refused) × (line : ℕ) × (usage ≡ in_line line (of_operand refused)) × IsFirstFault profile lines usage × IsPatternFault profile refused.operand refused.fault

  by_line : (text : Bytes) (usage : Usage) → line_with_nul (script_lines text) ≡ None → IsFirstFault profile (script_lines text) usage
      → (script_of profile text ≡ Err usage) ⊎ ReportsLine (script_lines text) usage
  by_line text usage none first =
      let read = first.fault.0 in
      let why = first.fault.1 in
      let named = first.fault.3 in
      elim (group_fault (operands_in first.line) why first.fault.2) [
        | inl is ↦
            let same : 1 + length first.front ≡ length first.front + 1 = omega arith in
            inl (
            ap (λ (line : Option ℕ). without_nul profile line (script_lines text)) none
            ∙ ap (λ (lines : List Bytes). some_groups (operand_groups profile 1 lines)) first.split
            ∙ ap some_groups (first_fault 1 first.front first.rest first.line why first.groups first.before read is)
            ∙ ap (λ (n : ℕ). Err (in_line n why)) same
            ∙ ap Err (sym named)
            )
        | inr reports ↦ inr (reports.0, length first.front + 1, named ∙ ap (in_line (length first.front + 1)) reports.1, first, reports.3)
      ]

  pub script_fault : (text : Bytes) (usage : Usage) → IsScriptFault profile text usage → (script_of profile text ≡ Err usage) ⊎ ReportsLine (script_lines text) usage
  script_fault text usage (inl is) = inl is
  script_fault text usage (inr (none, first)) = by_line text usage none first

-- ---- what is left after whole steps, and the folder after the files that are written

module _ (words : List Bytes) where
  -- the same file is written in both
  same_written : (file : Option Writing) (before before' after after' : Folder) → SameBut (IsLeftOpen words) before before' → WritesFile file before after
      → WritesFile file before' after' → SameBut (IsLeftOpen words) after after'
  same_written None before before' after after' same still still' name left_open =
      ap (λ (f : Folder). get f name) still' ∙ same name left_open ∙ sym (ap (λ (f : Folder). get f name) still)
  same_written (Some file) before before' after after' same (held, done) (held', done') name left_open =
      done' name (λ is. left_open (inl (file.name, is)))
      ∙ get-insert nat_list_cmp_total before' file.name file.bytes name
      ∙ ap (cond (eq_by_cmp (slice_cmp nat_cmp) name file.name) (Some file.bytes)) (same name left_open)
      ∙ sym (get-insert nat_list_cmp_total before file.name file.bytes name)
      ∙ sym (done name (λ is. left_open (inl (file.name, is))))

  same_tried : (options : Options) (used : List Used) (before before' after after' : Folder) (lines lines' : List Bytes) → SameBut (IsLeftOpen words) before before'
      → TriesFiles c.Whole options used before lines after → TriesFiles c.Whole options used before' lines' after' → (lines ≡ lines') × SameBut (IsLeftOpen words) after after'
  same_tried options [] before before' after after' lines lines' same (whole, told, still) (whole', told', still') =
      (told ∙ sym told', same_written None before before' after after' same still still')
  same_tried options (used ∷ more) before before' after after' lines lines' same (one, later, first, rest, mid, tries, following, told, cut) (one', later', first', rest', mid', tries', following', told', cut') =
      let whole = both_whole one later c.Whole cut refl in
      let whole' = both_whole one' later' c.Whole cut' refl in
      let here = subst (λ (why : Cut). TriesFile why options used before first mid) whole.0 tries in
      let there = subst (λ (why : Cut). TriesFile why options used before' first' mid') whole'.0 tries' in
      let rests = same_tried options more mid mid' after after' rest rest'
      (same_written (if options.journal then None else writing_of options.to_stdout used) before before' mid mid' same here.1 there.1)
      (subst (λ (why : Cut). TriesFiles why options more mid rest after) whole.1 following)
      (subst (λ (why : Cut). TriesFiles why options more mid' rest' after') whole'.1 following') in
      (told ∙ ap (λ (ls : List Bytes). ls ++ rest) (here.0 ∙ sym there.0) ∙ ap (λ (ls : List Bytes). first' ++ ls) rests.0 ∙ sym told', rests.1)

-- ---- steps that don't read standard input

no_commands : (target : Target) (commands : List Request) → is_of_input target ≡ false → list_any reads_input (map (step_of target) commands) ≡ false
no_commands target [] is = refl
no_commands target (command ∷ commands) is =
    ap (λ (b : Bool). b || list_any reads_input (map (step_of target) commands)) is ∙ no_commands target commands is

no_part : {X Y : Type 0} (p : X → Bool) (q : Y → Bool) (parts : Y → List X) → ((y : Y) → q y ≡ false → list_any p (parts y) ≡ false) → (ys : List Y) → list_any q ys ≡ false
    → list_any p (flat_map parts ys) ≡ false
no_part p q parts each [] none = refl
no_part p q parts each (y ∷ ys) none =
    let both = or_parts (q y) (list_any q ys) none in
    list_any-append p (parts y) (flat_map parts ys) ∙ ap (λ (b : Bool). b || list_any p (flat_map parts ys)) (each y both.0) ∙ no_part p q parts each ys both.1

pub no_steps : (lines : List Requested) → names_input lines ≡ false → list_any reads_input (all_steps lines) ≡ false
no_steps = no_part reads_input (λ (line : Requested). list_any is_of_input line.targets) steps_requested
    (λ line. no_part reads_input is_of_input (λ target. map (step_of target) line.commands) (λ target. no_commands target line.commands) line.targets)

-- ---- what is left

-- where nothing is cut, no part is
record IsWhole (options : Options) (requested : List Requested) (world : World) (ended : Ended) : Type 0 where
  pub reported : List Bytes
  pub told : List Bytes
  pub folder : Folder
  pub state : Progress
  pub runs : RunsSteps c.Whole options.journal world options.keep_going (all_steps requested) nothing_done reported folder state
  pub output : ended.left.output ≡ state.printed ++ texts_out (shows_input (all_steps requested)) options.to_stdout state.used
  pub tries : TriesFiles c.Whole options state.used folder told ended.left.folder
  pub lines : ended.left.lines ≡ root_note (names_file requested) (root_above world.folder) ++ reported ++ told
  pub status : ended.left.status ≡ status_of c.Whole state

is_whole : (options : Options) (requested : List Requested) (world : World) (ended : Ended) → ended.cut ≡ c.Whole → Performs options requested world ended
    → IsWhole options requested world ended
is_whole options requested world ended whole performs =
    let front = root_note (names_file requested) (root_above world.folder) ++ performs.reported in
    let parts = both_whole performs.stopped (first_cut performs.written ended.printed) ended.cut performs.cut whole in
    let more = both_whole performs.written ended.printed c.Whole (sym parts.1) refl in record {
      reported = performs.reported;
      told = performs.told;
      folder = performs.folder;
      state = performs.state;
      runs = subst (λ (why : Cut). RunsSteps why options.journal world options.keep_going (all_steps requested) nothing_done performs.reported performs.folder performs.state) parts.0 performs.runs;
      output = performs.output;
      tries = subst (λ (why : Cut). TriesFiles why options performs.state.used performs.folder performs.told ended.left.folder) more.0 performs.tries;
      lines = performs.lines ∙ ap (λ (why : Cut). front ++ output_lines why ++ performs.told) more.1
          ∙ ap (λ (ls : List Bytes). ls ++ performs.told) (append-nil front);
      status = performs.status ∙ ap (λ (why : Cut). status_of why performs.state) whole;
    }

module _ (one : OneReading) (words : List Bytes) (bytes : Bytes) (options : Options) (requested : List Requested) (world : World) (known : world.known ≡ Some bytes) where
  start : (journals : Bool) → Stays journals world.folder [] world.folder
  start true = (tt, (λ name unlike aside. refl), λ place file at. absurd (let e = at in cc))
  start false = refl

  pub same_performed : (read read' : Option Bytes) (left other : Ended) → AreSeen world (all_steps requested) read
      → AreSeen world (all_steps requested) read'
      → (options.journal ≡ true → (file : Bytes) → IsLeftOpen words (journal_name file)) → left.cut ≡ c.Whole → other.cut ≡ c.Whole
      → Performs options requested (record world { known = read }) left → Performs options requested (record world { known = read' }) other
      → SameLeft words world left.left other.left
  same_performed read read' left other seen seen' opens whole whole' performs performs' =
      let here = record world { known = read } in
      let there = record world { known = read' } in
      let steps = all_steps requested in
      let note = root_note (names_file requested) (root_above world.folder) in
      let w = is_whole options requested here left whole performs in
      let w' = is_whole options requested there other whole' performs' in
      let begun = start options.journal in
      let same = same_run one words world bytes known options.journal options.keep_going steps here there w.folder w'.folder nothing_done w.reported w'.reported w.state w'.state
      seen seen' begun begun w.runs w'.runs in
      let stays = stays_run options.journal world.folder options.keep_going steps here w.folder nothing_done w.state w.reported w.runs begun in
      let stays' = subst (λ (s : Progress). Stays options.journal world.folder s.used w'.folder) (sym same.1)
      (stays_run options.journal world.folder options.keep_going steps there w'.folder nothing_done w'.state w'.reported w'.runs begun) in
      let tried = same_tried words options w.state.used w.folder w'.folder left.left.folder other.left.folder w.told w'.told
      (λ name left_open. same_folder options.journal world.folder w.state.used w.folder w'.folder stays stays' name (λ aside. left_open (inl aside))
      (λ kept file is. left_open (subst (IsLeftOpen words) (sym is) (opens kept file))))
      w.tries (subst (λ (s : Progress). TriesFiles c.Whole options s.used w'.folder w'.told other.left.folder) (sym same.1) w'.tries) in
      record {
        output = w.output ∙ ap (λ (s : Progress). s.printed ++ texts_out (shows_input steps) options.to_stdout s.used) same.1 ∙ sym w'.output;
        status = w.status ∙ ap (status_of c.Whole) same.1 ∙ sym w'.status;
        lines = same_parts words world left.left.lines other.left.lines (note ++ w.reported) (note ++ w'.reported) w.told w'.told w.lines w'.lines
            (same_append words world note note w.reported w'.reported (same_lines words world note note refl) same.0) (same_lines words world w.told w'.told tried.0);
        folder = tried.1;
      }

-- ---- texts

one_valid : (text : Bytes) (n m : ℕ) → IsValidUpTo text n → IsValidUpTo text m → n ≡ m
one_valid text n m a b = elim (cases_lt n m) [
  | inl below ↦ absurd (a.longest m below b.front)
  | inr le ↦ elim (cases_lt m n) [
    | inl below ↦ absurd (b.longest n below a.front)
    | inr ge ↦ omega arith
  ]
]

one_fault : (text : Bytes) (fault other : ReadFault) → IsTextFault text fault → IsTextFault text other → fault ≡ other
one_fault text fault other (inl (long, is)) (inl (long', is')) = is ∙ sym is'
one_fault text fault other (inl (long, is)) (inr (short, valid)) = absurd (omega arith)
one_fault text fault other (inr (short, valid)) (inl (long, is)) = absurd (omega arith)
one_fault text fault other (inr (short, (at, valid, is))) (inr (short', (at', valid', is'))) =
    is ∙ ap (λ (n : ℕ). NotUtf8 n) (one_valid text at at' valid valid') ∙ sym is'

no_fault : (text : Bytes) (fault : ReadFault) → IsText text → IsTextFault text fault → ⊥
no_fault text fault (fits, whole) (inl (long, is)) = omega arith
no_fault text fault (fits, whole) (inr (short, (at, valid, is))) = valid.longest (length text) valid.short (subst IsUtf8 (sym (take-length text)) whole)

one_script : (world : World) (bytes name : Bytes) (text text' : Option Bytes) → world.known ≡ Some bytes → IsScript world name text → IsScript world name text'
    → text ≡ text'
one_script world bytes name text text' known (inl (is, (read, input, here))) (inl (is', (read', input', here'))) =
    here ∙ ap (λ (it : Bytes). Some it) (one_input world.known bytes read read' known input input') ∙ sym here'
one_script world bytes name text text' known (inl (is, input)) (inr (other, here)) = absurd (other is)
one_script world bytes name text text' known (inr (other, here)) (inl (is, input)) = absurd (other is)
one_script world bytes name text text' known (inr (other, here)) (inr (other', here')) = here ∙ sym here'

-- ---- what is left

module _ (words : List Bytes) (world : World) where
  same_ended : (ended other : Ended) → ended ≡ other → SameLeft words world ended.left other.left
  same_ended ended other is = record {
    output = ap (λ (e : Ended). e.left.output) is;
    status = ap (λ (e : Ended). e.left.status) is;
    lines = same_lines words world ended.left.lines other.left.lines (ap (λ (e : Ended). e.left.lines) is);
    folder = λ name left_open. ap (λ (e : Ended). get e.left.folder name) (sym is);
  }

  -- Two whole ways of this are one.
  abbrev IsOne : (Ended → Type 0) → Type 0
  IsOne Is = (ended other : Ended) → ended.cut ≡ c.Whole → other.cut ≡ c.Whole → Is ended → Is other → SameLeft words world ended.left other.left

  -- A usage is reported, or what is requested is done.
  abbrev Decided : {A : Type 0} → Bytes → (A → Ended → Type 0) → Result A Usage → Ended → Type 0
  Decided file Done (Ok requested) ended = Done requested ended
  Decided file Done (Err usage) ended = ended ≡ unused world.folder (usage_line file usage)

  same_decided : {A : Type 0} (file : Bytes) (Done : A → Ended → Type 0) (result : Result A Usage) → ((requested : A) → IsOne (Done requested)) → IsOne (Decided file Done result)
  same_decided file Done (Ok requested) one ended other whole whole' is is' = one requested ended other whole whole' is is'
  same_decided file Done (Err usage) one ended other whole whole' is is' = same_ended ended other (is ∙ sym is')

  -- What clap prints is its own, and what is below it is the same.
  same_usage : (usage : LineUsage) → command_line_of words ≡ Err usage → IsOne (LineOutcome words (Err usage) world)
  same_usage of_clap claps ended other whole whole' (line, told, is) (line', told', is') =
      subst (λ (e : Ended). SameLeft words world e.left other.left) (sym is) (subst (λ (e : Ended). SameLeft words world (unused world.folder line).left e.left) (sym is')
      (record { output = refl; status = refl; lines = (inr (inr claps), tt); folder = λ name left_open. refl }))
  same_usage (no_profile name) claps ended other whole whole' (line, told, is) (line', told', is') =
      same_ended ended other (is ∙ ap (unused world.folder) (told ∙ sym told') ∙ sym is')
  same_usage beside_script claps ended other whole whole' (line, told, is) (line', told', is') =
      same_ended ended other (is ∙ ap (unused world.folder) (told ∙ sym told') ∙ sym is')
  same_usage beside_stdout claps ended other whole whole' (line, told, is) (line', told', is') =
      same_ended ended other (is ∙ ap (unused world.folder) (told ∙ sym told') ∙ sym is')

  -- Two whole ways are one, unless one of them reports a pattern.
  by_pattern : (Reports Is : Ended → Type 0) (ended other : Ended) → IsOne Is → ended.cut ≡ c.Whole → other.cut ≡ c.Whole → Reports ended ⊎ Is ended → Reports other ⊎ Is other
      → Reports ended ⊎ Reports other ⊎ SameLeft words world ended.left other.left
  by_pattern Reports Is ended other one whole whole' (inl reports) outcome = inl reports
  by_pattern Reports Is ended other one whole whole' (inr is) (inl reports) = inr (inl reports)
  by_pattern Reports Is ended other one whole whole' (inr is) (inr is') = inr (inr (one ended other whole whole' is is'))

-- ---- what is requested

module _ (one : OneReading) (words : List Bytes) (bytes : Bytes) (options : Options) (world : World) (known : world.known ≡ Some bytes)
    (opens : options.journal ≡ true → (file : Bytes) → IsLeftOpen words (journal_name file)) where
  -- what lines request is done, over what is left of standard input where a step reads it
  abbrev EndsSeen : List Requested → Ended → Type 0
  EndsSeen lines ended = (read : Option Bytes) × AreSeen world (all_steps lines) read × LinesEnd options lines (record world { known = read }) ended

  same_ends : (lines : List Requested) → IsOne words world (EndsSeen lines)
  same_ends lines ended other whole whole' (read, seen, inl (named, is)) (read', seen', inl (named', is')) = same_ended words world ended other (is ∙ sym is')
  same_ends lines ended other whole whole' (read, seen, inl (named, is)) (read', seen', inr (none, performs)) = absurd (true≢false (sym named ∙ none))
  same_ends lines ended other whole whole' (read, seen, inr (none, performs)) (read', seen', inl (named, is)) = absurd (true≢false (sym named ∙ none))
  same_ends lines ended other whole whole' (read, seen, inr (none, performs)) (read', seen', inr (none', performs')) =
      same_performed one words bytes options lines world known read read' ended other seen seen' opens whole whole' performs performs'

  seen_by : (of_input : Bool) (lines : List Requested) (read : Option Bytes) → of_input && names_input lines ≡ false → (of_input ≡ false → read ≡ world.known)
      → AreSeen world (all_steps lines) read
  seen_by true lines read none same = inr (no_steps lines none)
  seen_by false lines read none same = inl (same refl)

  same_lines_done : (of_input : Bool) (lines : List Requested) → IsOne words world (LinesOutcome options of_input lines world)
  same_lines_done of_input lines ended other whole whole' (inl (named, is)) (inl (named', is')) = same_ended words world ended other (is ∙ sym is')
  same_lines_done of_input lines ended other whole whole' (inl (named, is)) (inr (none, done)) = absurd (true≢false (sym named ∙ none))
  same_lines_done of_input lines ended other whole whole' (inr (none, done)) (inl (named, is)) = absurd (true≢false (sym named ∙ none))
  same_lines_done of_input lines ended other whole whole' (inr (none, (read, same, done))) (inr (none', (read', same', done'))) =
      same_ends lines ended other whole whole' (read, seen_by of_input lines read none same, done) (read', seen_by of_input lines read' none' same', done')

  -- ---- operands

  abbrev OperandsExact : List Bytes → Ended → Type 0
  OperandsExact texts ended = Decided words world [] (λ (requested : Requested). LinesEnd options (requested ∷ []) world) (operand_group options.profile texts) ended

  operands_exact : (texts : List Bytes) (ended : Ended) → OperandsOutcome options texts world ended
      → GivenReportsPattern options.profile (operands texts) world ended ⊎ OperandsExact texts ended
  operands_exact texts ended (inl (usage, fault, none)) = elim (group_fault options.profile texts usage fault) [
    | inl is ↦ inr (subst (λ (it : Result Requested Usage). Decided words world [] (λ (requested : Requested). LinesEnd options (requested ∷ []) world) it ended) (sym is) none)
    | inr reports ↦ inl (reports.0, reports.2, (reports.3, none ∙ ap (λ (it : Usage). unused world.folder (usage_line [] it)) reports.1))
  ]
  operands_exact texts ended (inr (requested, is, done)) =
      inr (subst (λ (it : Result Requested Usage). Decided words world [] (λ (requested : Requested). LinesEnd options (requested ∷ []) world) it ended) (sym is) done)

  -- ---- lines

  module _ (name : Bytes) where
    abbrev TextDecided : Result (List Requested) Usage → Ended → Type 0
    TextDecided result ended = Decided words world (reported_name name) (λ (lines : List Requested). LinesOutcome options (bytes_eq name input_package) lines world) result ended

    abbrev TextExact : Bytes → Ended → Type 0
    TextExact text ended =
        ((fault : ReadFault) × IsTextFault text fault × (ended ≡ unused world.folder (fault_line (reported_name name) fault))) ⊎ (IsText text × TextDecided (script_of options.profile text) ended)

    abbrev ScriptExact : Ended → Type 0
    ScriptExact ended =
        ((text : Bytes) × IsScript world name (Some text) × TextExact text ended) ⊎ (IsScript world name None × (ended ≡ unread c.Whole name world.folder))

    text_exact : (text : Bytes) (ended : Ended) → IsScript world name (Some text) → TextOutcome options name text world ended
        → GivenReportsPattern options.profile (script name) world ended ⊎ ScriptExact ended
    text_exact text ended there (inl invalid) = inr (inl (text, there, inl invalid))
    text_exact text ended there (inr (inl (whole, (usage, fault, none)))) = elim (script_fault options.profile text usage fault) [
      | inl is ↦ inr (inl (text, there, inr (whole, subst (λ (it : Result (List Requested) Usage). TextDecided it ended) (sym is) none)))
      | inr reports ↦ inl (
        text,
        there,
        reports.0,
        reports.1,
        subst (IsFirstFault options.profile (script_lines text)) reports.2 reports.3,
        (reports.4, none ∙ ap (λ (it : Usage). unused world.folder (usage_line (reported_name name) it)) reports.2),
      )
    ]
    text_exact text ended there (inr (inr (whole, (lines, is, done)))) =
        inr (inl (text, there, inr (whole, subst (λ (it : Result (List Requested) Usage). TextDecided it ended) (sym is) done)))

    script_exact : (ended : Ended) → ended.cut ≡ c.Whole → ScriptOutcome options name world ended → GivenReportsPattern options.profile (script name) world ended ⊎ ScriptExact ended
    script_exact ended whole (inl (text, there, outcome)) = text_exact text ended there outcome
    script_exact ended whole (inr (is, write, absent)) = inr (inr (absent whole, is ∙ ap (λ why. unread why name world.folder) whole))

    same_text : (text : Bytes) → IsOne words world (TextExact text)
    same_text text ended other whole whole' (inl (fault, invalid, is)) (inl (fault', invalid', is')) = same_ended words world ended other
        (is ∙ ap (λ (it : ReadFault). unused world.folder (fault_line (reported_name name) it)) (one_fault text fault fault' invalid invalid') ∙ sym is')
    same_text text ended other whole whole' (inl (fault, invalid, is)) (inr (fits, decided)) = absurd (no_fault text fault fits invalid)
    same_text text ended other whole whole' (inr (fits, decided)) (inl (fault, invalid, is)) = absurd (no_fault text fault fits invalid)
    same_text text ended other whole whole' (inr (fits, decided)) (inr (fits', decided')) =
        same_decided words world (reported_name name) (λ (lines : List Requested). LinesOutcome options (bytes_eq name input_package) lines world) (script_of options.profile text)
        (same_lines_done (bytes_eq name input_package)) ended other whole whole' decided decided'

    same_script : IsOne words world ScriptExact
    same_script ended other whole whole' (inl (text, there, exact)) (inl (text', there', exact')) =
        let same : ◌≡◌ {A = Option Bytes} (Some text) (Some text') = one_script world bytes name (Some text) (Some text') known there there' in
        let here : text' ≡ text = cc in
        same_text text ended other whole whole' exact (subst (λ (it : Bytes). TextExact it other) here exact')
    same_script ended other whole whole' (inl (text, there, exact)) (inr (absent, is)) =
        absurd (let e = one_script world bytes name (Some text) None known there absent in cc)
    same_script ended other whole whole' (inr (absent, is)) (inl (text, there, exact)) =
        absurd (let e = one_script world bytes name (Some text) None known there absent in cc)
    same_script ended other whole whole' (inr (absent, is)) (inr (absent', is')) = same_ended words world ended other (is ∙ sym is')

  -- ---- what is given

  exactly_given : (given : Given) (ended other : Ended) → ended.cut ≡ c.Whole → other.cut ≡ c.Whole → GivenOutcome options given world ended
      → GivenOutcome options given world other → GivenReportsPattern options.profile given world ended ⊎ GivenReportsPattern options.profile given world other ⊎ SameLeft words world ended.left other.left
  exactly_given (operands texts) ended other whole whole' outcome outcome' =
      by_pattern words world (GivenReportsPattern options.profile (operands texts) world) (OperandsExact texts) ended other
      (same_decided words world [] (λ (requested : Requested). LinesEnd options (requested ∷ []) world) (operand_group options.profile texts)
      (λ requested it that w w' done done'. same_ends (requested ∷ []) it that w w' (world.known, inl refl, done) (world.known, inl refl, done')))
      whole whole' (operands_exact texts ended outcome) (operands_exact texts other outcome')
  exactly_given (script name) ended other whole whole' outcome outcome' =
      by_pattern words world (GivenReportsPattern options.profile (script name) world) (ScriptExact name) ended other (same_script name) whole whole'
      (script_exact name ended whole outcome) (script_exact name other whole' outcome')

-- ---- whole lines

exactly_line : OneReading → (words : List Bytes) (bytes : Bytes) (line : Result CommandLine LineUsage) (world : World) (ended other : Ended) → command_line_of words ≡ line
    → world.known ≡ Some bytes → ended.cut ≡ c.Whole → other.cut ≡ c.Whole → LineOutcome words line world ended → LineOutcome words line world other
    → ReportsPattern words world ended ⊎ ReportsPattern words world other ⊎ SameLeft words world ended.left other.left
exactly_line one words bytes (Err usage) world ended other says known whole whole' outcome outcome' =
    inr (inr (same_usage words world usage says ended other whole whole' outcome outcome'))
exactly_line one words bytes (Ok line) world ended other says known whole whole' outcome outcome' =
    elim (exactly_given one words bytes line.options world known (λ kept file. inr ((line, says, kept), (file, refl))) line.given ended other whole whole' outcome outcome') [
      | inl reports ↦ inl (line, says, reports)
      | inr rest ↦ elim rest [
        | inl reports ↦ inr (inl (line, says, reports))
        | inr same ↦ inr (inr same)
      ]
    ]

-- a run that nothing cuts isn't refused memory
has_memory : (words : List Bytes) (world : World) (ended : Ended) → ended.cut ≢ c.Memory → WordsOutcome words world ended → LineOutcome words (command_line_of words) world ended
has_memory words world ended other (inl memory) = absurd (other (ap (λ (e : Ended). e.cut) memory))
has_memory words world ended other (inr outcome) = outcome

pub exact : OneReading → OutcomesAreExact
exact one words world bytes ended other known whole whole' outcome outcome' =
    exactly_line one words bytes (command_line_of words) world ended other refl known whole whole'
    (has_memory words world ended (λ is. absurd (let e = sym whole ∙ is in cc)) outcome) (has_memory words world other (λ is. absurd (let e = sym whole' ∙ is in cc)) outcome')
