-- How runs end, for the worked rows.
use Rattle.bz_buildozer.proofs.Words.{[], ◌&&◌, ◌++◌, ◌||◌, ◌∙◌, ◌∷◌, ◌≡◌, ◌≤◌, action_of, all_steps, Answer, Answers, AnswersIn, ap, append-nil, AreHints, as_package, BelowRoot, BesideNone, Bool, Bytes, Changed, changed, chars, codes, command_line_of, CommandLine, Cut, Cut as c, digits, Does, encode, Ended, ends_run, Err, false, file_at, Finds, fixed_lines, Folder, FolderAfter, found_in, found_of, get, gives, has_package, HasBuild, History, if◌then◌else◌, in_line, inl, inr, is_kept_name, is_some, is_utf8, IsGroupFault, IsText, IsUtf8-from_is_utf8, key_in, key_of, LeadsBy, leb, leb-true, length, limit, LineOutcome, LineUsage, List, map, may_be_file, Moved, names_file, no_acts, no_command, no_line, no_target, None, not, note_limit, nothing_done, nothing_requested, of_operand, Ok, Opened, opened, opened_fresh, opened_with, OpensAs, operand_group, operands, Operation as w, Option, option_map, Options, output_lines, OverBuild, OverInput, package_hint, package_number, Progress, refl, reported_of, Request, Requested, Result, root_above, root_note, RunsSteps, RunStep, script, ScriptOutcome, second_name, Settled, settled, settled_file, Settles, shows_input, Some, state_after, status_of, stdin, subst, sym, Target, text_made, text_read, texts_out, TooFar, TooLarge, TriesFile, TriesFiles, true, Undo, undone, unread, unused, Usage, usage_line, Used, UsesWhole, with_file, WordsOutcome, WorkedUsage, WorkedWholeRuns, World, ℕ}
use Rattle.clap.proofs.OnLiterals.{clap_on_literals}
use Rattle.bz_label.specs.declared.target.Which.TheVariants.{Name}
use Rattle.bz_command_syntax.specs.declared.profile.Profile.TheVariants.{Own}
use Rattle.bz_command_line.specs.declared.verb.OperandFault.{OperandFault}
use Rattle.bz_command_line.specs.declared.verb.OperandFault.TheVariants.{BadTarget, Command}
use Rattle.bz_command_line.specs.declared.verb.Verb.TheVariants.{Do, Undo, Redo}
use Rattle.bz_streams.specs.Options.{option_line}
use Rattle.bz_command_syntax.specs.declared.command.AttributeOperation.TheVariants as wa
use Rattle.bz_command_syntax.specs.declared.command.RuleOperation.TheVariants as wr
use Rattle.bz_command_syntax.specs.declared.fault.CommandFault.TheVariants.{Unknown, Arguments}
use Rattle.bz_buildozer.proofs.StandSteps.{found_by, key_known, key_unknown, not_input}
use Rattle.bz_buildozer.proofs.WorkedText.{accepted, is_made}

-- ---- the file of a package

pub found_first : (folder : Folder) → get folder (codes "a/BUILD.bazel") ≡ Some text_made → found_in folder (codes "a") ≡ Some (codes "a/BUILD.bazel", text_made)
found_first folder there = found_by folder (codes "a") (Some text_made) (get folder (second_name (codes "a"))) there refl

pub found_second : (folder : Folder) → get folder (codes "a/BUILD.bazel") ≡ None → get folder (codes "a/BUILD") ≡ Some text_read
    → found_in folder (codes "a") ≡ Some (codes "a/BUILD", text_read)
found_second folder = found_by folder (codes "a") None (Some text_read)

pub found_none : (folder : Folder) → get folder (codes "a/BUILD.bazel") ≡ None → get folder (codes "a/BUILD") ≡ None → found_in folder (codes "a") ≡ None
found_none folder = found_by folder (codes "a") None None

-- ---- what a path means

-- by what the folder has of that name, and below it
by_folder : (folder : Folder) (path : Bytes) (held : Option Bytes) (has : Bool) → get folder path ≡ held → has_package folder path ≡ has
    → settled folder path ≡ (if (may_be_file path && (is_kept_name path || is_some held)) && not has then settled_file folder path else as_package path)
by_folder folder path held has is of_package_is =
    ap (λ (it : Option Bytes). if (may_be_file path && (is_kept_name path || is_some it)) && not (has_package folder path) then settled_file folder path else as_package path) is
    ∙ ap (λ (it : Bool). if (may_be_file path && (is_kept_name path || is_some held)) && not it then settled_file folder path else as_package path) of_package_is

pub settles : Settles
settles = (
  refl,
  refl,
  (λ folder text is none. by_folder folder (codes "MODULE.bazel") (Some text) false is none),
  (λ folder text is none. by_folder folder (codes "app/BUILD") (Some text) false is none),
  (λ folder none. by_folder folder (codes "app/BUILD.journal") (get folder (codes "app/BUILD.journal")) false refl none),
  (λ folder text is none. by_folder folder (codes "a.bzl") (Some text) false is none),
  (λ folder is. by_folder folder (codes "app") None (has_package folder (codes "app")) is refl),
)

-- ---- usage faults

-- words without an option, and with these
abbrev options_of : Bool → Bool → Bool → Options
options_of keep_going to_stdout quiet = record { keep_going = keep_going; to_stdout = to_stdout; quiet = quiet; journal = false; profile = Own }

abbrev plain : Options
plain = options_of false false false

by_line : (words : List Bytes) (line : CommandLine) (world : World) (ended : Ended) → command_line_of words ≡ Ok line → LineOutcome words (Ok line) world ended
    → WordsOutcome words world ended
by_line words line world ended is outcome = inr (subst (λ (whole : Result CommandLine LineUsage). LineOutcome words whole world ended) (sym is) outcome)

usage_of : (words : List Bytes) (usage : Usage) (world : World) → command_line_of words ≡ Ok (record { options = plain; given = operands words })
    → IsGroupFault Own words usage → WordsOutcome words world (unused world.folder (usage_line [] usage))
usage_of words usage world is fault = by_line words (record { options = plain; given = operands words }) world (unused world.folder (usage_line [] usage)) is (inl (usage, fault, refl))

-- -f with a name
by_script : (name : Bytes) (world : World) (ended : Ended) → command_line_of (codes "-f" ∷ name ∷ []) ≡ Ok (record { options = plain; given = script name })
    → ScriptOutcome plain name world ended → WordsOutcome (codes "-f" ∷ name ∷ []) world ended
by_script name world ended is outcome = by_line (codes "-f" ∷ name ∷ []) (record { options = plain; given = script name }) world ended is outcome

abbrev refused : Bytes → OperandFault → Usage
refused operand fault = of_operand (record { profile = Own; operand = operand; fault = fault; pattern = None })

abbrev rule_x : Bytes → Target
rule_x current = record { «package» = current; which = Name (codes "x") }

abbrev undo : ℕ → Bytes → Request
undo count text = record { verb = Undo count; text = text }

abbrev undo_input : Requested
undo_input = record { commands = undo 1 (codes "undo") ∷ []; targets = rule_x (codes "-") ∷ [] }

abbrev only_delete : Requested
only_delete = record { commands = record { verb = Do (w.Rule wr.Delete); text = codes "delete" } ∷ []; targets = [] }

comment_is_text : is_utf8 (codes "# none\n\n") ≡ true
unfolding is_utf8 chars encode
comment_is_text = refl

delete_is_text : is_utf8 (codes "# none\ndelete\n") ≡ true
unfolding is_utf8 chars encode
delete_is_text = refl

undo_is_text : is_utf8 (codes "undo|-:x\n") ≡ true
unfolding is_utf8 chars encode
undo_is_text = refl

read_text : (text : Bytes) → leb (length text) limit ≡ true → is_utf8 text ≡ true → IsText text
read_text text short utf8 = (leb-true (length text) limit short, IsUtf8-from_is_utf8 text utf8)

pub usage : WorkedUsage
unfolding clap_on_literals digits
usage =
    let lines : Bytes = codes "lines" in (
      (λ world. usage_of (codes "delete" ∷ []) no_target world refl refl),
      (λ world. usage_of (codes "//:x" ∷ []) no_command world refl refl),
      (λ world. usage_of [] no_command world refl refl),
      (λ world. usage_of (codes "add deps" ∷ codes "grow" ∷ codes "//:x" ∷ []) (refused (codes "add deps") (Command Arguments)) world refl
          (record { front = []; rest = codes "grow" ∷ codes "//:x" ∷ []; requested = nothing_requested; split = refl; before = refl; fault = inl refl })),
      (λ world. usage_of (codes "delete" ∷ codes "//a/:x" ∷ []) (refused (codes "//a/:x") BadTarget) world refl
          (record { front = codes "delete" ∷ []; rest = []; requested = only_delete; split = refl; before = refl; fault = inl refl })),
      (λ world. usage_of (codes "help" ∷ codes "//:x" ∷ []) (refused (codes "help") (Command Unknown)) world refl
          (record { front = []; rest = codes "//:x" ∷ []; requested = nothing_requested; split = refl; before = refl; fault = inl refl })),
      (λ world. inr (codes "buildozer: operands beside -f\n", refl, refl)),
      (λ world. inr (codes "buildozer: --stdout beside --journal\n", refl, refl)),
      (λ line world. inr (line, (line, sym (append-nil line)), refl)),
      (λ text world. inr (text ++ option_line (codes "buildozer") (codes "-r") None, (text, refl), refl)),
      (λ world gone. by_script lines world (unused world.folder (codes "lines: cannot open\n")) refl
          (inr (refl, (λ is. absurd (cc is)), λ is. inr (not_input lines refl, sym gone)))),
      (λ world. by_script lines world (unread c.Files lines world.folder) refl (inr (refl, (λ is. absurd (cc is)), λ is. absurd (cc is)))),
      (λ world there. by_script lines world (unused world.folder (codes "lines: no operands\n")) refl
          (inl (codes "# none\n\n", inr (not_input lines refl, sym there), inr (inl (read_text (codes "# none\n\n") refl comment_is_text, (no_line, inl refl, refl)))))),
      (λ world there. by_script lines world (unused world.folder (codes "buildozer: no target\nlines:2: refused\n")) refl
          (inl (
            codes "# none\ndelete\n",
            inr (not_input lines refl, sym there),
            inr (inl (read_text (codes "# none\ndelete\n") refl delete_is_text, (in_line 2 no_target, inl refl, refl))),
          ))),
      (λ world text there long. by_script lines world (unused world.folder (codes "lines: TooLarge\n    a text that is read has at most 67,108,864 bytes\n")) refl
          (inl (text, inr (not_input lines refl, sym there), inl (TooLarge, inl (long, refl), refl)))),
      (λ folder text long. by_script (codes "-") (record { folder = folder; known = Some text; acts = no_acts }) (unused folder (codes "<stdin>: TooLarge\n    a text that is read has at most 67,108,864 bytes\n")) refl
          (inl (text, inl (refl, (text, refl, refl)), inl (TooLarge, inl (long, refl), refl)))),
      (λ folder. by_script (codes "-") (record { folder = folder; known = Some (codes "undo|-:x\n"); acts = no_acts })
          (unused folder (codes "buildozer: package - cannot be edited beside -f -\n")) refl
          (inl (
            codes "undo|-:x\n",
            inl (refl, (codes "undo|-:x\n", refl, refl)),
            inr (inr (read_text (codes "undo|-:x\n") refl undo_is_text, (undo_input ∷ [], refl, inl (refl, refl)))),
          ))),
      (λ world. inr (inr (undo_input, refl, inl (refl, refl)))),
    )

-- ---- steps

abbrev set_text : Bytes
set_text = codes "set size small"

abbrev set_size : Request
set_size = record { verb = Do (w.Attribute (wa.Set (codes "size") (codes "small" ∷ []))); text = set_text }

abbrev undo_text : Bytes
undo_text = codes "undo"

abbrev undo_one : Request
undo_one = undo 1 undo_text

short_undo : length undo_text ≤ note_limit
short_undo = leb-true (length undo_text) note_limit refl

abbrev redo : Request
redo = record { verb = Redo 1; text = codes "redo" }

abbrev step_at : Bytes → Request → RunStep
step_at current request = record { target = rule_x current; request = request }

abbrev file_with : Bytes → Bytes → History → Used
file_with current name history = record { «package» = current; file = Some (opened_with name text_read history) }

abbrev state_of : List Used → Bool → Progress
state_of used failed = record { used = used; printed = []; failed = failed }

abbrev DoesHere : World → RunStep → Progress → List Bytes → Progress → Type 0
DoesHere world step before lines after = Does c.Whole false world step before lines world.folder after

abbrev RunsHere : World → Bool → List RunStep → Progress → List Bytes → Progress → Type 0
RunsHere world keep_going steps before lines after = RunsSteps c.Whole false world keep_going steps before lines world.folder after

module _ (world : World) where
  answers_in : (step : RunStep) (place : ℕ) (found : Option Opened) (state : Progress) (lines : List Bytes) (after : Progress) → file_at place state.used ≡ found
      → AnswersIn false step place found world.folder state lines world.folder after
      → Answers c.Whole false step (option_map (λ (_ : Opened). place) found) world.folder state lines world.folder after
  answers_in step place None state lines after at answers = answers
  answers_in step place (Some file) state lines after at answers =
      subst (λ (found : Option Opened). AnswersIn false step place found world.folder state lines world.folder after) (sym at) answers

  does : (step : RunStep) (before after : Progress) (place : ℕ) (used : List Used) (found : Option Opened) (opening answer : List Bytes)
      → UsesWhole false world step.target.«package» before.used place opening used → file_at place used ≡ found
      → AnswersIn false step place found world.folder (record before { used = used }) answer world.folder after → DoesHere world step before (opening ++ answer) after
  does step before after place used found opening answer uses at answers = record {
    opened = c.Whole;
    acted = c.Whole;
    number = option_map (λ (_ : Opened). place) found;
    used = used;
    opening = opening;
    answer = answer;
    uses = (place, uses, ap (option_map (λ (_ : Opened). place)) (sym at));
    answers = answers_in step place found (record before { used = used }) answer after at answers;
    reported = refl;
    cut = refl;
  }

  one_step : (keep_going : Bool) (step : RunStep) (steps : List RunStep) (before mid after : Progress) (first rest : List Bytes) → ends_run keep_going before ≡ false
      → DoesHere world step before first mid → RunsHere world keep_going steps mid rest after → RunsHere world keep_going (step ∷ steps) before (first ++ rest) after
  one_step keep_going step steps before mid after first rest going done more =
      inr (going, (c.Whole, c.Whole, world.folder, mid, first, rest, done, more, refl, refl))

  -- A package is used for the first time, and its file is opened.
  opens : (current name : Bytes) (used : List Used) → package_number current used ≡ None → settled world.folder current ≡ as_package current
      → Finds false world current (Some (name, text_read)) → UsesWhole false world current used (length used) [] (used ++ file_with current name (opened current text_read) ∷ [])
  opens current name used new meant finds =
      let key : key_in used world.folder current ≡ current = key_unknown used world.folder current new ∙ ap (key_of current) meant in
      let file : Opened = opened_fresh current name text_read in
      inr (
        ap (λ (k : Bytes). package_number k used) key ∙ new,
        refl,
        (
          Some (name, text_read),
          Some file,
          finds,
          subst (λ (s : Settled). OpensAs false world.folder current s (Some (name, text_read)) (Some file) []) (sym meant) (inl (accepted, refl, refl)),
          ap (λ (k : Bytes). used ++ record { «package» = k; file = Some file } ∷ []) (sym key),
        ),
      )

  again : (current : Bytes) (used : List Used) (place : ℕ) → package_number current used ≡ Some place → UsesWhole false world current used place [] used
  again current used place there = inl (ap (λ (k : Bytes). package_number k used) (key_known used world.folder current place there) ∙ there, refl, refl)

  no_hints : (count : ℕ) (name : Bytes) (h : History) (answer : Answer) → AreHints answer (Some (Undo count)) name h []
  no_hints count name h (Ok reply) = refl
  no_hints count name h (Err refusal) = refl

  plain_after : (answer : Answer) (file : Opened) (history : History) → FolderAfter false answer file history world.folder world.folder
  plain_after (Ok reply) file history = refl
  plain_after (Err refusal) file history = refl

  -- a command in an open file
  acts : (current name : Bytes) (request : Request) (h history : History) (answer : Answer) (before : Progress) (place : ℕ) (used : List Used)
      → AreHints answer (action_of (rule_x current) request.verb) name history []
      → UsesWhole false world current before.used place [] used → file_at place used ≡ Some (opened_with name text_read h)
      → LeadsBy (action_of (rule_x current) request.verb) request.text h answer history
      → DoesHere world (step_at current request) before (reported_of false name request.text answer [])
      (state_after false place (opened_with name text_read h) answer history (record before { used = used }))
  acts current name request h history answer before place used hints uses at leads =
      let file : Opened = opened_with name text_read h in
      does (step_at current request) before (state_after false place file answer history (record before { used = used })) place used (Some file) []
      (reported_of false name request.text answer []) uses at (answer, history, leads, plain_after answer file history, ([], hints, refl), refl)

-- ---- `set size small`, and `undo` after it or alone, in a file that is found

abbrev set_history : Bytes → History
set_history current = changed set_text (opened current text_read) text_made

abbrev back_history : Bytes → History
back_history current = (undone 1 (set_history current)).1

sets : (current : Bytes) → LeadsBy (action_of (rule_x current) set_size.verb) set_text (opened current text_read) (Ok Changed) (set_history current)
sets current = inr (leb-true (length set_text) note_limit refl, (gives text_made None, is_made current, refl))

abbrev after_set : Bytes → Bytes → Progress
after_set current name = state_of (file_with current name (set_history current) ∷ []) false

abbrev after_back : Bytes → Bytes → Progress
after_back current name = state_of (file_with current name (back_history current) ∷ []) false

abbrev steps_on : Bytes → List Request → List RunStep
steps_on current requests = map (step_at current) requests

module _ (world : World) (current name : Bytes) (meant : settled world.folder current ≡ as_package current) (finds : Finds false world current (Some (name, text_read))) where
  set_first : DoesHere world (step_at current set_size) nothing_done [] (after_set current name)
  set_first = acts world current name set_size (opened current text_read) (set_history current) (Ok Changed) nothing_done 0
      (file_with current name (opened current text_read) ∷ []) refl (opens world current name [] refl meant finds) refl (sets current)

  run_set : (keep_going : Bool) → RunsHere world keep_going (steps_on current (set_size ∷ [])) nothing_done [] (after_set current name)
  run_set keep_going = one_step world keep_going (step_at current set_size) [] nothing_done (after_set current name) (after_set current name) [] [] refl set_first
      (refl, refl, refl, refl)

  -- What it made is taken back by this many steps, or that is refused.
  run_back : (count : ℕ) (text : Bytes) (answer : Answer) (history : History) → package_number current (after_set current name).used ≡ Some 0
      → length text ≤ note_limit → (answer, history) ≡ undone count (set_history current)
      → RunsHere world false (steps_on current (set_size ∷ undo count text ∷ [])) nothing_done ([] ++ (reported_of false name text answer [] ++ []))
      (state_after false 0 (opened_with name text_read (set_history current)) answer history (after_set current name))
  run_back count text answer history there short is =
      let after = state_after false 0 (opened_with name text_read (set_history current)) answer history (after_set current name) in
      one_step world false (step_at current set_size) (steps_on current (undo count text ∷ [])) nothing_done (after_set current name) after [] (reported_of false name text answer [] ++ []) refl
      set_first (one_step world false (step_at current (undo count text)) [] (after_set current name) after after (reported_of false name text answer []) [] refl
      (acts world current name (undo count text) (set_history current) history answer (after_set current name) 0 (after_set current name).used (no_hints world count name history answer) (again world current (after_set current name).used 0 there) refl
      (inr (short, is))) (refl, refl, refl, refl))

-- ---- whole runs

abbrev requested_of : List Request → List Target → Requested
requested_of commands targets = record { commands = commands; targets = targets }

-- what is left after steps, by the files that are tried, where standard output isn't given all for this cut
abbrev left_after : Bool → Requested → List Bytes → Cut → List Bytes → Progress → List Bytes → Folder → Ended
left_after to_stdout requested note printed lines state told folder = record {
  left = record {
    output = state.printed ++ texts_out (shows_input (all_steps (requested ∷ []))) to_stdout state.used;
    lines = note ++ lines ++ output_lines printed ++ told;
    status = status_of printed state;
    folder = folder;
  };
  cut = printed;
  printed = printed;
}

run_of : (words texts : List Bytes) (keep_going to_stdout quiet : Bool) (requested : Requested) (world : World) (note : List Bytes) (printed : Cut) (lines told : List Bytes) (state : Progress) (folder : Folder)
    → command_line_of words ≡ Ok (record { options = options_of keep_going to_stdout quiet; given = operands texts }) → operand_group Own texts ≡ Ok requested
    → root_note (names_file (requested ∷ [])) (root_above world.folder) ≡ note
    → RunsHere world keep_going (all_steps (requested ∷ [])) nothing_done lines state
    → TriesFiles c.Whole (options_of keep_going to_stdout quiet) state.used world.folder told folder
    → WordsOutcome words world (left_after to_stdout requested note printed lines state told folder)
run_of words texts keep_going to_stdout quiet requested world note printed lines told state folder is group noted runs tries =
    let options : Options = options_of keep_going to_stdout quiet in
    by_line words (record { options = options; given = operands texts }) world (left_after to_stdout requested note printed lines state told folder) is
    (inr (
      requested,
      group,
      inr (
        refl,
        record {
          stopped = c.Whole;
          written = c.Whole;
          reported = lines;
          told = told;
          folder = world.folder;
          state = state;
          runs = runs;
          output = refl;
          tries = tries;
          lines = ap (λ (front : List Bytes). front ++ lines ++ output_lines printed ++ told) (sym noted);
          cut = refl;
          status = refl;
        },
      ),
    ))

tries_one : (keep_going to_stdout quiet : Bool) (used : Used) (before : Folder) (lines : List Bytes) (after : Folder)
    → TriesFile c.Whole (options_of keep_going to_stdout quiet) used before lines after → TriesFiles c.Whole (options_of keep_going to_stdout quiet) (used ∷ []) before (lines ++ []) after
tries_one keep_going to_stdout quiet used before lines after tries = (c.Whole, c.Whole, lines, [], after, tries, (refl, refl, refl), refl, refl)

-- ---- runs over BUILD

abbrev build : Bytes
build = codes "BUILD"

abbrev rule_word : Bytes
rule_word = codes "//:x"

abbrev made_lines : List Bytes
made_lines = codes "fixed BUILD\n" ∷ []

abbrev hint : Bytes
hint = codes "buildozer: to undo or redo what earlier runs did, give --journal, as in those runs\n"

module _ (world : World) (has : HasBuild world) where
  finds_build : Finds false world [] (Some (build, text_read))
  finds_build = inr (inr (not_input [] refl), sym (found_by world.folder [] None (Some text_read) has.0 has.1))

  -- BUILD is written, with this last package
  writes_build : (keep_going quiet : Bool) (lines : List Bytes) → lines ≡ fixed_lines quiet (Some build)
      → TriesFiles c.Whole (options_of keep_going false quiet) (file_with [] build (set_history []) ∷ []) world.folder (lines ++ []) (with_file world.folder build text_made)
  writes_build keep_going quiet lines is =
      tries_one keep_going false quiet (file_with [] build (set_history [])) world.folder lines (with_file world.folder build text_made) (is, (has.1, λ name other. refl))

  over_build : root_above world.folder ≡ None → OverBuild world
  unfolding clap_on_literals digits
  over_build above =
      let noted = ap (root_note true) above in
      let written : Folder = with_file world.folder build text_made in
      let set : Requested = requested_of (set_size ∷ []) (rule_x [] ∷ []) in
      let words : List Bytes = set_text ∷ rule_word ∷ [] in
      let two : Bytes = codes "undo 2" in (
        run_of words words false false false set world [] c.Whole [] made_lines (after_set [] build) written refl refl noted (run_set world [] build refl finds_build false)
            (writes_build false false made_lines refl),
        run_of (codes "--quiet" ∷ words) words false false true set world [] c.Whole [] [] (after_set [] build) written refl refl noted (run_set world [] build refl finds_build false)
            (writes_build false true [] refl),
        run_of (codes "--stdout" ∷ words) words false true false set world [] c.Whole [] [] (after_set [] build) world.folder refl refl noted (run_set world [] build refl finds_build false)
            (tries_one false true false (file_with [] build (set_history [])) world.folder [] world.folder (refl, refl)),
        run_of (codes "--stdout" ∷ words) words false true false set world [] c.Write [] [] (after_set [] build) world.folder refl refl noted (run_set world [] build refl finds_build false)
            (tries_one false true false (file_with [] build (set_history [])) world.folder [] world.folder (refl, refl)),
        run_of (set_text ∷ undo_text ∷ rule_word ∷ []) (set_text ∷ undo_text ∷ rule_word ∷ []) false false false (requested_of (set_size ∷ undo_one ∷ []) (rule_x [] ∷ [])) world []
            c.Whole [] [] (after_back [] build) world.folder refl refl noted (run_back world [] build refl finds_build 1 undo_text (Ok Moved) (back_history []) refl short_undo refl)
            (tries_one false false false (file_with [] build (back_history [])) world.folder [] world.folder (refl, refl)),
        run_of (set_text ∷ two ∷ rule_word ∷ []) (set_text ∷ two ∷ rule_word ∷ []) false false false (requested_of (set_size ∷ undo 2 two ∷ []) (rule_x [] ∷ [])) world []
            c.Whole ((codes "buildozer: BUILD: undo 2: TooFar (61)\n" ++ hint) ∷ []) made_lines (state_of (file_with [] build (set_history []) ∷ []) true) written refl refl noted
            (run_back world [] build refl finds_build 2 two (Err TooFar) (set_history []) refl (leb-true (length two) note_limit refl) refl) (writes_build false false made_lines refl),
        run_of (undo_text ∷ rule_word ∷ []) (undo_text ∷ rule_word ∷ []) false false false (requested_of (undo_one ∷ []) (rule_x [] ∷ [])) world [] c.Whole
            ((codes "buildozer: BUILD: undo: TooFar (61)\n" ++ hint) ∷ []) [] (state_of (file_with [] build (opened [] text_read) ∷ []) true) world.folder refl refl noted
            (one_step world false (step_at [] undo_one) [] nothing_done (state_of (file_with [] build (opened [] text_read) ∷ []) true) (state_of (file_with [] build (opened [] text_read) ∷ []) true)
            ((codes "buildozer: BUILD: undo: TooFar (61)\n" ++ hint) ∷ []) [] refl
            (acts world [] build undo_one (opened [] text_read) (opened [] text_read) (Err TooFar) nothing_done 0 (file_with [] build (opened [] text_read) ∷ []) refl
            (opens world [] build [] refl refl finds_build) refl (inr (short_undo, refl))) (refl, refl, refl, refl))
            (tries_one false false false (file_with [] build (opened [] text_read)) world.folder [] world.folder (refl, refl)),
      )

  below_root : root_above world.folder ≡ Some (codes "../") → BelowRoot world
  unfolding clap_on_literals
  below_root above =
      let words : List Bytes = set_text ∷ rule_word ∷ [] in
      run_of words words false false false (requested_of (set_size ∷ []) (rule_x [] ∷ [])) world (root_note true (Some (codes "../"))) c.Whole [] made_lines
      (after_set [] build) (with_file world.folder build text_made) refl refl (ap (root_note true) above) (run_set world [] build refl finds_build false)
      (writes_build false false made_lines refl)

-- ---- runs that mean package `none`, of which no file is there

abbrev none : Bytes
none = codes "none"

abbrev none_line : Bytes
none_line = codes "none/BUILD: cannot open\n" ++ package_hint none

abbrev none_used : Used
none_used = record { «package» = none; file = None }

abbrev after_none : Progress
after_none = state_of (none_used ∷ []) true

abbrev after_both : Progress
after_both = state_of (none_used ∷ file_with [] build (set_history []) ∷ []) true

module _ (world : World) (has : HasBuild world) (above : root_above world.folder ≡ None) (bare : get world.folder none ≡ None) (gone : found_in world.folder none ≡ None) where
  fails_first : (request : Request) → DoesHere world (step_at none request) nothing_done (none_line ∷ []) after_none
  fails_first request = does world (step_at none request) nothing_done after_none 0 (none_used ∷ []) None (none_line ∷ []) []
      (inr (
        ap (λ (k : Bytes). package_number k []) key,
        refl,
        (
          None,
          None,
          inr (inr (not_input none refl), sym (ap (found_of world.folder) meant ∙ gone)),
          subst (λ (s : Settled). OpensAs false world.folder none s None None (none_line ∷ [])) (sym meant) (refl, refl),
          ap (λ (k : Bytes). record { «package» = k; file = None } ∷ []) (sym key),
        ),
      )) refl (refl, refl, refl)
    where
      meant : settled world.folder none ≡ as_package none
      meant = by_folder world.folder none None (has_package world.folder none) bare refl

      key : key_in [] world.folder none ≡ none
      key = ap (key_of none) meant

  beside_none : BesideNone world
  unfolding clap_on_literals
  beside_none =
      let noted = ap (root_note true) above in
      let texts : List Bytes = set_text ∷ codes "//none:x" ∷ rule_word ∷ [] in
      let again : List Bytes = undo_text ∷ codes "redo" ∷ codes "//none:x" ∷ [] in
      let requested : Requested = requested_of (set_size ∷ []) (rule_x none ∷ rule_x [] ∷ []) in
      let folder : Folder = world.folder in
      let lines : List Bytes = none_line ∷ [] in
      let next : RunStep = step_at [] set_size in (
        run_of texts texts false false false requested world [] c.Whole lines [] after_none folder refl refl noted
            (one_step world false (step_at none set_size) (next ∷ []) nothing_done after_none after_none lines [] refl (fails_first set_size) (inl (refl, refl, refl, refl, refl)))
            (tries_one false false false none_used folder [] folder (refl, refl)),
        run_of (codes "-k" ∷ texts) texts true false false requested world [] c.Whole lines made_lines after_both (with_file folder build text_made) refl refl noted
            (one_step world true (step_at none set_size) (next ∷ []) nothing_done after_none after_both lines [] refl (fails_first set_size)
            (one_step world true next [] after_none after_both after_both [] [] refl
            (acts world [] build set_size (opened [] text_read) (set_history []) (Ok Changed) after_none 1 (none_used ∷ file_with [] build (opened [] text_read) ∷ []) refl
            (opens world [] build (none_used ∷ []) refl refl (finds_build world has)) refl (sets [])) (refl, refl, refl, refl)))
            (c.Whole, c.Whole, [], made_lines, folder, (refl, refl), writes_build world has true false made_lines refl, refl, refl),
        run_of (codes "-k" ∷ again) again true false false (requested_of (undo_one ∷ redo ∷ []) (rule_x none ∷ [])) world [] c.Whole lines [] after_none folder refl refl noted
            (one_step world true (step_at none undo_one) (step_at none redo ∷ []) nothing_done after_none after_none lines [] refl (fails_first undo_one)
            (one_step world true (step_at none redo) [] after_none after_none after_none [] [] refl
            (does world (step_at none redo) after_none after_none 0 (none_used ∷ []) None [] [] (inl (refl, refl, refl)) refl (refl, refl, refl)) (refl, refl, refl, refl)))
            (tries_one true false false none_used folder [] folder (refl, refl)),
      )

-- ---- runs over standard input

over_input : (folder : Folder) → OverInput (record { folder = folder; known = Some text_read; acts = no_acts })
unfolding clap_on_literals
over_input folder =
    let dash : Bytes = codes "-" in
    let world : World = record { folder = folder; known = Some text_read; acts = no_acts } in
    let finds : Finds false world dash (Some (stdin, text_read)) = inl (refl, refl, (text_read, refl, refl)) in (
      run_of (codes "--" ∷ set_text ∷ codes "-:x" ∷ []) (set_text ∷ codes "-:x" ∷ []) false false false (requested_of (set_size ∷ []) (rule_x dash ∷ [])) world [] c.Whole [] []
          (after_set dash stdin) folder refl refl refl (run_set world dash stdin refl finds false)
          (tries_one false false false (file_with dash stdin (set_history dash)) folder [] folder (refl, refl)),
      run_of (codes "--" ∷ set_text ∷ undo_text ∷ codes "-:x" ∷ []) (set_text ∷ undo_text ∷ codes "-:x" ∷ []) false false false
          (requested_of (set_size ∷ undo_one ∷ []) (rule_x dash ∷ [])) world [] c.Whole [] [] (after_back dash stdin) folder refl refl refl
          (run_back world dash stdin refl finds 1 undo_text (Ok Moved) (back_history dash) refl short_undo refl)
          (tries_one false false false (file_with dash stdin (back_history dash)) folder [] folder (refl, refl)),
    )

pub whole : WorkedWholeRuns
whole = (is_made, over_build, below_root, beside_none, over_input)
