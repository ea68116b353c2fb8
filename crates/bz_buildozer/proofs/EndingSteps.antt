-- The files that a run tries at its end, one after the other, and what standard output is given.
use Rattle.bz_buildozer.proofs.Words.{[], ◌++◌, ◌<◌, ◌∙◌, ◌∷◌, ◌≡◌, ◌≢◌, ◌⊎◌, All, ap, append-nil, append_assoc, appends_nothing, Bool, Bytes, codes, Cut, Cut as c, differs, false, first_cut, fixed_lines, Folder, get, get_or, get_or-map, Ghosts as FilesOf, if◌then◌else◌, inl, input_package, inr, is_input, IsReplacing, LeavesUnwritten, length, length-map, List, map, name_fixed, named_line, None, Opened, Option, Options, present, PrintsAll, PrintsSome, PrintsUntil, refl, ReportsLine, ReportsLines, Rises, Some, subst, sym, take-nil, TriesFile, TriesFiles, true, Used, used_in, WorksOn, WritesFile, Writing, writing_of, ℕ}
use Rattle.bz_streams.specs.declared.sink.Sink.{Ghosts as SinkOf}
use Rattle.bz_buildozer.specs.declared.used.Used as d
use Rattle.bz_buildozer.proofs.{FailSteps.cut_alone, FailSteps.cuts_assoc, FailSteps.one_line, StandSteps.not_input}

-- ---- one file

-- A file that isn't standard input, whose text is another one than was read.
pub writing_is : (to_stdout : Bool) (used : Used) (file : Opened) (text : Bytes) → to_stdout ≡ false → is_input used ≡ false → used.file ≡ Some file
    → differs file ≡ true → text ≡ present file.history → writing_of to_stdout used ≡ Some (record { name = file.name; held = file.read; bytes = text })
writing_is to_stdout used file text stays other there changed is =
    rw (stays, other, there, changed) (ap (λ (bytes : Bytes). Some (record { name = file.name; held = file.read; bytes = bytes })) (sym is))

-- Standard input is not written.
pub trusted : (honest : Bool) (used : Used) → is_input used ≡ false → (honest ≡ true) ⊎ (used.«package» ≡ input_package) → honest ≡ true
trusted honest used other (inl is) = is
trusted honest used other (inr named) = absurd (not_input used.«package» other named)

-- a file that could not be written, which the call knew by other names
pub unwritten_as : (before after : Folder) (name name' held held' bytes bytes' : Bytes) → name' ≡ name → held' ≡ held → bytes' ≡ bytes
    → IsReplacing name' bytes' before after → ((get before name' ≡ Some held' → ⊥) → after ≡ before)
    → LeavesUnwritten (record { name = name; held = held; bytes = bytes }) before after
unwritten_as before after name name' held held' bytes bytes' named read made either untouched = (
  subst (λ (n : Bytes). IsReplacing n bytes before after) named (subst (λ (b : Bytes). IsReplacing name' b before after) made either),
  (λ other at apart. ap (λ (f : Folder). get f at) (untouched (λ is. other (ap (get before) (sym named) ∙ is ∙ ap Some read)))),
)

-- what a whole call leaves of the folder, without journals and with them
left_whole : (journals : Bool) (file : Option Writing) (before after : Folder) → (journals ≡ true → after ≡ before) → (journals ≡ false → WritesFile file before after)
    → WritesFile (if journals then None else file) before after
left_whole true file before after kept writes = kept refl
left_whole false file before after kept writes = writes refl

-- what comes of the try
module _ {F E : Type 0} (files : FilesOf F) (sink : SinkOf E) (options : Options) (used : Used) (result : Cut) (held held' : F) (old new : E) where
  abbrev Tried : Type 0
  Tried = (lines : List Bytes) × TriesFile result options used (files.folder held) lines (files.folder held') × ReportsLines sink old new lines

  -- this is it, where it is cut so
  tried_so : (why : Cut) (lines : List Bytes) → result ≡ why → TriesFile why options used (files.folder held) lines (files.folder held') → ReportsLines sink old new lines → Tried
  tried_so why lines is tries reported =
      (lines, subst (λ (it : Cut). TriesFile it options used (files.folder held) lines (files.folder held')) (sym is) tries, reported)

  pub tries_file : (files.honest held ≡ true) ⊎ (used.«package» ≡ input_package)
      → (result ≡ c.Whole → ReportsLines sink old new (fixed_lines options.quiet (name_fixed options.journal options.to_stdout used)))
      → (options.journal ≡ false → (files.honest held ≡ true) ⊎ (used.«package» ≡ input_package) → result ≡ c.Whole
      → WritesFile (writing_of options.to_stdout used) (files.folder held) (files.folder held')) → (options.journal ≡ true → held' ≡ held)
      → (result ≡ c.Files → (options.journal ≡ false) × (is_input used ≡ false) × ((file : Writing) × (writing_of options.to_stdout used ≡ Some file)
      × ReportsLine sink old new (named_line file.name (codes "cannot write"))
      × (files.honest held ≡ true → LeavesUnwritten file (files.folder held) (files.folder held'))))
      → (result ≡ c.Memory → (options.journal ≡ false) × ((file : Opened) × (used.file ≡ Some file) × ReportsLine sink old new (named_line file.name (codes "Memory"))
      × (held' ≡ held))) → WorksOn files result held held' → Tried
  tries_file premise reported writes kept unwritten memory works = go works.cut
    where
      go : ((result ≡ c.Whole) × (files.faults held' ≡ files.faults held)) ⊎ ((result ≡ c.Memory) ⊎ ((result ≡ c.Files) × Rises (files.faults held) (files.faults held'))) → Tried
      go (inl whole) = tried_so c.Whole (fixed_lines options.quiet (name_fixed options.journal options.to_stdout used)) whole.0 (
        refl,
        left_whole options.journal (writing_of options.to_stdout used) (files.folder held) (files.folder held') (λ is. ap files.folder (kept is))
            (λ plain. writes plain premise whole.0),
      ) (reported whole.0)
      go (inr (inl is)) = let done = memory is in
          tried_so c.Memory (named_line done.1.0.name (codes "Memory") ∷ []) is (done.0, (done.1.0, done.1.1, refl, ap files.folder done.1.3))
          (one_line sink old new (named_line done.1.0.name (codes "Memory")) done.1.2)
      go (inr (inr is)) = let done = unwritten is.0 in
          tried_so c.Files (named_line done.2.0.name (codes "cannot write") ∷ []) is.0
          (done.0, (done.2.0, done.2.1, refl, done.2.3 (trusted (files.honest held) used done.1 premise)))
          (one_line sink old new (named_line done.2.0.name (codes "cannot write")) done.2.2)

-- ---- many files

-- a package of a list of which each is standard input
pub of_input_at : (packages : List d.Used) (at : ℕ) (item : d.Used) → item ≡ get_or packages at item → at < length packages
    → All (λ (used : Used). used.«package» ≡ input_package) (map used_in packages) → (used_in item).«package» ≡ input_package
of_input_at packages at item is within all = subst (λ (one : d.Used). (used_in one).«package» ≡ input_package) (sym is)
    (subst (λ (used : Used). used.«package» ≡ input_package) (get_or-map used_in packages at item (used_in item) within) (all at (used_in item) (rw (length-map) within)))

-- one more is tried
pub tries_more : (why later : Cut) (options : Options) (used : List Used) (last : Used) (before mid after : Folder) (lines more : List Bytes)
    → TriesFiles why options used before lines mid → TriesFile later options last mid more after
    → TriesFiles (first_cut why later) options (used ++ last ∷ []) before (lines ++ more) after
tries_more why later options [] last before mid after lines more (whole, none, same) tries = (
  later,
  c.Whole,
  more,
  [],
  after,
  subst (λ (f : Folder). TriesFile later options last f more after) same tries,
  (refl, refl, refl),
  ap (λ (reported : List Bytes). reported ++ more) none ∙ sym (append-nil more),
  ap (λ (it : Cut). first_cut it later) whole ∙ sym (cut_alone later),
)
tries_more why later options (one ∷ used) last before mid after lines more (first, next, reported, rest, between, tried, tries, told, is) last_tries = (
  first,
  first_cut next later,
  reported,
  rest ++ more,
  between,
  tried,
  tries_more next later options used last between mid after rest more tries last_tries,
  ap (λ (all : List Bytes). all ++ more) told ∙ append_assoc reported rest more,
  ap (λ (it : Cut). first_cut it later) is ∙ cuts_assoc first next later,
)

-- ---- standard output

-- why standard output was not given all
pub prints_err : {W : Type 0} (sink : SinkOf W) (why : Cut) (out out' : W) (bytes : Bytes)
    → ((why ≡ c.Memory) × (out' ≡ out)) ⊎ ((why ≡ c.Write) × PrintsSome sink out out' bytes × Rises (sink.faults out) (sink.faults out'))
    → PrintsUntil sink why out out' bytes
prints_err sink why out out' bytes (inl memory) = subst (λ (it : Cut). PrintsUntil sink it out out' bytes) (sym memory.0) memory.1
prints_err sink why out out' bytes (inr write) = subst (λ (it : Cut). PrintsUntil sink it out out' bytes) (sym write.0) (write.1, write.2)

-- Nothing is written where there is nothing to be.
pub prints_none : {W : Type 0} (sink : SinkOf W) (why : Cut) (out out' : W) (bytes : Bytes) → bytes ≡ [] → PrintsUntil sink why out out' bytes → PrintsAll sink out out' []
prints_none {W = W} sink why out out' bytes is prints = go why (subst (PrintsUntil sink why out out') is prints)
  where
    go : (why : Cut) → PrintsUntil sink why out out' [] → PrintsAll sink out out' []
    go c.Whole all = all
    go c.Memory same = subst (λ (now : W). PrintsAll sink out now []) (sym same) (appends_nothing (sink.contents out))
    go c.Write some = subst (PrintsAll sink out out') (take-nil some.0.count) some.0.appends
    go _ never = absurd never

pub not_whole : (later : Cut) (P Q R : Type 0) → ((later ≡ c.Memory) × P) ⊎ ((later ≡ c.Write) × Q × R) → later ≢ c.Whole
not_whole later P Q R (inl memory) is = absurd (cc (sym memory.0 ∙ is))
not_whole later P Q R (inr write) is = absurd (cc (sym write.0 ∙ is))
