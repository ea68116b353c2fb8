-- The readers of edits, steps and records are exact.
use Rattle.bz_journal_format.proofs.Words.{[], ◌++◌, ◌+◌, ◌-◌, ◌<◌, ◌>>=◌, ◌∙◌, ◌∷◌, ◌≡◌, ◌≤◌, after_mark, AllByRecursion, and_parts, ap, append-nil, append_assoc, arith, bytes_eq, bytes_eq-Decides, codes, cond, cond_some, counted_at, counted_lines_at, counted_text, counts_text, digest_at, digest_line_at, digest_text, Edit, edit_at, edit_text, encode_lower, end_line, entry_at, entry_text, flat_map, get_or, held_at, is_short_text, is_utf8, is_utf8-from_IsUtf8, IsDigest, IsEdit, IsExact, IsHeld, IsNote, IsNotedStep, IsRecord, IsUtf8-from_is_utf8, last_number, le-leb, leb-true, length, length-append, line_feed, lines_at, lines_text, List, listed_at, nat_le, None, note_at, note_line, number_at, number_limit, One, Part, part_text, Record, record_at, record_made, record_text, RecordedStep, refl, repeated, same_Some, short_limit, Some, space, spaced_number, step_limit, subst, sym, take, take_at, tested, true, Two, up_to, Version, version_line, ℕ}
use Rattle.std.specs.Cmp.Derive.{both_true}
use Rattle.bz_journal_format.proofs.{Held.held_exact_at, Chains.AreAll, Chains.bind_some, Chains.done_exact, Chains.last_exact, Chains.mark_exact, Chains.repeated_exact, Chains.so, Chains.then_exact, Counting.number_exact, Formats.counted_exact, Formats.digest_exact, Formats.listed_exact, Formats.tested_exact, Formats.up_to_exact}

abbrev IsPath : List ℕ → Type 0
IsPath ns = (length ns < number_limit) × AllByRecursion (λ n. n < number_limit) ns

abbrev AreHeld : ℕ → List Part → Type 0
AreHeld depth xs = (length xs < number_limit) × AllByRecursion (IsHeld depth) xs

digest_lines : (m a b : List ℕ) → m ++ (a ++ b) ≡ m ++ a ++ b
digest_lines m a b = sym (append_assoc m a b)

whole_lines : (j k a q t b u n v c w d ds ss : List ℕ)
    → j ++ (k ++ (a ++ ((q ++ t) ++ (b ++ ((q ++ u) ++ (n ++ (v ++ (c ++ (w ++ (d ++ (ds ++ (ss ++ [])))))))))))) ≡ (j ++ k ++ a ++ q ++ t ++ b ++ q) ++ (u ++ n ++ v ++ c ++ w ++ d) ++ ds ++ ss
whole_lines j k a q t b u n v c w d ds ss = simp (append_assoc, append-nil)

-- ---- edits

edit_lines : (m a b c d e f : List ℕ) → m ++ ((a ++ b) ++ (c ++ (d ++ ((e ++ f) ++ [])))) ≡ m ++ a ++ b ++ c ++ d ++ e ++ f
edit_lines m a b c d e f = simp (append_assoc, append-nil)

entry_lines : (m a b c : List ℕ) → m ++ (a ++ (b ++ (c ++ []))) ≡ m ++ a ++ b ++ c
entry_lines m a b c = simp (append_assoc, append-nil)

-- ---- notes

abbrev entry_of : List ℕ → List Edit → RecordedStep
entry_of note edits = record { note = note; edits = edits }

abbrev IsName : List ℕ → Type 0
IsName t = (length t < number_limit) × (is_short_text t ≡ true)

is_note : (t : List ℕ) → IsName t → IsNote Two t
is_note t h = let p = and_parts (nat_le (length t) short_limit) (is_utf8 t) h.1 in (leb-true (length t) short_limit p.0, IsUtf8-from_is_utf8 t p.1)

is_name : (t : List ℕ) → IsNote Two t → IsName t
is_name t h = (omega (arith, h.0), both_true (le-leb (length t) short_limit h.0) (is_utf8-from_IsUtf8 t h.1))

note_exact : (v : Version) → IsExact (List ℕ) (note_line v) (IsNote v) (note_at v)
unfolding note_at
note_exact One = done_exact []
note_exact Two =
    so (λ t. digest_lines (codes "note ") (counted_text space t) (line_feed ∷ [])) (λ t h. is_note t h.0) (λ t h. (is_name t h, refl))
    (mark_exact (codes "note ") _ _ _ (then_exact (λ t. t) (counted_text space) IsName (tested is_short_text (counted_at space)) (λ t. line_feed ∷ []) (λ note t. t ≡ note) (λ note s. after_mark (line_feed ∷ []) s >>= λ r. Some (note, r)) (λ note t h. h)
    (tested_exact is_short_text (counted_text space) (λ t. length t < number_limit) (counted_at space) (counted_exact space refl)) (λ note. last_exact (line_feed ∷ []) note)))

abbrev edit_of : List ℕ → ℕ → ℕ → List Part → Edit
edit_of path at count held = record { path = path; at = at; count = count; held = held }

abbrev held_body : Edit → List ℕ
held_body e = last_number (length e.held) ++ flat_map part_text e.held

module _ (depth : ℕ) where
  held_exact : (path : List ℕ) (at count : ℕ) → IsExact Edit (λ e. held_body e ++ []) (λ e. AreHeld depth e.held × (e ≡ edit_of path at count e.held)) (λ s. listed_at line_feed (held_at depth) s >>= λ xs. Some (edit_of path at count xs.0, xs.1))
  held_exact path at count =
      then_exact (λ e. e.held) (λ xs. last_number (length xs) ++ flat_map part_text xs) (AreHeld depth) (listed_at line_feed (held_at depth)) (λ e. []) (λ xs e. e ≡ edit_of path at count xs) (λ xs s. Some (edit_of path at count xs, s))
      (λ xs e h. ap (λ y. y.held) h) (listed_exact line_feed refl part_text (IsHeld depth) (held_at depth) (held_exact_at depth)) (λ xs. done_exact (edit_of path at count xs))

  abbrev HasHeld : List ℕ → ℕ → ℕ → Edit → Type 0
  HasHeld path at count e = AreHeld depth e.held × (e ≡ edit_of path at count e.held)

  abbrev HasCount : List ℕ → ℕ → Edit → Type 0
  HasCount path at e = (e.count < number_limit) × HasHeld path at e.count e

  abbrev HasPlace : List ℕ → Edit → Type 0
  HasPlace path e = (e.at < number_limit) × HasCount path e.at e

  pub edit_exact : IsExact Edit edit_text (IsEdit depth) (edit_at depth)
  unfolding edit_at
  edit_exact =
      let counts = λ (path : List ℕ) (at : ℕ). then_exact (λ e. e.count) spaced_number (λ n. n < number_limit) (number_at space) (λ e. held_body e ++ []) (HasHeld path at) (λ count s. listed_at line_feed (held_at depth) s >>= λ xs. Some (edit_of path at count xs.0, xs.1))
      (λ count e h. ap (λ y. y.count) h.1) (number_exact space refl) (held_exact path at) in
      let ats = λ (path : List ℕ). then_exact (λ e. e.at) spaced_number (λ n. n < number_limit) (number_at space) (λ e. spaced_number e.count ++ (held_body e ++ [])) (HasCount path) (λ at s. number_at space s >>= λ count. listed_at line_feed (held_at depth) count.1 >>= λ xs. Some (edit_of path at count.0 xs.0, xs.1))
      (λ at e h. ap (λ y. y.at) h.1.1) (number_exact space refl) (counts path) in
      let paths = then_exact (λ e. e.path) (λ ns. spaced_number (length ns) ++ flat_map spaced_number ns) IsPath (listed_at space (number_at space)) (λ e. spaced_number e.at ++ (spaced_number e.count ++ (held_body e ++ []))) HasPlace (λ path s. number_at space s >>= λ at. number_at space at.1 >>= λ count. listed_at line_feed (held_at depth) count.1 >>= λ xs. Some (edit_of path at.0 count.0 xs.0, xs.1))
      (λ path e h. ap (λ y. y.path) h.1.1.1) (listed_exact space refl spaced_number (λ n. n < number_limit) (number_at space) (number_exact space refl)) ats in
      so (λ e. edit_lines (codes "edit ") (spaced_number (length e.path)) (flat_map spaced_number e.path) (spaced_number e.at) (spaced_number e.count) (last_number (length e.held)) (flat_map part_text e.held))
      (λ e h. record { path_length = h.0.0; path = h.0.1; at = h.1.0; count = h.1.1.0; held_length = h.1.1.1.0.0; held = h.1.1.1.0.1 })
      (λ e h. ((h.path_length, h.path), (h.at, (h.count, ((h.held_length, h.held), refl)))))
      (mark_exact (codes "edit ") _ _ _ paths)

  pub entry_exact : (v : Version) → IsExact RecordedStep (entry_text v) (IsNotedStep v depth) (entry_at v depth)
  unfolding entry_at
  entry_exact v =
      let edits = λ (n : ℕ) (note : List ℕ). then_exact (λ t. t.edits) (flat_map edit_text) (AreAll (IsEdit depth) n) (repeated (edit_at depth) n) (λ t. []) (λ es t. t ≡ entry_of note es) (λ es s. Some (entry_of note es, s))
      (λ es t h. ap (λ y. y.edits) h) (repeated_exact edit_text (IsEdit depth) (edit_at depth) edit_exact n) (λ es. done_exact (entry_of note es)) in
      let notes = λ (n : ℕ). then_exact (λ t. t.note) (note_line v) (IsNote v) (note_at v) (λ t. flat_map edit_text t.edits ++ []) (λ note t. AreAll (IsEdit depth) n t.edits × (t ≡ entry_of note t.edits)) (λ note s. repeated (edit_at depth) n s >>= λ es. Some (entry_of note es.0, es.1))
      (λ note t h. ap (λ y. y.note) h.1) (note_exact v) (edits n) in
      let counts = then_exact (λ t. length t.edits) last_number (λ n. n < number_limit) (number_at line_feed) (λ t. note_line v t.note ++ (flat_map edit_text t.edits ++ [])) (λ n t. IsNote v t.note × (AreAll (IsEdit depth) n t.edits × (t ≡ entry_of t.note t.edits))) (λ n s. note_at v s >>= λ note. repeated (edit_at depth) n note.1 >>= λ es. Some (entry_of note.0 es.0, es.1))
      (λ n t h. h.1.0.0) (number_exact line_feed refl) notes in
      so (λ t. entry_lines (codes "step ") (last_number (length t.edits)) (note_line v t.note) (flat_map edit_text t.edits))
      (λ t h. record { note = h.1.0; edits_length = h.0; edits = h.1.1.0.1 })
      (λ t h. (h.edits_length, (h.note, ((refl, h.edits), refl))))
      (mark_exact (codes "step ") _ _ _ counts)

-- ---- all lines but the last

digest_line_exact : IsExact (List ℕ) digest_text IsDigest digest_line_at
unfolding digest_line_at
digest_line_exact = so (λ d. digest_lines (codes "digest ") (encode_lower d) (line_feed ∷ [])) (λ d h. h) (λ d h. h) (mark_exact (codes "digest ") _ _ digest_at digest_exact)

abbrev UpTo : ℕ → ℕ → Type 0
UpTo limit n = (n < number_limit) × (nat_le n limit ≡ true)

module _ (v : Version) (depth : ℕ) where
  -- what is read from each field on, the last one first
  abbrev text_from_steps : Record → List ℕ
  text_from_steps r = flat_map (entry_text v) r.steps ++ []

  abbrev text_from_digests : Record → List ℕ
  text_from_digests r = flat_map digest_text r.digests ++ text_from_steps r

  abbrev text_from_before : Record → List ℕ
  text_from_before r = last_number r.before ++ text_from_digests r

  abbrev text_from_cursor : Record → List ℕ
  text_from_cursor r = spaced_number r.cursor ++ (codes "before " ++ text_from_before r)

  abbrev text_from_count : Record → List ℕ
  text_from_count r = spaced_number (length r.steps) ++ (codes "now " ++ text_from_cursor r)

  abbrev text_from_text : Record → List ℕ
  text_from_text r = counted_text line_feed r.text ++ (codes "\nsteps " ++ text_from_count r)

  -- and what fits
  abbrev FitsFromSteps : List ℕ → List ℕ → ℕ → ℕ → ℕ → List (List ℕ) → Record → Type 0
  FitsFromSteps name text n cursor before digests r = AreAll (IsNotedStep v depth) n r.steps × (r ≡ record_made name text cursor before digests r.steps)

  abbrev FitsFromDigests : List ℕ → List ℕ → ℕ → ℕ → ℕ → Record → Type 0
  FitsFromDigests name text n cursor before r = AreAll IsDigest (n + 1) r.digests × FitsFromSteps name text n cursor before r.digests r

  abbrev FitsFromBefore : List ℕ → List ℕ → ℕ → ℕ → Record → Type 0
  FitsFromBefore name text n cursor r = UpTo n r.before × FitsFromDigests name text n cursor r.before r

  abbrev FitsFromCursor : List ℕ → List ℕ → ℕ → Record → Type 0
  FitsFromCursor name text n r = UpTo n r.cursor × FitsFromBefore name text n r.cursor r

  abbrev FitsFromCount : List ℕ → List ℕ → Record → Type 0
  FitsFromCount name text r = UpTo step_limit (length r.steps) × FitsFromCursor name text (length r.steps) r

  abbrev FitsFromText : List ℕ → Record → Type 0
  FitsFromText name r = (length r.text < number_limit) × FitsFromCount name r.text r

  steps_part : (name text : List ℕ) (n cursor before : ℕ) (digests : List (List ℕ)) → IsExact Record text_from_steps (FitsFromSteps name text n cursor before digests) (λ s. repeated (entry_at v depth) n s >>= λ steps. Some (record_made name text cursor before digests steps.0, steps.1))
  steps_part name text n cursor before digests =
      then_exact (λ r. r.steps) (flat_map (entry_text v)) (AreAll (IsNotedStep v depth) n) (repeated (entry_at v depth) n) (λ r. []) (λ steps r. r ≡ record_made name text cursor before digests steps) (λ steps s. Some (record_made name text cursor before digests steps, s))
      (λ steps r h. ap (λ y. y.steps) h) (repeated_exact (entry_text v) (IsNotedStep v depth) (entry_at v depth) (entry_exact depth v) n) (λ steps. done_exact (record_made name text cursor before digests steps))

  digests_part : (name text : List ℕ) (n cursor before : ℕ) → IsExact Record text_from_digests (FitsFromDigests name text n cursor before) (λ s. repeated digest_line_at (n + 1) s >>= λ digests. repeated (entry_at v depth) n digests.1 >>= λ steps. Some (record_made name text cursor before digests.0 steps.0, steps.1))
  digests_part name text n cursor before =
      then_exact (λ r. r.digests) (flat_map digest_text) (AreAll IsDigest (n + 1)) (repeated digest_line_at (n + 1)) text_from_steps (λ digests r. FitsFromSteps name text n cursor before digests r) (λ digests s. repeated (entry_at v depth) n s >>= λ steps. Some (record_made name text cursor before digests steps.0, steps.1))
      (λ digests r h. ap (λ y. y.digests) h.1) (repeated_exact digest_text IsDigest digest_line_at digest_line_exact (n + 1)) (steps_part name text n cursor before)

  before_part : (name text : List ℕ) (n cursor : ℕ) → IsExact Record text_from_before (FitsFromBefore name text n cursor) (λ s. up_to n line_feed s >>= λ before. repeated digest_line_at (n + 1) before.1 >>= λ digests. repeated (entry_at v depth) n digests.1 >>= λ steps. Some (record_made name text cursor before.0 digests.0 steps.0, steps.1))
  before_part name text n cursor =
      then_exact (λ r. r.before) last_number (UpTo n) (up_to n line_feed) text_from_digests (λ before r. FitsFromDigests name text n cursor before r) (λ before s. repeated digest_line_at (n + 1) s >>= λ digests. repeated (entry_at v depth) n digests.1 >>= λ steps. Some (record_made name text cursor before digests.0 steps.0, steps.1))
      (λ before r h. ap (λ y. y.before) h.1.1) (up_to_exact line_feed refl n) (digests_part name text n cursor)

  cursor_part : (name text : List ℕ) (n : ℕ) → IsExact Record text_from_cursor (FitsFromCursor name text n) (λ s. up_to n space s >>= λ cursor. after_mark (codes "before ") cursor.1 >>= λ was. up_to n line_feed was >>= λ before. repeated digest_line_at (n + 1) before.1 >>= λ digests. repeated (entry_at v depth) n digests.1 >>= λ steps. Some (record_made name text cursor.0 before.0 digests.0 steps.0, steps.1))
  cursor_part name text n =
      then_exact (λ r. r.cursor) spaced_number (UpTo n) (up_to n space) (λ r. codes "before " ++ text_from_before r) (λ cursor r. FitsFromBefore name text n cursor r) (λ cursor s. after_mark (codes "before ") s >>= λ was. up_to n line_feed was >>= λ before. repeated digest_line_at (n + 1) before.1 >>= λ digests. repeated (entry_at v depth) n digests.1 >>= λ steps. Some (record_made name text cursor before.0 digests.0 steps.0, steps.1))
      (λ cursor r h. ap (λ y. y.cursor) h.1.1.1) (up_to_exact space refl n) (λ cursor. mark_exact (codes "before ") text_from_before (FitsFromBefore name text n cursor) _ (before_part name text n cursor))

  count_part : (name text : List ℕ) → IsExact Record text_from_count (FitsFromCount name text) (λ s. up_to step_limit space s >>= λ count. after_mark (codes "now ") count.1 >>= λ now. up_to count.0 space now >>= λ cursor. after_mark (codes "before ") cursor.1 >>= λ was. up_to count.0 line_feed was >>= λ before. repeated digest_line_at (count.0 + 1) before.1 >>= λ digests. repeated (entry_at v depth) count.0 digests.1 >>= λ steps. Some (record_made name text cursor.0 before.0 digests.0 steps.0, steps.1))
  count_part name text =
      then_exact (λ r. length r.steps) spaced_number (UpTo step_limit) (up_to step_limit space) (λ r. codes "now " ++ text_from_cursor r) (λ n r. FitsFromCursor name text n r) (λ n s. after_mark (codes "now ") s >>= λ now. up_to n space now >>= λ cursor. after_mark (codes "before ") cursor.1 >>= λ was. up_to n line_feed was >>= λ before. repeated digest_line_at (n + 1) before.1 >>= λ digests. repeated (entry_at v depth) n digests.1 >>= λ steps. Some (record_made name text cursor.0 before.0 digests.0 steps.0, steps.1))
      (λ n r h. h.1.1.1.0.0) (up_to_exact space refl step_limit) (λ n. mark_exact (codes "now ") text_from_cursor (FitsFromCursor name text n) _ (cursor_part name text n))

  text_part : (name : List ℕ) → IsExact Record text_from_text (FitsFromText name) (λ s. counted_at line_feed s >>= λ text. counted_lines_at v depth name text.0 text.1)
  unfolding counted_lines_at
  text_part name =
      then_exact (λ r. r.text) (counted_text line_feed) (λ t. length t < number_limit) (counted_at line_feed) (λ r. codes "\nsteps " ++ text_from_count r) (λ text r. FitsFromCount name text r) (counted_lines_at v depth name)
      (λ text r h. ap (λ y. y.text) h.1.1.1.1.1) (counted_exact line_feed refl) (λ text. mark_exact (codes "\nsteps ") text_from_count (FitsFromCount name text) _ (count_part name text))

  fits : (r : Record) → IsName r.package × FitsFromText r.package r → IsRecord v depth r
  fits r h =
      let name = and_parts (nat_le (length r.package) short_limit) (is_utf8 r.package) h.0.1 in
      record {
        package_length = leb-true (length r.package) short_limit name.0;
        package_text = IsUtf8-from_is_utf8 r.package name.1;
        text = h.1.0;
        steps_length = leb-true (length r.steps) step_limit h.1.1.0.1;
        cursor = leb-true r.cursor (length r.steps) h.1.1.1.0.1;
        before = leb-true r.before (length r.steps) h.1.1.1.1.0.1;
        digests_length = h.1.1.1.1.1.0.0;
        digests = h.1.1.1.1.1.0.1;
        steps = h.1.1.1.1.1.1.0.1;
      }

  within : (n limit : ℕ) → n ≤ limit → limit < number_limit → UpTo limit n
  within n limit le lt = (omega arith, le-leb n limit le)

  fitting : (r : Record) → IsRecord v depth r → IsName r.package × FitsFromText r.package r
  fitting r h =
      let few : length r.steps ≤ step_limit = h.steps_length in
      let n : length r.steps < number_limit = omega arith in
      let short : length r.package ≤ short_limit = h.package_length in
      let name : IsName r.package = (omega arith, both_true (le-leb (length r.package) short_limit short) (is_utf8-from_IsUtf8 r.package h.package_text)) in
      (name, (h.text, (within (length r.steps) step_limit few (omega arith), (within r.cursor (length r.steps) h.cursor n, (within r.before (length r.steps) h.before n, ((h.digests_length, h.digests), ((refl, h.steps), refl)))))))

  pub lines_exact : IsExact Record (lines_text v) (IsRecord v depth) (lines_at v depth)
  unfolding lines_at
  lines_exact =
      let names = then_exact (λ r. r.package) (counted_text space) IsName (tested is_short_text (counted_at space)) (λ r. codes "\ntext " ++ text_from_text r) FitsFromText (λ name s. after_mark (codes "\ntext ") s >>= λ second. counted_at line_feed second >>= λ text. counted_lines_at v depth name text.0 text.1)
      (λ name r h. ap (λ y. y.package) h.1.1.1.1.1.1) (tested_exact is_short_text (counted_text space) (λ t. length t < number_limit) (counted_at space) (counted_exact space refl)) (λ name. mark_exact (codes "\ntext ") text_from_text (FitsFromText name) _ (text_part name)) in
      so (λ r. whole_lines (version_line v) (codes "package ") (counted_text space r.package) (line_feed ∷ []) (codes "text ") (counted_text line_feed r.text) (codes "steps ") (spaced_number (length r.steps)) (codes "now ") (spaced_number r.cursor) (codes "before ") (last_number r.before) (flat_map digest_text r.digests) (flat_map (entry_text v) r.steps))
      fits fitting (mark_exact (version_line v) _ _ _ (mark_exact (codes "package ") _ _ _ names))

-- ---- the whole

front_of : (a b : List ℕ) → take (length (a ++ b) - length b) (a ++ b) ≡ a
front_of a b = take_at a b (length (a ++ b) - length b) (omega (arith, length-append a b))

pub record_sound : (v : Version) (depth : ℕ) (s : List ℕ) (r : Record) → record_at v depth s ≡ Some r → IsRecord v depth r × (s ≡ record_text v r)
unfolding record_at
record_sound v depth s r e =
    let b = bind_some (lines_at v depth s) (λ l. cond (bytes_eq l.1 (end_line (take (length s - length l.1) s))) (Some l.0) None) r e in
    let rest = b.0.1 in
    let g = cond_some (bytes_eq rest (end_line (take (length s - length rest) s))) b.0.0 r b.2 in
    let q = (lines_exact v depth).sound s b.0.0 rest b.1 in
    let front : take (length s - length rest) s ≡ lines_text v b.0.0 = ap (λ z. take (length z - length rest) z) q.1 ∙ front_of (lines_text v b.0.0) rest in
    let last : rest ≡ end_line (lines_text v b.0.0) = (bytes_eq-Decides rest (end_line (take (length s - length rest) s))).0 g.0 ∙ ap end_line front in
    subst (λ y. IsRecord v depth y × (s ≡ record_text v y)) g.1 (q.0, q.1 ∙ ap (λ z. lines_text v b.0.0 ++ z) last)

pub record_complete : (v : Version) (depth : ℕ) (r : Record) → IsRecord v depth r → record_at v depth (record_text v r) ≡ Some r
unfolding record_at
record_complete v depth r h =
    let e = (lines_exact v depth).complete r (end_line (lines_text v r)) h in
    let same : bytes_eq (end_line (lines_text v r)) (end_line (take (length (record_text v r) - length (end_line (lines_text v r))) (record_text v r))) ≡ true =
    (bytes_eq-Decides (end_line (lines_text v r)) (end_line (take (length (record_text v r) - length (end_line (lines_text v r))) (record_text v r)))).1 (sym (ap end_line (front_of (lines_text v r) (end_line (lines_text v r))))) in
    ap (λ o. o >>= λ l. cond (bytes_eq l.1 (end_line (take (length (record_text v r) - length l.1) (record_text v r)))) (Some l.0) None) e
    ∙ ap (λ t. cond t (Some r) None) same

-- no bytes are two records, or one record in two versions
other_first : (a b : List ℕ) → version_line One ++ a ≡ version_line Two ++ b → ⊥
other_first a b e = let f : 49 ≡ 50 = ap (λ s. get_or s 10 0) e in absurd (omega (arith, f))

pub begins : (v : Version) (r : Record) → (rest : List ℕ) × (record_text v r ≡ version_line v ++ rest)
begins v r = (_, text_begins (version_line v) (codes "package ") (counted_text space r.package) (line_feed ∷ []) (codes "text ") (counted_text line_feed r.text) (line_feed ∷ []) (counts_text r) (flat_map digest_text r.digests) (flat_map (entry_text v) r.steps) (end_line (lines_text v r)))
  where
    text_begins : (f a b c d e g h i j k : List ℕ) → (f ++ a ++ b ++ c ++ d ++ e ++ g) ++ h ++ i ++ j ++ k ≡ f ++ (a ++ (b ++ (c ++ (d ++ (e ++ (g ++ (h ++ (i ++ (j ++ k)))))))))
    text_begins f a b c d e g h i j k = simp append_assoc

pub one_record : (v w : Version) (depth : ℕ) (q r : Record) → IsRecord v depth q → IsRecord w depth r → record_text v q ≡ record_text w r → (v ≡ w) × (q ≡ r)
one_record One One depth q r g h e = (refl, same_Some q r (sym (record_complete One depth q g) ∙ ap (record_at One depth) e ∙ record_complete One depth r h))
one_record Two Two depth q r g h e = (refl, same_Some q r (sym (record_complete Two depth q g) ∙ ap (record_at Two depth) e ∙ record_complete Two depth r h))
one_record One Two depth q r g h e = absurd (other_first _ _ (sym (begins One q).1 ∙ e ∙ (begins Two r).1))
one_record Two One depth q r g h e = absurd (other_first _ _ (sym (begins One r).1 ∙ sym e ∙ (begins Two q).1))
