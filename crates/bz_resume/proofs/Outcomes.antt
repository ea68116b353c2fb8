-- What each outcome says of the journals that the bytes may be.
use Rattle.bz_resume.proofs.Words.{[], ◌∙◌, ◌∷◌, ◌≡◌, ◌≤◌, AllByRecursion, ap, AreSmall, arith, depth_limit, Edit, edits_of, entries_of, History, IsNote, IsNotedStep, IsOpened, IsOtherVersion, IsRead, IsRecord, IsResumed, IsSmall, IsStale, IsTrail, IsUtf8, Journal, length, length-map, limit, List, map, Moves, Node, NoJournal, None, NoneAgrees, notes_of, One, one_tree, present_text, Reads, Record, record_of, record_text, RecordAgrees, recorded_trail, RecordedStep, refl, Resumed, sha256, short_limit, slice_index_or, Some, spell_node, standing_place, stands, StandsFor, subst, sym, Text, text_at, texts_length, texts_of, Trail, trail_at, trail_of, Two, Version, ℕ}
use Rattle.bz_journal_format.proofs.{Whole.one_record, Own.own_version}
use Rattle.bz_resume.proofs.Entries.{entries_back, entries_apart}

-- ---- a record and the journal that it is

abbrev history_at : Record → Node → History
history_at r n = record { «package» = r.package; texts = texts_of (recorded_trail r n); notes = notes_of r.steps; cursor = r.cursor; before = r.before }

record_is : (r : Record) (text : Text) (ds : List Text) (es : List RecordedStep) → text ≡ r.text → ds ≡ r.digests → es ≡ r.steps
    → (let q : Record = record { «package» = r.package; text = text; cursor = r.cursor; before = r.before; digests = ds; steps = es } in q) ≡ r
record_is r text ds es t d e = rw (t, d, e) refl

same_record : (r : Record) (n : Node) → Reads r.text n → RecordAgrees r n → record_of (history_at r n) (edits_of r.steps) ≡ r
same_record r n reads agrees =
    record_is r (text_at (history_at r n) r.cursor) (map sha256 (texts_of (recorded_trail r n))) (entries_of (notes_of r.steps) (edits_of r.steps)) (present_text (recorded_trail r n) agrees.0 ∙ reads.1) agrees.1 (entries_back r.steps)

journal_made : (j : Text) (r : Record) (n : Node) → IsRead j r → Reads r.text n → RecordAgrees r n → Journal j (history_at r n) (edits_of r.steps)
journal_made j r n (v, h, e) reads agrees =
    let same = same_record r n reads agrees in
    record {
      version = v;
      spelled = e ∙ ap (record_text v) (sym same);
      fits = subst (IsRecord v depth_limit) (sym same) h;
      noted = length-map r.steps (λ t. t.note) ∙ sym (length-map r.steps (λ t. t.edits));
      follows = (n, agrees.0, refl);
    }

record_same : (j : Text) (h : History) (es : List (List Edit)) (r : Record) → IsRead j r → Journal j h es → record_of h es ≡ r
record_same j h es r (v, k, e) journal = (one_record journal.version v depth_limit (record_of h es) r journal.fits k (sym journal.spelled ∙ e)).1

trail_agrees : (h : History) (es : List (List Edit)) (n : Node) → length h.notes ≡ length es → recorded_trail (record_of h es) n ≡ trail_at n es h.cursor
trail_agrees h es n noted = ap (λ l. trail_at n l h.cursor) (entries_apart h.notes es noted).0

tree_agrees : (h : History) (es : List (List Edit)) (n : Node) → length h.notes ≡ length es → IsTrail (trail_at n es h.cursor) → texts_of (trail_at n es h.cursor) ≡ h.texts
    → Reads (record_of h es).text n × RecordAgrees (record_of h es) n
tree_agrees h es n noted trail is =
    let shown : spell_node n ≡ text_at h h.cursor = sym (present_text (trail_at n es h.cursor) trail) ∙ ap (λ l. slice_index_or l h.cursor []) is in
    let same = trail_agrees h es n noted in (
      (trail.tree.0, shown, subst (λ (t : Text). length t ≤ limit) shown trail.tree.1),
      (subst (λ (t : Trail). IsTrail t) (sym same) trail, ap (λ (t : Trail). map sha256 (texts_of t)) same ∙ ap (map sha256) is),
    )

pub none_journal : (j : Text) (r : Record) → IsRead j r → NoneAgrees r → NoJournal j
none_journal j r read none h es journal =
    let same = record_same j h es r read journal in
    let f = journal.follows in
    let t = tree_agrees h es f.0 journal.noted f.1 f.2 in
    none f.0 (subst (λ (q : Record). Reads q.text f.0) same t.0) (subst (λ (q : Record). RecordAgrees q f.0) same t.1)

pub no_journal : (j : Text) → ((r : Record) → IsRead j r → ⊥) → NoJournal j
no_journal j none h es journal = none (record_of h es) (journal.version, journal.fits, journal.spelled)

pub not_other : (j : Text) (h : History) (es : List (List Edit)) → IsOtherVersion j → Journal j h es → ⊥
not_other j h es other journal = own_version journal.version (record_of h es) (subst IsOtherVersion journal.spelled other)

-- ---- no bytes are two journals

same_history : (p q : Text) (ts us ns ms : List Text) (c d b a : ℕ) → q ≡ p → us ≡ ts → ms ≡ ns → d ≡ c → a ≡ b
    → (let h : History = record { «package» = q; texts = us; notes = ms; cursor = d; before = a } in h) ≡ (let h : History = record { «package» = p; texts = ts; notes = ns; cursor = c; before = b } in h)
same_history p q ts us ns ms c d b a e f g h i = rw (e, f, g, h, i) refl

pub record SameJournal (h : History) (es : List (List Edit)) (g : History) (fs : List (List Edit)) : Type 0 where
  pub history : g ≡ h
  pub steps : fs ≡ es

pub one_journal : (j : Text) (h : History) (es : List (List Edit)) (g : History) (fs : List (List Edit)) → Journal j h es → Journal j g fs → SameJournal h es g fs
one_journal j h es g fs k l =
    let same : record_of g fs ≡ record_of h es = (one_record l.version k.version depth_limit (record_of g fs) (record_of h es) l.fits k.fits (sym l.spelled ∙ k.spelled)).1 in
    let n = k.follows in
    let m = l.follows in
    let cursors : g.cursor ≡ h.cursor = ap (λ (r : Record). r.cursor) same in
    let both : entries_of g.notes fs ≡ entries_of h.notes es = ap (λ (r : Record). r.steps) same in
    let steps : fs ≡ es = sym (entries_apart g.notes fs l.noted).0 ∙ ap edits_of both ∙ (entries_apart h.notes es k.noted).0 in
    let notes : g.notes ≡ h.notes = sym (entries_apart g.notes fs l.noted).1 ∙ ap notes_of both ∙ (entries_apart h.notes es k.noted).1 in
    let own : text_at g g.cursor ≡ spell_node m.0 = sym (ap (λ t. slice_index_or t g.cursor []) m.2) ∙ present_text (trail_at m.0 fs g.cursor) m.1 in
    let other : text_at h h.cursor ≡ spell_node n.0 = sym (ap (λ t. slice_index_or t h.cursor []) n.2) ∙ present_text (trail_at n.0 es h.cursor) n.1 in
    let shown : spell_node m.0 ≡ spell_node n.0 = sym own ∙ ap (λ (r : Record). r.text) same ∙ other in
    let tree : m.0 ≡ n.0 = one_tree m.0 n.0 m.1.tree.0 n.1.tree.0 shown in
    let texts : g.texts ≡ h.texts = sym m.2 ∙ ap (λ (z : Node). texts_of (trail_at z fs g.cursor)) tree ∙ ap (λ z. texts_of (trail_at n.0 z g.cursor)) steps ∙ ap (λ z. texts_of (trail_at n.0 es z)) cursors ∙ n.2 in
    record {
      history = same_history h.package g.package h.texts g.texts h.notes g.notes h.cursor g.cursor h.before g.before (ap (λ (r : Record). r.package) same) texts notes cursors (ap (λ (r : Record). r.before) same);
      steps = steps;
    }

-- ---- the outcomes

pub known_ok : (j text : Text) (h : History) (es : List (List Edit)) (s : Resumed) → Journal j h es → IsResumed j text s → StandsFor h es text s
known_ok j text h es s journal (g, fs, own, stood) =
    let same = one_journal j h es g fs journal own in
    let one : StandsFor h fs text s = subst (λ (z : History). StandsFor z fs text s) same.history stood in
    subst (λ (z : List (List Edit)). StandsFor h z text s) same.steps one

pub known_stale : (j text : Text) (h : History) (es : List (List Edit)) → Journal j h es → IsStale j text → stands h text ≡ None
known_stale j text h es journal (g, fs, own, nowhere) =
    let same = one_journal j h es g fs journal own in
    ap (λ (z : History). stands z text) (sym same.history) ∙ nowhere

-- ---- what is resumed can be saved again

note_two : (v : Version) (note : Text) → IsNote v note → IsNote Two note
note_two One note e = subst (IsNote Two) (sym e) (omega arith, nil_text)
  where
    nil_text : IsUtf8 []
    nil_text = ([], (refl, refl))
note_two Two note h = h

notes_two : (v : Version) (es : List RecordedStep) → AllByRecursion (IsNotedStep v depth_limit) es → AllByRecursion (IsNote Two) (notes_of es)
notes_two v [] h = tt
notes_two v (e ∷ es) h = (note_two v e.note h.0.note, notes_two v es h.1)

module _ (j text : Text) (r : Record) (read : IsRead j r) (s : Resumed) (opened : IsOpened r s) where
  abbrev here : History
  here = history_at r s.tree

  abbrev es : List (List Edit)
  es = edits_of r.steps

  own : Journal j here es
  own = journal_made j r s.tree read opened.reads opened.agrees

  trail_is : trail_of s ≡ recorded_trail r s.tree
  trail_is = ap (λ l. trail_at s.tree l s.cursor) opened.steps ∙ ap (λ c. trail_at s.tree es c) opened.cursor

  pub opened_trail : IsTrail (trail_of s)
  opened_trail = subst (λ (t : Trail). IsTrail t) (sym trail_is) opened.agrees.0

  placed : standing_place (texts_of (trail_of s)) s.cursor r.before text ≡ stands here text
  placed = ap (λ (t : Trail). standing_place (texts_of t) s.cursor r.before text) trail_is ∙ ap (λ c. standing_place (texts_of (recorded_trail r s.tree)) c r.before text) opened.cursor

  pub is_stale : standing_place (texts_of (trail_of s)) s.cursor r.before text ≡ None → IsStale j text
  is_stale e = (here, es, own, sym placed ∙ e)

  small_here : AreSmall here es → IsSmall (trail_of s)
  small_here small = subst (λ (t : Trail). IsSmall t) (sym trail_is) (small s.tree opened.agrees.0 refl)

  pub is_resumed : (tree : Node) (steps : List (List Edit)) (cursor : ℕ) → standing_place (texts_of (trail_of s)) s.cursor r.before text ≡ Some cursor → Moves (trail_of s) (trail_at tree steps cursor)
      → IsResumed j text (record { «package» = s.package; tree = tree; steps = steps; digests = s.digests; notes = s.notes; cursor = cursor })
  is_resumed tree steps cursor stood moves =
      let texts : texts_of (trail_at tree steps cursor) ≡ here.texts = moves.texts ∙ ap (λ (t : Trail). texts_of t) trail_is in
      let fits = own.fits in
      let size : length s.notes ≡ length r.steps = ap length opened.notes ∙ length-map r.steps (λ t. t.note) in
      let many : length steps ≡ length r.steps = omega (arith, texts_length (trail_at tree steps cursor) moves.trail, texts_length (recorded_trail r s.tree) opened.agrees.0, ap length texts, length-map r.steps (λ t. t.edits)) in
      let most = (record_read j r read).steps_length in
      let there = moves.trail.within in (
        here,
        es,
        own,
        record {
          package_is = opened.package_is;
          texts = texts;
          notes = opened.notes;
          stands_there = sym placed ∙ stood;
          trail = moves.trail;
          digests = opened.digests ∙ sym opened.agrees.1;
          saves = record {
            package_length = subst (λ (z : Text). length z ≤ short_limit) (sym opened.package_is) fits.package_length;
            package_text = subst IsUtf8 (sym opened.package_is) fits.package_text;
            steps_length = omega (arith, size, most);
            notes = subst (AllByRecursion (IsNote Two)) (sym opened.notes) (notes_of_read j r read);
            known = omega (arith, size, many, there);
          };
          small = λ h. moves.small (small_here h);
        },
      )
    where
      record_read : (j : Text) (r : Record) (x : IsRead j r) → IsRecord x.0 depth_limit r
      record_read j r (v, h, e) = h

      notes_of_read : (j : Text) (r : Record) → IsRead j r → AllByRecursion (IsNote Two) (notes_of r.steps)
      notes_of_read j r (v, h, e) = notes_two v r.steps h.steps
