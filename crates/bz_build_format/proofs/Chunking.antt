-- Chunk by chunk a text is formatted as a whole.
use Rattle.bz_build_format.proofs.Words.{[], ◌++◌, ◌+◌, ◌-◌, ◌<◌, ◌∙◌, ◌∷◌, ◌≡◌, ◌≤◌, ◌⊎◌, ap, append_assoc, ap₂, arith, Bool, BuildViews, Bytes, depth_limit, depth_of, Drafted, drafted, drop, Err, false, FileKind, flags, FlagsKeepLayout, gap_below, inl, inr, is_some, IsAppended, IsFormattedAs, IsProper, Item, laid_out, layout, LayoutIsAccepted, LayoutIsTooDeep, LayoutReadsBack, length, length-drop, length-take, limit, List, NoBzlTree, Node, None, not, of_kind, Ok, Option, pushed, ReadFault, ReadFault as r, ReadsAs, refl, Some, subst, sym, take, take-add, take-length, tidied, true, view_of, ViewsAreProper, ℕ}
use Rattle.bz_token.proofs.Tokens.{whole_rest}
use Rattle.bz_hosts.specs.{Joined.ViewsJoin, SuitesJoined.SuitesJoin}
use Rattle.bz_layout.specs.Appended.{LayoutsJoin, DepthsJoin}
use Rattle.bz_layout.proofs.Pushing.{pushed_twice}
use Rattle.bz_passes.specs.Joined.{TidiedApart}
use Rattle.bz_build_format.specs.declared.chunks.FileKind.TheVariants.{Build, Suites}
use Rattle.bz_build_format.specs.declared.formatter.FormatFault.{FormatFault}
use Rattle.bz_build_format.specs.declared.formatter.FormatFault.TheVariants as f
use Rattle.bz_build_format.proofs.{Formatting.laid_out_given, Writes.written_given, Writes.written_too_deep, Writes.written_too_large}

-- ---- texts one after the other

-- what two texts say, settled, is what they say together, settled
abbrev TextsJoin : FileKind → Type 0
TextsJoin kind = (s t : Bytes) (n m : Node) → (of_kind kind).ends n → (of_kind kind).follows m → (of_kind kind).reads s n → (of_kind kind).reads t m → length (s ++ t) ≤ limit
    → (new : Node) × (of_kind kind).reads (s ++ t) new × ((of_kind kind).settled (view_of new) ≡ (of_kind kind).settled (view_of n) ++ (of_kind kind).settled (view_of m)) × ((of_kind kind).ends m → (of_kind kind).ends new)

texts_join : ViewsJoin → SuitesJoin → BuildViews → TidiedApart → (kind : FileKind) → TextsJoin kind
texts_join views suites build apart Build s t n m ends follows a b le =
    let (new, reads, says, more) = views s t n m ends a b le in
    (new, reads, ap tidied says ∙ apart (view_of n) (view_of m) (build n a.0.build) (build m b.0.build) follows, more)
texts_join views suites build apart Suites s t n m ends follows a b le =
    suites s t n m ends follows a b le

-- That of a text so far, or nothing yet.
abbrev pub IsBegun : FileKind → Bytes → Drafted → Option Item → Bool → Type 0
IsBegun kind text out above ends = ((text ≡ []) × (out ≡ drafted limit []) × (above ≡ None)) ⊎ ((item : Item) × (above ≡ Some item) × IsFormattedAs (of_kind kind) text out item ends)

module _ (views : ViewsJoin) (suites : SuitesJoin) (build : BuildViews) (apart : TidiedApart) (layouts : LayoutsJoin) (depths : DepthsJoin) (kind : FileKind) where
  laid_both : (above : Option Item) (item : Item) (front items before : List Item) → above ≡ Some item → front ≡ before ++ item ∷ [] → layout (front ++ items) ≡ layout front ++ (gap_below above items ++ layout items)
  laid_both above item front items before there is =
      ap (λ xs. layout (xs ++ items)) is ∙ (layouts before item items ∙ sym (ap₂ (λ xs last. layout xs ++ (gap_below last items ++ layout items)) is there))

  one_more : (s t : Bytes) (before out : Drafted) (above : Option Item) (below : Item) (items : List Item) (first ends : Bool) → is_some above ≡ not first → IsBegun kind s before above true → ReadsAs (of_kind kind) t items (not first) ends → IsAppended before above items out below
      → length (s ++ t) ≤ limit → IsFormattedAs (of_kind kind) (s ++ t) out below ends
  one_more s t before out above below items first ends at_first (inl (none, empty, is)) (m, reads, says, follows, closes) k le = record {
    items = items;
    reads = (m, subst (λ z. (of_kind kind).reads (z ++ t) m) (sym none) reads, says, λ e. absurd cc, closes);
    laid_out = subst (λ z. IsAppended z None items out below) empty (subst (λ last. IsAppended before last items out below) is k);
  }
  one_more s t before out above below items first ends at_first (inr (item, is, h)) (m, reads, says, follows, closes) k le =
      let (n, own, seen, begin, closed) = h.reads in
      let (new, read, both, joins) = texts_join views suites build apart kind s t n m (closed refl) (follows (sym at_first ∙ ap is_some is)) own reads le in
      record {
        items = h.items ++ items;
        reads = (new, read, ap₂ (λ xs ys. xs ++ ys) seen says ∙ sym both, λ e. absurd cc, λ e. joins (closes e));
        laid_out = record {
          formatted = k.formatted ∙ (ap (λ z. pushed z (gap_below above items ++ layout items)) h.laid_out.formatted ∙ (pushed_twice (drafted limit []) (layout h.items) (gap_below above items ++ layout items)
              ∙ sym (ap (pushed (drafted limit [])) (laid_both above item h.items items h.laid_out.last.0 is h.laid_out.last.1))));
          shallow = depths h.items items depth_limit h.laid_out.shallow k.shallow;
          last = (h.items ++ k.last.0, ap (λ xs. h.items ++ xs) k.last.1 ∙ sym (append_assoc h.items k.last.0 (below ∷ [])));
        };
      }

  -- the same of a text that is read from its begin on
  pub next_begun : (text : Bytes) (before out : Drafted) (at len : ℕ) (above : Option Item) (below : Item) (items : List Item) (ends first more : Bool) → at ≤ length text → is_some above ≡ not first → IsBegun kind (take at text) before above ends → ends ≡ true
      → ReadsAs (of_kind kind) (take len (take (length text - at) (drop at text))) items (not first) more → IsAppended before above items out below → length text ≤ limit → IsBegun kind (take (at + len) text) out (Some below) more
  next_begun text before out at len above below items ends first more inside at_first h e r k le =
      let own : ReadsAs (of_kind kind) (take len (drop at text)) items (not first) more = subst (λ z. ReadsAs (of_kind kind) (take len z) items (not first) more) (whole_rest text at inside) r in
      let whole : take (at + len) text ≡ take at text ++ take len (drop at text) = take-add at len text in
      let short : length (take at text ++ take len (drop at text)) ≤ limit = subst (λ z. length z ≤ limit) whole (omega (arith, length-take (at + len) text, le)) in
      subst (λ z. IsBegun kind z out (Some below) more) (sym whole)
      (inr (below, refl, one_more (take at text) (take len (drop at text)) before out above below items first more at_first (subst (IsBegun kind (take at text) before above) e h) own k short))

pub still_within : (text : Bytes) (at len : ℕ) → at ≤ length text → len ≤ length (take (length text - at) (drop at text)) → at + len ≤ length text
still_within text at len inside h = omega (arith, inside, h, ap length (whole_rest text at inside), length-drop at text)

-- a text that is not empty, up to its end
pub whole_formatted : (kind : FileKind) (text : Bytes) (out : Drafted) (at : ℕ) (last : Option Item) (ends : Bool) → IsBegun kind (take at text) out last ends → at ≤ length text → length text ≤ at → 0 < length text
    → (item : Item) × (b : Bool) × IsFormattedAs (of_kind kind) text out item b
whole_formatted kind text out at last ends g a b some =
    let all : at ≡ length text = omega (arith, a, b) in
    elim (subst (λ z. IsBegun kind z out last ends) (ap (λ n. take n text) all ∙ take-length text) g) [
      | inl none ↦ let never = ap length none.0 in absurd omega (arith, never, some)
      | inr h ↦ (h.0, ends, h.2)
    ]

-- ---- what formatting a text answers

module _ (proper : ViewsAreProper) (keeps : FlagsKeepLayout) (accepted : LayoutIsAccepted) (back : LayoutReadsBack) where
  pub answered_text : (kind : FileKind) (text out : Bytes) (items : List Item) (follows ends : Bool) → ReadsAs (of_kind kind) text items follows ends → out ≡ layout items → length (layout items) ≤ limit
      → depth_of (laid_out items) ≤ depth_limit → (of_kind kind).formats text (Ok out)
  answered_text Build text out items follows ends (tree, reads, says, below, above) is short shallow =
      (tree, reads, sym (written_given (view_of tree) items out says is short shallow None))
  answered_text Suites text out items follows ends (tree, reads, says, below, above) is short shallow = laid_out_given keeps proper accepted back text out tree items reads says is short shallow

  -- the text that is made chunk by chunk, where it is within the limit
  pub answered_chunks : (kind : FileKind) (text bytes out : Bytes) (draft : Drafted) (last : Item) (ends : Bool) → (h : IsFormattedAs (of_kind kind) text draft last ends) → out ≡ bytes
      → (bytes ≡ layout h.items) × (length bytes ≤ limit) → (of_kind kind).formats text (Ok out)
  answered_chunks kind text bytes out draft last ends h same (is, short) = answered_text kind text out h.items false ends h.reads (same ∙ is) (subst (λ t. length t ≤ limit) is short) h.laid_out.shallow

pub answered_too_large : FlagsKeepLayout → (kind : FileKind) (text : Bytes) (items : List Item) (follows ends : Bool) → ReadsAs (of_kind kind) text items follows ends → limit < length (layout items)
    → (of_kind kind).formats text (Err f.TooLarge)
answered_too_large keeps Build text items follows ends (tree, reads, says, below, above) long = (tree, reads, sym (written_too_large (view_of tree) items says long None))
answered_too_large keeps Suites text items follows ends (tree, reads, says, below, above) long =
    (tree, reads, subst (λ xs. limit < length (layout (flags xs))) says (subst (λ t. limit < length t) (sym (keeps items).0) long))

pub answered_too_deep : ViewsAreProper → FlagsKeepLayout → LayoutIsTooDeep → (kind : FileKind) (text : Bytes) (items : List Item) (follows ends : Bool) → ReadsAs (of_kind kind) text items follows ends
    → (length (layout items) ≤ limit) × (depth_limit < depth_of (laid_out items)) → (of_kind kind).formats text (Err f.TooDeep)
answered_too_deep proper keeps no_tree Build text items follows ends (tree, reads, says, below, above) (short, deep) = (tree, reads, sym (written_too_deep (view_of tree) items says short deep None))
answered_too_deep proper keeps no_tree Suites text items follows ends (tree, reads, says, below, above) (short, deep) =
    let good : IsProper items = subst (λ (xs : List Item). IsProper xs) (sym says) (proper tree reads.0) in
    let same = (keeps items).0 in
    let own = subst (λ xs. (length (layout (flags xs)) ≤ limit) × (depth_limit < depth_of (laid_out (flags xs))) × NoBzlTree (layout (flags xs))) says
    (subst (λ t. length t ≤ limit) (sym same) short, subst (λ n. depth_limit < depth_of n) (sym (keeps items).1) deep, subst NoBzlTree (sym same) (no_tree items good deep)) in
    (tree, reads, own.0, own.1, own.2)

no_memory : (kind : FileKind) (text : Bytes) → (of_kind kind).formats text (Err f.Memory)
no_memory Build text = tt
no_memory Suites text = tt

pub answered_fault : (kind : FileKind) (text : Bytes) (fault : ReadFault) (answered : FormatFault) → ((answered ≡ f.Unread fault) × (fault ≡ r.Memory → ⊥)) ⊎ (answered ≡ f.Memory)
    → ((fault ≡ r.Memory → ⊥) → (of_kind kind).formats text (Err (f.Unread fault))) → (of_kind kind).formats text (Err answered)
answered_fault kind text fault answered (inl (is, other)) unread = subst (λ a. (of_kind kind).formats text (Err a)) (sym is) (unread other)
answered_fault kind text fault answered (inr is) unread = subst (λ a. (of_kind kind).formats text (Err a)) (sym is) (no_memory kind text)
