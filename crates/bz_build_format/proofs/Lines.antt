-- Lines of texts: of one that is read, of one after another, and of parts of a legal file.
use Rattle.bz_build_format.proofs.Words.{[], ◌++◌, ◌+◌, ◌<◌, ◌∙◌, ◌∷◌, ◌≡◌, ◌≤◌, ap, append-nil, append_assoc, AreWholeLines, arith, bare_end, Bytes, drop, EndsWithLine, file_with, flat_map, flat_map-append, last_token, Leaf, leaves_Node, leaves_part, LegalBuild, length, length-drop, limit, LinesJoin, LinesSplit, List, MatchOption, Node, None, Option, Part, ReadAsLines, Reads, refl, same_from_push, Some, spell_node, spell_part, spelled_parts, subst, sym, take, take-append-drop, ℕ}
use Rattle.bz_items.specs.Characters.{line_feed}
use Rattle.bz_grammar.specs.declared.tree.Part.TheVariants as p
use Rattle.bz_hosts.proofs.JoinedLines.{last_after, whole_both}

-- ---- whole lines

pub whole_lines : (ps front own : List Part) (x : Part) (line : Node) → ps ≡ front ++ x ∷ [] → x ≡ p.Node line → own ≡ line.parts → (before : List Part) × (newline : Leaf) × (own ≡ before ++ p.Leaf newline ∷ []) × (newline.token ≡ line_feed ∷ []) → AreWholeLines ps
whole_lines ps front own x line is node same (before, newline, at, feed) =
    let last : leaves_part (p.Node line) ≡ flat_map leaves_part before ++ newline ∷ [] = leaves_Node line ∙ (ap (flat_map leaves_part) (sym same ∙ at) ∙ flat_map-append leaves_part before (p.Leaf newline ∷ [])) in
    let all : flat_map leaves_part (front ++ p.Node line ∷ []) ≡ (flat_map leaves_part front ++ flat_map leaves_part before) ++ newline ∷ [] =
    flat_map-append leaves_part front (p.Node line ∷ [])
    ∙ (ap (λ ls. flat_map leaves_part front ++ ls) (append-nil (leaves_part (p.Node line)) ∙ last) ∙ sym (append_assoc (flat_map leaves_part front) (flat_map leaves_part before) (newline ∷ []))) in
    ap (λ xs. last_token (flat_map leaves_part xs)) (is ∙ ap (λ z. front ++ z ∷ []) node) ∙ (ap last_token all ∙ (last_after (flat_map leaves_part front ++ flat_map leaves_part before) newline ∙ feed))

-- ---- the lines of a text

popped : (old new lines : List Part) (end : Part) (last : Option Part) → MatchOption last ((old ≡ []) × (new ≡ [])) (λ x. old ≡ new ++ x ∷ []) → old ≡ lines ++ end ∷ [] → new ≡ lines
popped old new [] end None h is = h.1
popped old new (x ∷ lines) end None h is = absurd cc (h.0, is)
popped old new lines end (Some x) h is = (same_from_push new lines x end (sym h ∙ is)).0

-- ---- lines

bare_text : (xs : List Part) → spell_node (file_with (xs ++ bare_end ∷ [])) ≡ spelled_parts xs
bare_text xs = flat_map-append spell_part xs (bare_end ∷ []) ∙ append-nil (spelled_parts xs)

-- lines spell their text
pub lines_text : (text : Bytes) (xs : List Part) → ReadAsLines text xs → spelled_parts xs ≡ text
lines_text text xs h = sym (bare_text xs) ∙ h.1.1

module _ (join : LinesJoin) where
  -- a file after lines
  pub read_after : (s t : Bytes) (xs : List Part) (m : Node) → ReadAsLines s xs → Reads t m → length (s ++ t) ≤ limit → Reads (s ++ t) (file_with (xs ++ m.parts))
  read_after s t xs m h reads le = join s t (file_with (xs ++ bare_end ∷ [])) m xs _ refl h.0 refl h.1 reads le

  -- lines after lines
  pub lines_after : (s t : Bytes) (xs ys : List Part) → ReadAsLines s xs → ReadAsLines t ys → length (s ++ t) ≤ limit → ReadAsLines (s ++ t) (xs ++ ys)
  lines_after s t xs ys h g le =
      (whole_both xs ys h.0 g.0, subst (λ ps. Reads (s ++ t) (file_with ps)) (sym (append_assoc xs ys (bare_end ∷ []))) (read_after s t xs (file_with (ys ++ bare_end ∷ [])) h g.1 le))

  -- no lines
  pub no_lines : LegalBuild (file_with (bare_end ∷ [])) → ReadAsLines [] []
  no_lines h = (refl, (h, refl, omega arith))

  -- the lines of a tree that ends with a line, without its end
  pub lines_of_read : (text : Bytes) (tree : Node) (old new : List Part) (last : Option Part) → Reads text tree → EndsWithLine tree → old ≡ tree.parts
      → MatchOption last ((old ≡ []) × (new ≡ [])) (λ x. old ≡ new ++ x ∷ []) → LegalBuild (file_with (bare_end ∷ [])) → ReadAsLines text new
  lines_of_read text tree old new last reads ends own h bare =
      let same : new ≡ ends.lines = popped old new ends.lines (p.Leaf ends.end) last h (own ∙ ends.parts) in
      let le : length (text ++ []) ≤ limit = subst (λ t. length t ≤ limit) (sym (append-nil text)) reads.2 in
      let joined : Reads (text ++ []) (file_with (ends.lines ++ bare_end ∷ [])) =
      join text [] tree (file_with (bare_end ∷ [])) ends.lines ends.end ends.parts ends.whole ends.nothing reads (bare, refl, omega arith) le in
      subst (λ xs. ReadAsLines text xs) (sym same) (ends.whole, subst (λ t. Reads t (file_with (ends.lines ++ bare_end ∷ []))) (append-nil text) joined)

-- ---- parts of a legal file

module _ (split : LinesSplit) where
  bare_of : (xs : List Part) → 0 < length xs → LegalBuild (file_with xs) → LegalBuild (file_with (bare_end ∷ []))
  bare_of [] some h = absurd omega (arith, some)
  bare_of (x ∷ xs) some h = (split [] x xs h).0

  front_of : (xs ys : List Part) → 0 < length ys → LegalBuild (file_with (xs ++ ys)) → LegalBuild (file_with (xs ++ bare_end ∷ []))
  front_of xs [] some h = absurd omega (arith, some)
  front_of xs (y ∷ ys) some h = (split xs y ys h).0

  following : (xs ys : List Part) → 0 < length ys → LegalBuild (file_with (xs ++ ys)) → LegalBuild (file_with ys)
  following xs [] some h = absurd omega (arith, some)
  following xs (y ∷ ys) some h = (split xs y ys h).1

  -- a file without lines
  pub bare_legal : (n : ℕ) (ps : List Part) → n < length ps → LegalBuild (file_with ps) → LegalBuild (file_with (bare_end ∷ []))
  bare_legal n ps lt h = bare_of ps (omega (arith, lt)) h

  -- what is after lines
  pub legal_after : (n : ℕ) (ps : List Part) → n < length ps → LegalBuild (file_with ps) → LegalBuild (file_with (drop n ps))
  legal_after n ps lt h = following (take n ps) (drop n ps) (omega (arith, lt, length-drop n ps)) (subst (λ qs. LegalBuild (file_with qs)) (sym (take-append-drop n ps)) h)

  -- the first lines
  pub first_lines : (n : ℕ) (ps : List Part) → n < length ps → LegalBuild (file_with ps) → AreWholeLines (take n ps) → length (spelled_parts (take n ps)) ≤ limit → ReadAsLines (spelled_parts (take n ps)) (take n ps)
  first_lines n ps lt h whole le =
      let front : LegalBuild (file_with (take n ps ++ bare_end ∷ [])) =
      front_of (take n ps) (drop n ps) (omega (arith, lt, length-drop n ps)) (subst (λ qs. LegalBuild (file_with qs)) (sym (take-append-drop n ps)) h) in
      (whole, (front, bare_text (take n ps), le))

  -- lines that follow others
  pub next_lines : (m n : ℕ) (ps : List Part) → m + n < length ps → LegalBuild (file_with ps) → AreWholeLines (take n (drop m ps)) → length (spelled_parts (take n (drop m ps))) ≤ limit
      → ReadAsLines (spelled_parts (take n (drop m ps))) (take n (drop m ps))
  next_lines m n ps lt h whole le = first_lines n (drop m ps) (omega (arith, lt, length-drop m ps)) (legal_after m ps (omega (arith, lt)) h) whole le
