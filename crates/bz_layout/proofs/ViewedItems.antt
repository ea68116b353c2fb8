-- A sequence that is laid out reads back: its items with their comments, its end comments, and split where it was broken.
use Rattle.bz_layout.proofs.Words.{[], ◌++◌, ◌||◌, ◌∙◌, ◌∷◌, ◌≡◌, after_first_line, all_in, AllByRecursion, and_parts, ap, append-nil, Bool, Bytes, Class as c, comma, comments_in, comments_of, drop, ended, Expr, false, first_comment, first_seen_gap, firsts, has_break, has_comments, has_newline, headed, HostComments, if◌then◌else◌, is_broken_in, is_empty, is_split, IsComment, item_in, item_margin, items_in, joined, Kind, leaf_seen, length, Lines, lines_of, List, loose_after, loose_in, map, margin_lines, MaybeComment, new_line_at, no_comments, None, not-false, Option, or_parts, others_in, PartAt, Piece, plain, refl, Seen, seen, some_newline, space, stacked, suc, suffix_in, suffix_text, sym, take, true, with_flags_in, ℕ}
use Rattle.bz_layout.proofs.{Gapped.ended_line, Gapped.commented, Gapped.commented_back, Gapped.suffix_indent, Gapped.lines_item, Gapped.lines_end, Made.two, Readable.AreHeads, Readable.AreItems, Viewed.SeenAs, Viewed.Reads, Viewed.look, Viewed.settled}
use Rattle.bz_layout.proofs.Ends.{by_followed, not_alone, no_suffix, no_values}

-- a mark with nothing before it
abbrev bare_mark : ℕ → Seen
bare_mark character = leaf_seen (record { class = c.Mark; gap = []; token = character ∷ [] })

abbrev Begun : List Seen → Type 0
Begun [] = ⊥
Begun (s ∷ ss) = Unit {0}

-- an item, its comma, and what follows
item_step : (margin_lines : List Bytes) (s : Seen) (rest : List Seen) (suffix : Option Bytes) (texts : List Bytes) (x : Expr) (found : List Expr × List Bytes) → Begun rest → suffix_in (first_seen_gap rest) ≡ suffix → others_in (first_seen_gap rest) ≡ texts →
    s.make (record { before = margin_lines ++ s.loose; suffix = suffix }) false ≡ x → items_in texts rest ≡ found → item_in margin_lines s (bare_mark comma ∷ rest) ≡ (x ∷ found.0, found.1)
item_step margin_lines s [] suffix texts x found b a o e i = absurd b
item_step margin_lines s (t ∷ ss) suffix texts x found b a o e i =
    let out : Option Bytes → List Bytes → List Expr × List Bytes = (λ z w. (s.make (record { before = margin_lines ++ s.loose; suffix = z }) false ∷ (item_in w t ss).0, (item_in w t ss).1)) in
    ap (λ z. out z (others_in t.gap)) a ∙ (ap (λ w. out suffix w) o ∙ (ap (λ y. (s.make (record { before = margin_lines ++ s.loose; suffix = suffix }) false ∷ y.0, y.1)) i ∙ ap (λ w. (w ∷ found.0, found.1)) e))

-- ---- not broken

-- the gap before the sequence says nothing
abbrev IsQuiet : Bytes → Type 0
IsQuiet g = lines_of g ≡ []

-- ---- broken

-- the comments above the first item, or the end comments
abbrev fore : List Expr → List Bytes → List Bytes
fore [] end = end
fore (x ∷ xs) end = (comments_of x).before

split_first : (ss : List Seen) → Begun ss → has_newline (first_seen_gap ss) ≡ true → is_split ss ≡ true
split_first [] b h = absurd b
split_first (s ∷ ss) b h = ap (λ z. z || is_split ss) h

-- ---- what is in brackets

without_comments : (n : HostComments) → n.before ≡ [] → n.suffix ≡ None → n ≡ no_comments
without_comments n b s = ap (λ z. let r : HostComments = record { before = z; suffix = n.suffix } in r) b ∙ ap (λ z. let r : HostComments = record { before = []; suffix = z } in r) s

bare_items : (xs : List Expr) → AreItems xs → has_comments xs ≡ false → AreHeads xs
bare_items [] h e = tt
bare_items (x ∷ xs) h e =
    let o = or_parts _ (has_comments xs) e in
    let n = and_parts _ _ (not-false _ o.0) in
    (without_comments (comments_of x) (no_values _ n.0) (no_suffix _ n.1), h.2, bare_items xs h.3 o.1)

-- ---- what is before the bracket

-- the space between two parts of it
abbrev between : List (Expr × PartAt) → Bytes
between xs = if is_empty xs then [] else (space ∷ [])

between_bare : (xs : List (Expr × PartAt)) → all_in (between xs) ≡ []
between_bare [] = refl
between_bare (x ∷ xs) = refl

pub headed_drop : (m : ℕ) (g : Bytes) (opener : ℕ) (hs : List (Expr × PartAt)) (body : List (Piece PartAt)) → drop (suc (length (firsts hs))) (look (headed m g opener hs body)) ≡ look body
headed_drop m g opener [] body = refl
headed_drop m g opener (x ∷ xs) body = headed_drop m (between xs) opener xs body

-- the last item, right before the closing bracket
last_step : (above : List Bytes) (s closing : Seen) (suffix : Option Bytes) (texts : List Bytes) (x : Expr) → suffix_in closing.gap ≡ suffix → others_in closing.gap ≡ texts → s.make (record { before = above ++ s.loose; suffix = suffix }) false ≡ x →
    item_in above s (closing ∷ []) ≡ (x ∷ [], texts)
last_step above s closing suffix texts x a o e =
    two (λ z w. let all : List Expr × List Bytes = (s.make (record { before = above ++ s.loose; suffix = z }) false ∷ [], w) in all) a o ∙ ap (λ y. (y ∷ [], texts)) e

module _ (mode : Lines) where
  -- ---- not broken

  bare_made : (x : Expr × PartAt) (g : Bytes) (m : ℕ) → SeenAs mode x → comments_of x.0 ≡ no_comments → has_break x.0 ≡ false → (seen (x.1 g m)).make (record { before = [] ++ (seen (x.1 g m)).loose; suffix = None }) false ≡ with_flags_in mode x.0
  bare_made x g m r n b =
      let s : Seen = seen (x.1 g m) in
      ap (λ l. s.make (record { before = l; suffix = None }) false) (r.loose g m) ∙ (ap (λ z. s.make no_comments z) (sym b) ∙ (ap (λ z. s.make z (has_break x.0)) (sym n) ∙ r.value g m))

  joined_lines : (m : ℕ) (g : Bytes) (closer : ℕ) (one : Bool) (xs : List (Expr × PartAt)) → Reads mode xs → IsQuiet g → IsQuiet (first_seen_gap (look (joined m g closer one xs)))
  joined_lines m g closer one [] r q = refl
  joined_lines m g closer one (x ∷ xs) r q = ap lines_of (r.0.gap g m) ∙ q

  joined_back : (m : ℕ) (g : Bytes) (closer : ℕ) (one : Bool) (xs : List (Expr × PartAt)) → Reads mode xs → AreHeads (firsts xs) → items_in [] (look (joined m g closer one xs)) ≡ (settled mode xs, [])
  joined_back m g closer one [] r bare = refl
  joined_back m g closer true (x ∷ []) r bare = item_step [] (seen (x.1 g m)) (bare_mark closer ∷ []) None [] (with_flags_in mode x.0) ([], []) tt refl refl (bare_made x g m r.0 bare.0 bare.1) refl
  joined_back m g closer false (x ∷ []) r bare = ap (λ z. (z ∷ [], [])) (bare_made x g m r.0 bare.0 bare.1)
  joined_back m g closer one (x ∷ y ∷ ys) r bare =
      let rest : List Seen = look (joined m (space ∷ []) closer false (y ∷ ys)) in
      let quiet : IsQuiet (first_seen_gap rest) = joined_lines m (space ∷ []) closer false (y ∷ ys) r.1 refl in
      item_step [] (seen (x.1 g m)) rest None [] (with_flags_in mode x.0) (settled mode (y ∷ ys), []) tt (ap first_comment quiet) (ap (λ z. comments_in (after_first_line z)) quiet) (bare_made x g m r.0 bare.0 bare.1)
      (joined_back m (space ∷ []) closer false (y ∷ ys) r.1 bare.2)

  joined_split : (m : ℕ) (g : Bytes) (closer : ℕ) (one : Bool) (xs : List (Expr × PartAt)) → Reads mode xs → IsQuiet g → is_split (look (joined m g closer one xs)) ≡ false
  joined_split m g closer one [] r q = refl
  joined_split m g closer true (x ∷ []) r q = ap (λ z. has_newline z || false) (r.0.gap g m) ∙ ap (λ z. some_newline z || false) q
  joined_split m g closer false (x ∷ []) r q = ap (λ z. has_newline z || false) (r.0.gap g m) ∙ ap (λ z. some_newline z || false) q
  joined_split m g closer one (x ∷ y ∷ ys) r q =
      let rest : Bool = is_split (look (joined m (space ∷ []) closer false (y ∷ ys))) in
      ap (λ z. has_newline z || rest) (r.0.gap g m) ∙ (ap (λ z. some_newline z || rest) q ∙ joined_split m (space ∷ []) closer false (y ∷ ys) r.1 refl)

  -- ---- broken

  stacked_lines : (kind : Kind) (n m : ℕ) (suffix : Option Bytes) (closer : ℕ) (end : List Bytes) (xs : List (Expr × PartAt)) → Reads mode xs → MaybeComment suffix → AllByRecursion IsComment end → AreItems (firsts xs) →
      lines_of (first_seen_gap (look (stacked mode kind n m suffix closer end xs))) ≡ ended_line (suffix_indent suffix) suffix ∷ commented n (fore (firsts xs) end)
  stacked_lines kind n m suffix closer end [] r s e h = lines_end suffix end n m s e
  stacked_lines kind n m suffix closer end (x ∷ xs) r s e h =
      ap lines_of (r.0.gap (suffix_text suffix ++ (new_line_at n ++ margin_lines n (comments_of x.0).before)) n) ∙ lines_item suffix (comments_of x.0).before n s h.0

  stacked_begun : (kind : Kind) (n m : ℕ) (suffix : Option Bytes) (closer : ℕ) (end : List Bytes) (xs : List (Expr × PartAt)) → Begun (look (stacked mode kind n m suffix closer end xs))
  stacked_begun kind n m suffix closer end [] = tt
  stacked_begun kind n m suffix closer end (x ∷ xs) = tt

  item_made : (x : Expr × PartAt) (g : Bytes) (m : ℕ) → SeenAs mode x → has_break x.0 ≡ false →
      (seen (x.1 g m)).make (record { before = (comments_of x.0).before ++ (seen (x.1 g m)).loose; suffix = (comments_of x.0).suffix }) false ≡ with_flags_in mode x.0
  item_made x g m r b =
      let s : Seen = seen (x.1 g m) in
      let own : HostComments = comments_of x.0 in
      ap (λ l. s.make (record { before = own.before ++ l; suffix = own.suffix }) false) (r.loose g m) ∙
      (ap (λ l. s.make (record { before = l; suffix = own.suffix }) false) (append-nil own.before) ∙ (ap (λ z. s.make own z) (sym b) ∙ r.value g m))

  -- an item and its comma, before what is below
  comma_back : (kind : Kind) (n m : ℕ) (g : Bytes) (closer : ℕ) (end : List Bytes) (x : Expr × PartAt) (xs : List (Expr × PartAt)) → SeenAs mode x → Reads mode xs → AllByRecursion IsComment end → AreItems (firsts (x ∷ xs)) →
      items_in (fore (firsts xs) end) (look (stacked mode kind n m (comments_of x.0).suffix closer end xs)) ≡ (settled mode xs, end) →
      item_in (comments_of x.0).before (seen (x.1 g n)) (bare_mark comma ∷ look (stacked mode kind n m (comments_of x.0).suffix closer end xs)) ≡ (settled mode (x ∷ xs), end)
  comma_back kind n m g closer end x xs r rs e h below =
      let own : HostComments = comments_of x.0 in
      let lines = stacked_lines kind n m own.suffix closer end xs rs h.1 e h.3 in
      item_step own.before (seen (x.1 g n)) (look (stacked mode kind n m own.suffix closer end xs)) own.suffix (fore (firsts xs) end) (with_flags_in mode x.0) (settled mode xs, end)
      (stacked_begun kind n m own.suffix closer end xs) (ap first_comment lines) (ap (λ z. comments_in (after_first_line z)) lines ∙ commented_back n (fore (firsts xs) end)) (item_made x g n r h.2) below

  stacked_back : (kind : Kind) (n m : ℕ) (suffix : Option Bytes) (closer : ℕ) (end : List Bytes) (xs : List (Expr × PartAt)) → Reads mode xs → MaybeComment suffix → AllByRecursion IsComment end → AreItems (firsts xs) →
      items_in (fore (firsts xs) end) (look (stacked mode kind n m suffix closer end xs)) ≡ (settled mode xs, end)
  stacked_back kind n m suffix closer end [] r s e h = refl
  stacked_back kind n m suffix closer end (x ∷ []) r s e h =
      let own : HostComments = comments_of x.0 in
      let gap : Bytes = suffix_text suffix ++ (new_line_at n ++ margin_lines n own.before) in
      let lines = stacked_lines kind n m own.suffix closer end [] tt h.1 e tt in
      by_followed (λ ps. item_in own.before (seen (x.1 gap n)) (look ps) ≡ (with_flags_in mode x.0 ∷ [], end)) mode kind x.0 [] end closer (stacked mode kind n m own.suffix closer end [])
      (λ closed. last_step own.before (seen (x.1 gap n)) (bare_mark closer) own.suffix end (with_flags_in mode x.0) (sym closed.bare) (sym closed.ends) (item_made x gap n r.0 h.2))
      (λ bare. last_step own.before (seen (x.1 gap n)) (leaf_seen (record { class = c.Mark; gap = suffix_text own.suffix ++ ended n m end; token = closer ∷ [] })) own.suffix end (with_flags_in mode x.0)
      (ap first_comment lines) (ap (λ z. comments_in (after_first_line z)) lines ∙ commented_back n end) (item_made x gap n r.0 h.2))
      (comma_back kind n m gap closer end x [] r.0 tt e h refl)
  stacked_back kind n m suffix closer end (x ∷ y ∷ ys) r s e h =
      let own : HostComments = comments_of x.0 in
      let gap : Bytes = suffix_text suffix ++ (new_line_at n ++ margin_lines n own.before) in
      by_followed (λ ps. item_in own.before (seen (x.1 gap n)) (look ps) ≡ (settled mode (x ∷ y ∷ ys), end)) mode kind x.0 (y.0 ∷ firsts ys) end closer (stacked mode kind n m own.suffix closer end (y ∷ ys))
      (λ closed. absurd (not_alone y.0 (firsts ys) closed.last.alone))
      (λ bare. absurd (not_alone y.0 (firsts ys) bare.alone))
      (comma_back kind n m gap closer end x (y ∷ ys) r.0 r.1 e h (stacked_back kind n m own.suffix closer end (y ∷ ys) r.1 h.1 e h.3))

  -- ---- what is in brackets

  abbrev pub body_of : Bool → Bool → Kind → ℕ → ℕ → List Bytes → List (Expr × PartAt) → List (Piece PartAt)
  body_of broken one kind m closer end xs = if broken then stacked mode kind (item_margin mode kind m) m None closer end xs else joined m [] closer one xs

  -- what is seen of a sequence: its items and end comments; split where it was broken
  pub record BodyBack (body : List Seen) (xs : List (Expr × PartAt)) (end : List Bytes) (broken : Bool) : Type 0 where
    pub found : items_in (all_in (first_seen_gap body)) body ≡ (settled mode xs, end)
    pub split : is_split body ≡ broken

  pub body_back : (broken one : Bool) (kind : Kind) (split : Bool) (m closer : ℕ) (end : List Bytes) (xs : List (Expr × PartAt)) → Reads mode xs → AllByRecursion IsComment end → AreItems (firsts xs) → is_broken_in mode kind split (firsts xs) end ≡ broken →
      BodyBack (look (body_of broken one kind m closer end xs)) xs end broken
  body_back true one kind split m closer end xs r e h b =
      let n : ℕ = item_margin mode kind m in
      let lines = stacked_lines kind n m None closer end xs r tt e h in
      let body : List Seen = look (stacked mode kind n m None closer end xs) in
      record {
        found = ap (λ z. items_in (comments_in z) body) lines ∙ (ap (λ z. items_in z body) (commented_back n (fore (firsts xs) end)) ∙ stacked_back kind n m None closer end xs r tt e h);
        split = split_first body (stacked_begun kind n m None closer end xs) (ap some_newline lines);
      }
  body_back false one kind split m closer end xs r e h b =
      let o = or_parts (has_comments (firsts xs)) _ b in
      let none : end ≡ [] = no_values end (not-false _ (or_parts _ _ o.1).0) in
      let body : List Seen = look (joined m [] closer one xs) in
      record {
        found = ap (λ z. items_in (comments_in z) body) (joined_lines m [] closer one xs r refl) ∙ (joined_back m [] closer one xs r (bare_items (firsts xs) h o.0) ∙ ap (λ z. (settled mode xs, z)) (sym none));
        split = joined_split m [] closer one xs r refl;
      }

  -- ---- what is before the bracket

  pub headed_gap : (m : ℕ) (g : Bytes) (opener : ℕ) (hs : List (Expr × PartAt)) (body : List (Piece PartAt)) → Reads mode hs → first_seen_gap (look (headed m g opener hs body)) ≡ g
  headed_gap m g opener [] body r = refl
  headed_gap m g opener (x ∷ xs) body r = r.0.gap g m

  pub head_made : (x : Expr × PartAt) (g : Bytes) (m : ℕ) → SeenAs mode x → comments_of x.0 ≡ no_comments → has_break x.0 ≡ false → plain (seen (x.1 g m)) ≡ with_flags_in mode x.0
  head_made x g m r c b = let s : Seen = seen (x.1 g m) in ap (λ z. s.make no_comments z) (sym b) ∙ (ap (λ z. s.make z (has_break x.0)) (sym c) ∙ r.value g m)

  pub headed_take : (m : ℕ) (g : Bytes) (opener : ℕ) (hs : List (Expr × PartAt)) (body : List (Piece PartAt)) → Reads mode hs → AreHeads (firsts hs) → map plain (take (length (firsts hs)) (look (headed m g opener hs body))) ≡ settled mode hs
  headed_take m g opener [] body r h = refl
  headed_take m g opener (x ∷ xs) body r h =
      ap (λ z. z ∷ map plain (take (length (firsts xs)) (look (headed m (between xs) opener xs body)))) (head_made x g m r.0 h.0 h.1) ∙ ap (λ z. with_flags_in mode x.0 ∷ z) (headed_take m (between xs) opener xs body r.1 h.2)

  headed_after : (m : ℕ) (g : Bytes) (opener : ℕ) (hs : List (Expr × PartAt)) (body : List (Piece PartAt)) → Reads mode hs → all_in g ≡ [] → loose_after (take (suc (length (firsts hs))) (look (headed m g opener hs body))) ≡ []
  headed_after m g opener [] body r e = ap (λ z. (z ++ []) ++ []) e
  headed_after m g opener (x ∷ xs) body r e =
      let s : Seen = seen (x.1 g m) in
      let rest : List Bytes = loose_after (take (suc (length (firsts xs))) (look (headed m (between xs) opener xs body))) in
      ap (λ z. (all_in z ++ s.loose) ++ rest) (r.0.gap g m) ∙ (two (λ z w. (z ++ w) ++ rest) e (r.0.loose g m) ∙ headed_after m (between xs) opener xs body r.1 (between_bare xs))

  pub headed_loose : (m : ℕ) (g : Bytes) (opener : ℕ) (hs : List (Expr × PartAt)) (body : List (Piece PartAt)) → Reads mode hs → loose_in (take (suc (length (firsts hs))) (look (headed m g opener hs body))) ≡ []
  headed_loose m g opener [] body r = refl
  headed_loose m g opener (x ∷ xs) body r = ap (λ z. z ++ loose_after (take (suc (length (firsts xs))) (look (headed m (between xs) opener xs body)))) (r.0.loose g m) ∙ headed_after m (between xs) opener xs body r.1 (between_bare xs)
