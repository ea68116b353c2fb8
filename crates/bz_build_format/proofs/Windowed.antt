-- Windows of parts, read one after the other.
use Rattle.bz_build_format.proofs.Words.{[], ◌++◌, ◌+◌, ◌-◌, ◌<◌, ◌∙◌, ◌∷◌, ◌≡◌, ◌≤◌, Accepted, ap, append-nil, append_assoc, AreAmong, AreRead, AreTextsOf, AreThere, AreWholeLines, arith, bare_end, Bool, Bytes, drop, drop-cons, drop-drop, drop-take, drop_all, Err, file_with, flat_map-append, get_or, IfOk, inl, inr, IsBuild, IsPushed, IsPutAmong, Legal, LegalBuild, length, length-append, length-drop, length-take, limit, LinesJoin, LinesSplit, List, nat_eq, nat_tests, nil_from_length, Node, Ok, OneReading, Part, PartWindow, put_in, ReadAsLines, Reads, refl, Result, Some, spell_node, spell_part, spelled_parts, subst, suc, sym, take, take-add, take-append-drop, take-append_seam, take-take, take_all, text_with, TextWindow, true, window_parts, with_windows, ℕ}
use Rattle.std.specs.Result.{result_ok}
use Rattle.std.proofs.lemmas.Option.{same_Some}
use Rattle.bz_build_format.proofs.Lines.{bare_legal, first_lines, legal_after, lines_after, lines_text, next_lines, no_lines, read_after}

-- ---- texts around a window

-- the window of this many parts, with these in their place
abbrev window : ℕ → ℕ → List Part → PartWindow
window from gone lines = record { from = from; gone = gone; parts = lines }

text_append : (xs ys : List Part) → spelled_parts (xs ++ ys) ≡ spelled_parts xs ++ spelled_parts ys
text_append xs ys = flat_map-append spell_part xs ys

-- a text after parts of which it begins with more
pub further_text : (from at reach : ℕ) (parts : List Part) (text rest : Bytes) → at ≤ length (take (reach - from) (drop from parts)) → text ≡ spelled_parts (take at (take (reach - from) (drop from parts))) ++ rest
    → spelled_parts (take from parts) ++ text ≡ spelled_parts (take (from + at) parts) ++ rest
further_text from at reach parts text rest passed begins =
    let first : take at (take (reach - from) (drop from parts)) ≡ take at (drop from parts) = take-take at (reach - from) (drop from parts) (omega (arith, passed, length-take (reach - from) (drop from parts))) in
    ap (λ t. spelled_parts (take from parts) ++ t) (begins ∙ ap (λ ps. spelled_parts ps ++ rest) first)
    ∙ (sym (append_assoc (spelled_parts (take from parts)) (spelled_parts (take at (drop from parts))) rest)
    ∙ sym (ap (λ t. t ++ rest) (ap spelled_parts (take-add from at parts) ∙ text_append (take from parts) (take at (drop from parts)))))

-- what is between parts that stay at both ends of those of a window, among others
pub cut_so : (from at count reach : ℕ) (parts left : List Part) (text rest middle : Bytes) → at ≤ length (take (reach - from) (drop from parts)) → from ≤ reach → reach < length parts
    → left ≡ take (reach - (from + at)) (drop (from + at) parts) → count ≤ length left → text ≡ spelled_parts (take at (take (reach - from) (drop from parts))) ++ rest → rest ≡ middle ++ spelled_parts (drop (length left - count) left)
    → spelled_parts (take (from + at) parts) ++ (middle ++ spelled_parts (take (reach - (from + at + (length left - count))) (drop (from + at + (length left - count)) parts))) ≡ spelled_parts (take from parts) ++ text
cut_so from at count reach parts left text rest middle passed within inside own few begins ends =
    let lower : at ≤ reach - from = omega (arith, passed, length-take (reach - from) (drop from parts)) in
    let size : length left ≡ reach - (from + at) = ap length own ∙ omega (arith, length-take (reach - (from + at)) (drop (from + at) parts), length-drop (from + at) parts, inside) in
    let gone : ℕ = length left - count in
    let m : ℕ = reach - (from + at + gone) in
    let many : reach - (from + at) ≡ gone + m = omega (arith, size, few, lower, within) in
    let last : drop gone left ≡ take m (drop (from + at + gone) parts) =
    ap (drop gone) (own ∙ ap (λ k. take k (drop (from + at) parts)) many) ∙ (drop-take gone m (drop (from + at) parts) ∙ ap (take m) (drop-drop gone (from + at) parts)) in
    sym (further_text from at reach parts text rest passed begins ∙ ap (λ t. spelled_parts (take (from + at) parts) ++ t) (ends ∙ ap (λ ps. middle ++ spelled_parts ps) last))

-- one part less stays: what it spells is in front of the others
pub one_less_stays : (text beginning more : Bytes) (parts : List Part) (len : ℕ) → text ≡ beginning ++ spelled_parts parts → len ≡ length beginning + length (spelled_parts (take 1 parts)) → more ≡ take len text
    → text ≡ more ++ spelled_parts (drop 1 parts)
one_less_stays text beginning more parts len is count found =
    let next : Bytes = spelled_parts (take 1 parts) in
    let all : text ≡ (beginning ++ next) ++ spelled_parts (drop 1 parts) =
    is ∙ (ap (λ ps. beginning ++ spelled_parts ps) (sym (take-append-drop 1 parts)) ∙ (ap (λ t. beginning ++ t) (text_append (take 1 parts) (drop 1 parts)) ∙ sym (append_assoc beginning next (spelled_parts (drop 1 parts))))) in
    let front : more ≡ beginning ++ next =
    found ∙ (ap (λ k. take k text) (count ∙ sym (length-append beginning next)) ∙ (ap (take (length (beginning ++ next))) all ∙ take-append_seam (beginning ++ next) (spelled_parts (drop 1 parts)))) in
    all ∙ ap (λ t. t ++ spelled_parts (drop 1 parts)) (sym front)

-- one part less stays at the end of those of a window
pub less_kept : (left kept : List Part) (count : ℕ) (rest more : Bytes) → count ≤ length left → kept ≡ drop (length left - count) left → 0 < length kept → rest ≡ more ++ spelled_parts (drop 1 kept)
    → (count - 1 ≤ length left) × (rest ≡ more ++ spelled_parts (drop (length left - (count - 1)) left))
less_kept left kept count rest more few own some is =
    let size : length kept ≡ count = ap length own ∙ omega (arith, length-drop (length left - count) left, few) in
    let place : length left - count + 1 ≡ length left - (count - 1) = omega (arith, size, some, few) in
    (omega (arith, few), is ∙ ap (λ ps. more ++ spelled_parts ps) (ap (drop 1) own ∙ (drop-drop 1 (length left - count) left ∙ ap (λ k. drop k left) place)))

module _ (join : LinesJoin) (split : LinesSplit) where
  -- lines in the place of parts, among lines
  pub put_so : (reach from gone : ℕ) (parts lines : List Part) (text : Bytes) → from + gone ≤ reach → reach < length parts → LegalBuild (file_with parts)
      → AreWholeLines (take from parts) → AreWholeLines (take (reach - (from + gone)) (drop (from + gone) parts)) → (LegalBuild (file_with (bare_end ∷ [])) → ReadAsLines text lines)
      → IsPutAmong reach parts (window from gone lines) (spelled_parts (take from parts) ++ (text ++ spelled_parts (take (reach - (from + gone)) (drop (from + gone) parts))))
  put_so reach from gone parts lines text le lt h whole also own =
      let before : Bytes = spelled_parts (take from parts) in
      let behind : List Part = take (reach - (from + gone)) (drop (from + gone) parts) in (
        le,
        λ short.
            let all : length before + length (text ++ spelled_parts behind) ≤ limit = omega (arith, short, length-append before (text ++ spelled_parts behind)) in
            let two : length text + length (spelled_parts behind) ≤ limit = omega (arith, all, length-append text (spelled_parts behind)) in
            let first : ReadAsLines before (take from parts) = first_lines split from parts (omega (arith, le, lt)) h whole (omega (arith, all)) in
            let last : ReadAsLines (spelled_parts behind) behind = next_lines split (from + gone) (reach - (from + gone)) parts (omega (arith, le, lt)) h also (omega (arith, two)) in
            lines_after join before (text ++ spelled_parts behind) (take from parts) (lines ++ behind) first
            (lines_after join text (spelled_parts behind) lines behind (own (bare_legal split reach parts lt h)) last (omega (arith, all))) short,
      )

  -- lines in the place of parts, before the end of a file
  pub end_kept : (reach : ℕ) (parts : List Part) (end : Part) (text before : Bytes) (w : PartWindow) → reach ≡ length parts - 1 → reach < length parts → end ≡ get_or parts reach end → text ≡ before ++ spell_part end → LegalBuild (file_with parts)
      → IsPutAmong reach parts w before → length text ≤ limit → AreRead text (w ∷ []) parts
  end_kept reach parts end text before w size inside is ends h put le =
      let tail : List Part = drop reach parts in
      let last : tail ≡ end ∷ [] = drop-cons parts reach end inside ∙ (ap (λ x. x ∷ drop (suc reach) parts) (sym is) ∙ ap (λ ps. end ∷ ps) (drop_all (suc reach) parts (omega (arith, size)))) in
      let all : text ≡ before ++ spelled_parts tail = ends ∙ (ap (λ t. before ++ t) (sym (append-nil (spell_part end))) ∙ ap (λ ps. before ++ spelled_parts ps) (sym last)) in
      let short : length (before ++ spelled_parts tail) ≤ limit = subst (λ t. length t ≤ limit) all le in
      let two : length before + length (spelled_parts tail) ≤ limit = omega (arith, short, length-append before (spelled_parts tail)) in
      let own : Reads (spelled_parts tail) (file_with tail) = (legal_after split reach parts inside h, refl, omega (arith, two)) in
      let place : ℕ = w.from + w.gone in
      let m : ℕ = reach - place in
      let count : place + m ≡ reach = omega (arith, put.0) in
      let cut : drop place parts ≡ take m (drop place parts) ++ tail =
      sym (ap (λ ps. take m (drop place parts) ++ ps) (sym (drop-drop m place parts ∙ ap (λ k. drop k parts) count)) ∙ take-append-drop m (drop place parts)) in
      let new : window_parts (w ∷ []) parts ≡ put_in reach w parts ++ tail =
      ap (λ ps. take w.from parts ++ (w.parts ++ ps)) cut
      ∙ (ap (λ ps. take w.from parts ++ ps) (sym (append_assoc w.parts (take m (drop place parts)) tail)) ∙ sym (append_assoc (take w.from parts) (w.parts ++ take m (drop place parts)) tail)) in (
        (omega (arith, put.0, inside), tt),
        subst (λ t. Reads t (file_with (window_parts (w ∷ []) parts))) (sym all)
            (subst (λ ps. Reads (before ++ spelled_parts tail) (file_with ps)) (sym new) (read_after join before (spelled_parts tail) (put_in reach w parts) (file_with tail) (put.1 (omega (arith, two))) own short)),
      )

  -- a file in the place of all parts after lines
  pub read_at_end : (at : ℕ) (parts : List Part) (text rest : Bytes) (w : PartWindow) → at < length parts → LegalBuild (file_with parts) → AreWholeLines (take at parts) → w.from ≡ at → w.from + w.gone ≡ length parts → Reads rest (file_with w.parts)
      → text ≡ spelled_parts (take at parts) ++ rest → length text ≤ limit → AreRead text (w ∷ []) parts
  read_at_end at parts text rest w within h whole from all reads is le =
      let before : Bytes = spelled_parts (take at parts) in
      let short : length (before ++ rest) ≤ limit = subst (λ t. length t ≤ limit) is le in
      let first : ReadAsLines before (take at parts) = first_lines split at parts within h whole (omega (arith, short, length-append before rest)) in
      let new : take w.from parts ++ (w.parts ++ drop (w.from + w.gone) parts) ≡ take at parts ++ w.parts =
      ap (λ ps. take w.from parts ++ (w.parts ++ ps)) (drop_all (w.from + w.gone) parts (omega (arith, all))) ∙ (ap (λ ps. take w.from parts ++ ps) (append-nil w.parts) ∙ ap (λ k. take k parts ++ w.parts) from) in (
        (omega (arith, all), tt),
        subst (λ t. Reads t (file_with (window_parts (w ∷ []) parts))) (sym is)
            (subst (λ ps. Reads (before ++ rest) (file_with ps)) (sym new) (read_after join before rest (take at parts) (file_with w.parts) first reads short)),
      )

-- ---- windows after windows

-- the windows with this many more parts before the first
abbrev pub windows_moved : ℕ → List PartWindow → List PartWindow
windows_moved n [] = []
windows_moved n (w ∷ ws) = record { from = n + w.from; gone = w.gone; parts = w.parts } ∷ ws

-- more parts before a window
moved_so : (n : ℕ) (xs : List Part) (ws : List PartWindow) → n ≤ length xs → AreThere ws (drop n xs) → AreThere (windows_moved n ws) xs × (window_parts (windows_moved n ws) xs ≡ take n xs ++ window_parts ws (drop n xs))
moved_so n xs [] le there = (tt, sym (take-append-drop n xs))
moved_so n xs (w ∷ ws) le there =
    let others : List Part = drop n xs in
    let place : n + (w.from + w.gone) ≡ n + w.from + w.gone = omega arith in
    let behind : drop (w.from + w.gone) others ≡ drop (n + w.from + w.gone) xs = drop-drop (w.from + w.gone) n xs ∙ ap (λ k. drop k xs) place in (
      (omega (arith, there.0, length-drop n xs, le), subst (AreThere ws) behind there.1),
      ap (λ ps. take (n + w.from) xs ++ (w.parts ++ window_parts ws ps)) (sym behind)
          ∙ (ap (λ ps. ps ++ (w.parts ++ window_parts ws (drop (w.from + w.gone) others))) (take-add n w.from xs)
          ∙ append_assoc (take n xs) (take w.from others) (w.parts ++ window_parts ws (drop (w.from + w.gone) others))),
    )

moved_twice : (m n : ℕ) (ws : List PartWindow) → windows_moved m (windows_moved n ws) ≡ windows_moved (m + n) ws
moved_twice m n [] = refl
moved_twice m n (w ∷ ws) = let e : m + (n + w.from) ≡ m + n + w.from = omega arith in ap (λ k. window k w.gone w.parts ∷ ws) e

moved_none : (ws : List PartWindow) → windows_moved 0 ws ≡ ws
moved_none [] = refl
moved_none (w ∷ ws) = let e : 0 + w.from ≡ w.from = omega arith in ap (λ k. window k w.gone w.parts ∷ ws) e

count_next : (read after : List PartWindow) (kept reach stay : ℕ) (w : PartWindow) → IsPushed read kept w reach after stay → (many all less : ℕ) → kept + many ≤ all → w.from + w.gone ≤ reach → reach + less ≡ many → stay + less ≤ all
count_next read after kept reach stay w (inl (none, nothing, same, is)) many all less le within cut = omega (arith, is, le, cut)
count_next read after kept reach stay w (inr (same, is)) many all less le within cut = omega (arith, is, le, cut, within)

-- Whatever windows follow among what is left, with those before them the parts are those that are made, and then what these make of the rest.
abbrev pub GoesOn : List Part → List PartWindow → ℕ → List Part → List Part → Type 0
GoesOn parts read kept left made = (ws : List PartWindow) → AreThere ws left → AreThere (read ++ windows_moved kept ws) parts × (window_parts (read ++ windows_moved kept ws) parts ≡ made ++ window_parts ws left)

-- the same after one more window
pub goes_on : (parts left made : List Part) (read after : List PartWindow) (kept reach stay : ℕ) (w : PartWindow) → GoesOn parts read kept left made → w.from + w.gone ≤ reach → reach ≤ length left
    → IsPushed read kept w reach after stay → GoesOn parts after stay (drop reach left) (made ++ put_in reach w left)
goes_on parts left made read after kept reach stay w on within le (inl (none, nothing, same, all)) = λ ws there.
    let more = moved_so reach left ws le there in
    let so = on (windows_moved reach ws) more.0 in
    let list : read ++ windows_moved kept (windows_moved reach ws) ≡ after ++ windows_moved stay ws = ap (λ l. read ++ l) (moved_twice kept reach ws ∙ ap (λ k. windows_moved k ws) (sym all)) ∙ ap (λ l. l ++ windows_moved stay ws) (sym same) in
    let m : ℕ = reach - (w.from + w.gone) in
    let begin : w.from + w.gone ≡ w.from = omega (arith, none) in
    let many : w.from + m ≡ reach = omega (arith, none, within) in
    let own : put_in reach w left ≡ take reach left =
    ap (λ ps. take w.from left ++ (ps ++ take m (drop (w.from + w.gone) left))) nothing
    ∙ (ap (λ k. take w.from left ++ take m (drop k left)) begin ∙ (sym (take-add w.from m left) ∙ ap (λ k. take k left) many)) in (
      subst (λ l. AreThere l parts) list so.0,
      ap (λ l. window_parts l parts) (sym list)
          ∙ (so.1 ∙ (ap (λ ps. made ++ ps) more.1 ∙ (sym (append_assoc made (take reach left) (window_parts ws (drop reach left))) ∙ ap (λ ps. (made ++ ps) ++ window_parts ws (drop reach left)) (sym own)))),
    )
goes_on parts left made read after kept reach stay w on within le (inr (is, rest)) = λ ws there.
    let place : ℕ = w.from + w.gone in
    let m : ℕ = reach - place in
    let all : place + m ≡ reach = omega (arith, within) in
    let behind : drop m (drop place left) ≡ drop reach left = drop-drop m place left ∙ ap (λ k. drop k left) all in
    let more = moved_so m (drop place left) ws (omega (arith, within, le, length-drop place left)) (subst (AreThere ws) (sym behind) there) in
    let so = on (w ∷ windows_moved m ws) (omega (arith, within, le), more.0) in
    let list : read ++ windows_moved kept (w ∷ windows_moved m ws) ≡ after ++ windows_moved stay ws =
    sym (append_assoc read (windows_moved kept (w ∷ [])) (windows_moved m ws)) ∙ (ap (λ l. l ++ windows_moved m ws) (sym is) ∙ ap (λ k. after ++ windows_moved k ws) (sym rest)) in
    let tail : List Part = window_parts ws (drop reach left) in
    let own : window_parts (w ∷ windows_moved m ws) left ≡ put_in reach w left ++ tail =
    ap (λ ps. take w.from left ++ (w.parts ++ ps)) (more.1 ∙ ap (λ ps. take m (drop place left) ++ window_parts ws ps) behind)
    ∙ (ap (λ ps. take w.from left ++ ps) (sym (append_assoc w.parts (take m (drop place left)) tail)) ∙ sym (append_assoc (take w.from left) (w.parts ++ take m (drop place left)) tail)) in (
      subst (λ l. AreThere l parts) list so.0,
      ap (λ l. window_parts l parts) (sym list) ∙ (so.1 ∙ (ap (λ ps. made ++ ps) own ∙ sym (append_assoc made (put_in reach w left) tail))),
    )

-- What is known after some windows: the parts that they made, and that what is left of the parts and of the texts goes on from there.
pub record AreBefore (parts : List Part) (total : Bytes) (read : List PartWindow) (kept : ℕ) (left : List Part) (texts : List TextWindow) : Type 0 where
  pub made : List Part
  pub lines : ReadAsLines (spelled_parts made) made
  pub on : GoesOn parts read kept left made
  pub text : total ≡ spelled_parts made ++ text_with texts left
  pub among : AreAmong texts left
  pub counted : kept + length left ≤ length parts
  pub legal : LegalBuild (file_with left)

-- a file has at least its end
some_parts : (parts : List Part) → LegalBuild (file_with parts) → 0 < length parts
some_parts [] h = absurd h.legal.file.shapes.0
some_parts (x ∷ parts) h = omega arith

pub begun : (split : LinesSplit) (join : LinesJoin) (parts : List Part) (texts : List TextWindow) → LegalBuild (file_with parts) → AreAmong texts parts → AreBefore parts (text_with texts parts) [] 0 parts texts
begun split join parts texts h among = record {
  made = [];
  lines = no_lines join (bare_legal split 0 parts (some_parts parts h) h);
  on = λ ws there. let stay : windows_moved 0 ws ≡ ws = moved_none ws in (subst (λ l. AreThere l parts) (sym stay) there, ap (λ l. window_parts l parts) stay);
  text = refl;
  among = among;
  counted = omega arith;
  legal = h;
}

-- one window more
pub next : (join : LinesJoin) (split : LinesSplit) (parts : List Part) (total : Bytes) (read after : List PartWindow) (kept reach stay : ℕ) (left : List Part) (t : TextWindow) (texts ts : List TextWindow) (w : PartWindow)
    → AreBefore parts total read kept left texts → texts ≡ t ∷ ts → length total ≤ limit → reach ≡ t.from + t.gone → reach < length left → IsPutAmong reach left w (spelled_parts (take t.from left) ++ t.text)
    → IsPushed read kept w reach after stay → AreBefore parts total after stay (drop reach left) ts
next join split parts total read after kept reach stay left t texts ts w state is le at lt put pushed =
    let own : Bytes = spelled_parts (take t.from left) ++ t.text in
    let tail : Bytes = text_with ts (drop reach left) in
    let cut : text_with texts left ≡ own ++ tail =
    ap (λ l. text_with l left) is ∙ (ap (λ k. spelled_parts (take t.from left) ++ (t.text ++ text_with ts (drop k left))) (sym at) ∙ sym (append_assoc (spelled_parts (take t.from left)) t.text tail)) in
    let all : total ≡ spelled_parts state.made ++ (own ++ tail) = state.text ∙ ap (λ s. spelled_parts state.made ++ s) cut in
    let short : length (spelled_parts state.made) + length own + length tail ≤ limit =
    omega (arith, subst (λ s. length s ≤ limit) all le, length-append (spelled_parts state.made) (own ++ tail), length-append own tail) in
    let lines : ReadAsLines own (put_in reach w left) = put.1 (omega (arith, short)) in
    let spelled : spelled_parts (state.made ++ put_in reach w left) ≡ spelled_parts state.made ++ own =
    text_append state.made (put_in reach w left) ∙ ap (λ s. spelled_parts state.made ++ s) (lines_text own (put_in reach w left) lines) in
    record {
      made = state.made ++ put_in reach w left;
      lines = subst (λ s. ReadAsLines s (state.made ++ put_in reach w left)) (sym spelled)
          (lines_after join (spelled_parts state.made) own state.made (put_in reach w left) state.lines lines (omega (arith, short, length-append (spelled_parts state.made) own)));
      on = goes_on parts left state.made read after kept reach stay w state.on put.0 (omega (arith, lt)) pushed;
      text = all ∙ (sym (append_assoc (spelled_parts state.made) own tail) ∙ ap (λ s. s ++ tail) (sym spelled));
      among = subst (λ k. AreAmong ts (drop k left)) (sym at) (subst (λ l. AreAmong l left) is state.among).1;
      counted = count_next read after kept reach stay w pushed (length left) (length parts) (length (drop reach left)) state.counted put.0 (omega (arith, length-drop reach left, lt));
      legal = legal_after split reach left lt state.legal;
    }

-- the end of the parts is left
pub ended : (join : LinesJoin) (parts : List Part) (total : Bytes) (read : List PartWindow) (kept : ℕ) (left : List Part) (texts : List TextWindow) → AreBefore parts total read kept left texts → texts ≡ [] → length total ≤ limit → AreRead total read parts
ended join parts total read kept left texts state is le =
    let so = state.on [] tt in
    let list : read ++ [] ≡ read = append-nil read in
    let all : total ≡ spelled_parts state.made ++ spelled_parts left = state.text ∙ ap (λ l. spelled_parts state.made ++ text_with l left) is in
    let short : length (spelled_parts state.made ++ spelled_parts left) ≤ limit = subst (λ s. length s ≤ limit) all le in
    let last : Reads (spelled_parts left) (file_with left) = (state.legal, refl, omega (arith, short, length-append (spelled_parts state.made) (spelled_parts left))) in
    let reads : Reads (spelled_parts state.made ++ spelled_parts left) (file_with (state.made ++ left)) = read_after join (spelled_parts state.made) (spelled_parts left) state.made (file_with left) state.lines last short in (
      subst (λ l. AreThere l parts) list so.0,
      subst (λ s. Reads s (file_with (window_parts read parts))) (sym all)
          (subst (λ ps. Reads (spelled_parts state.made ++ spelled_parts left) (file_with ps)) (sym (ap (λ l. window_parts l parts) (sym list) ∙ so.1)) reads),
    )

-- the last window reaches it
pub ended_by : (join : LinesJoin) (parts : List Part) (total : Bytes) (read after : List PartWindow) (kept reach stay : ℕ) (left : List Part) (t : TextWindow) (texts ts : List TextWindow) (w : PartWindow)
    → AreBefore parts total read kept left texts → texts ≡ t ∷ ts → ts ≡ [] → length total ≤ limit → reach ≡ t.from + t.gone → reach ≡ length left → AreRead (spelled_parts (take t.from left) ++ t.text) (w ∷ []) left
    → w.from + w.gone ≤ reach → IsPushed read kept w reach after stay → AreRead total after parts
ended_by join parts total read after kept reach stay left t texts ts w state is nomore le at end one within pushed =
    let own : Bytes = spelled_parts (take t.from left) ++ t.text in
    let none : drop reach left ≡ [] = drop_all reach left (omega (arith, end)) in
    let cut : text_with texts left ≡ own =
    ap (λ l. text_with l left) (is ∙ ap (λ l. t ∷ l) nomore) ∙ (ap (λ k. spelled_parts (take t.from left) ++ (t.text ++ spelled_parts (drop k left))) (sym at)
    ∙ (ap (λ ps. spelled_parts (take t.from left) ++ (t.text ++ spelled_parts ps)) none ∙ ap (λ s. spelled_parts (take t.from left) ++ s) (append-nil t.text))) in
    let all : total ≡ spelled_parts state.made ++ own = state.text ∙ ap (λ s. spelled_parts state.made ++ s) cut in
    let so = goes_on parts left state.made read after kept reach stay w state.on within (omega (arith, end)) pushed [] tt in
    let list : after ++ [] ≡ after = append-nil after in
    let m : ℕ = reach - (w.from + w.gone) in
    let behind : take m (drop (w.from + w.gone) left) ≡ drop (w.from + w.gone) left = take_all m (drop (w.from + w.gone) left) (omega (arith, length-drop (w.from + w.gone) left, end)) in
    let new : window_parts after parts ≡ state.made ++ window_parts (w ∷ []) left =
    ap (λ l. window_parts l parts) (sym list)
    ∙ (so.1 ∙ (ap (λ ps. (state.made ++ put_in reach w left) ++ ps) none ∙ (append-nil (state.made ++ put_in reach w left) ∙ ap (λ ps. state.made ++ (take w.from left ++ (w.parts ++ ps))) behind))) in
    let short : length (spelled_parts state.made ++ own) ≤ limit = subst (λ s. length s ≤ limit) all le in
    let reads : Reads (spelled_parts state.made ++ own) (file_with (state.made ++ window_parts (w ∷ []) left)) =
    read_after join (spelled_parts state.made) own state.made (file_with (window_parts (w ∷ []) left)) state.lines one.1 short in (
      subst (λ l. AreThere l parts) list so.0,
      subst (λ s. Reads s (file_with (window_parts after parts))) (sym all) (subst (λ ps. Reads (spelled_parts state.made ++ own) (file_with ps)) (sym new) reads),
    )

-- one window alone
pub alone : (parts : List Part) (text : Bytes) (reach stay : ℕ) (w : PartWindow) (after : List PartWindow) → IsPushed [] 0 w reach after stay → AreRead text (w ∷ []) parts → AreRead text after parts
alone parts text reach stay w after (inl (none, nothing, same, all)) read =
    let begin : w.from + w.gone ≡ w.from = omega (arith, none) in
    let own : window_parts (w ∷ []) parts ≡ parts =
    ap (λ ps. take w.from parts ++ (ps ++ drop (w.from + w.gone) parts)) nothing ∙ (ap (λ k. take w.from parts ++ drop k parts) begin ∙ take-append-drop w.from parts) in
    subst (λ l. AreRead text l parts) (sym same) (tt, subst (λ ps. Reads text (file_with ps)) own read.1)
alone parts text reach stay w after (inr (is, rest)) read = subst (λ l. AreRead text l parts) (sym (is ∙ moved_none (w ∷ []))) read

-- ---- windows of texts and of parts

texts_among : (ts : List TextWindow) (ws : List PartWindow) (parts : List Part) → AreTextsOf ts ws → AreThere ws parts → AreAmong ts parts
texts_among [] [] parts h there = tt
texts_among [] (w ∷ ws) parts h there = absurd h
texts_among (t ∷ ts) [] parts h there = absurd h
texts_among (t ∷ ts) (w ∷ ws) parts (from, gone, text, others) there =
    let same : t.from + t.gone ≡ w.from + w.gone = omega (arith, from, gone) in
    (omega (arith, same, there.0), texts_among ts ws (drop (t.from + t.gone) parts) others (subst (λ k. AreThere ws (drop k parts)) (sym same) there.1))

texts_spelled : (ts : List TextWindow) (ws : List PartWindow) (parts : List Part) → AreTextsOf ts ws → spelled_parts (window_parts ws parts) ≡ text_with ts parts
texts_spelled [] [] parts h = refl
texts_spelled [] (w ∷ ws) parts h = absurd h
texts_spelled (t ∷ ts) [] parts h = absurd h
texts_spelled (t ∷ ts) (w ∷ ws) parts (from, gone, text, others) =
    let same : t.from + t.gone ≡ w.from + w.gone = omega (arith, from, gone) in
    let tail : List Part = window_parts ws (drop (w.from + w.gone) parts) in
    text_append (take w.from parts) (w.parts ++ tail)
    ∙ (ap (λ s. spelled_parts (take w.from parts) ++ s) (text_append w.parts tail ∙ (ap (λ s. s ++ spelled_parts tail) (sym text) ∙ ap (λ s. t.text ++ s) (texts_spelled ts ws (drop (w.from + w.gone) parts) others)))
    ∙ (ap (λ k. spelled_parts (take k parts) ++ (t.text ++ text_with ts (drop (w.from + w.gone) parts))) (sym from) ∙ ap (λ k. spelled_parts (take t.from parts) ++ (t.text ++ text_with ts (drop k parts))) (sym same)))

new_reads : (ts : List TextWindow) (ws : List PartWindow) (tree : Node) → AreTextsOf ts ws → AreThere ws tree.parts → LegalBuild (with_windows ws tree) → length (spell_node (with_windows ws tree)) ≤ limit
    → AreAmong ts tree.parts × Reads (text_with ts tree.parts) (with_windows ws tree)
new_reads ts ws tree h there legal le =
    (texts_among ts ws tree.parts h there, subst (λ s. Reads s (with_windows ws tree)) (texts_spelled ts ws tree.parts h) (legal, refl, le))

-- what is required of windows of texts
pub required : (ts slice : List TextWindow) (tree : Node) (parts : List Part) → slice ≡ ts → parts ≡ tree.parts
    → ((new : List PartWindow) × AreTextsOf ts new × AreThere new tree.parts × LegalBuild (with_windows new tree) × (length (spell_node (with_windows new tree)) ≤ limit)) → AreAmong slice parts × Accepted (text_with slice parts)
required ts slice tree parts e d r =
    let own = new_reads ts r.0 tree r.1 r.2 r.3 r.4 in
    subst (λ l. AreAmong l parts × Accepted (text_with l parts)) (sym e) (subst (λ ps. AreAmong ts ps × Accepted (text_with ts ps)) (sym d) (own.0, (with_windows r.0 tree, own.1)))

-- two lists of windows with the same texts make the same tree
pub one_tree : OneReading → (ts slice : List TextWindow) (tree : Node) (parts : List Part) (new read : List PartWindow) → slice ≡ ts → parts ≡ tree.parts → AreThere read tree.parts × Reads (text_with slice parts) (with_windows read tree)
    → AreTextsOf ts new → AreThere new tree.parts → LegalBuild (with_windows new tree) → length (spell_node (with_windows new tree)) ≤ limit → AreThere read tree.parts × (with_windows read tree ≡ with_windows new tree)
one_tree one ts slice tree parts new read e d (found, reads) texts there legal le =
    let here : Reads (text_with ts tree.parts) (with_windows read tree) = subst (λ l. Reads (text_with l tree.parts) (with_windows read tree)) e (subst (λ ps. Reads (text_with slice ps) (with_windows read tree)) d reads) in
    (found, one (text_with ts tree.parts) (with_windows read tree) (with_windows new tree) here (new_reads ts new tree texts there legal le).1)

-- the file of the parts of a BUILD file's tree
pub file_legal : (root tree : Node) (parts : List Part) → root ≡ tree → Legal root → IsBuild tree → parts ≡ root.parts → LegalBuild (file_with parts)
file_legal root tree parts is h build e =
    let own : LegalBuild root = record { legal = h; build = subst IsBuild (sym is) build } in
    subst (λ ps. LegalBuild (file_with ps)) (sym e) (subst LegalBuild (ap (λ kind. (let m : Node = record { kind = kind; parts = root.parts } in m)) h.file.root) own)

-- windows with which a tree reads as a text, as the tree says it
pub tree_read : (tree : Node) (parts : List Part) (text : Bytes) (ws : List PartWindow) → Legal tree → parts ≡ tree.parts → AreRead text ws parts → AreThere ws tree.parts × Reads text (with_windows ws tree)
tree_read tree parts text ws h is read =
    let own : AreRead text ws tree.parts = subst (AreRead text ws) is read in
    (own.0, subst (λ kind. Reads text (let m : Node = record { kind = kind; parts = window_parts ws tree.parts } in m)) (sym h.file.root) own.1)

-- what is said of a result, of its value
pub ok_gives : {A E : Type 0} (P : A → Type 0) (r : Result A E) (x : A) → result_ok r ≡ Some x → IfOk r P → P x
ok_gives P (Ok y) x e h = subst P (same_Some y x e) h
ok_gives P (Err fault) x e h = absurd cc

pub none_there : {A : Type 0} (xs : List A) (t : Bool) → t ≡ nat_eq (length xs) 0 → t ≡ true → xs ≡ []
none_there xs t is h = nil_from_length xs (grind (arith, nat_tests))
