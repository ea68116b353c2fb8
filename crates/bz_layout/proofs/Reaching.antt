-- Text windows over the parts of a tree, as they are made one after the other.
use Rattle.bz_layout.proofs.Words.{[], ◌++◌, ◌+◌, ◌-◌, ◌<◌, ◌^◌, ◌∙◌, ◌∷◌, ◌≡◌, ◌≤◌, ap, append-nil, append_assoc, AreTextsOf, AreThere, arith, Bool, Bytes, Drafted, drafted, drop, drop-drop, drop_at, drop_more, false, flat_map, flat_map-append, get_or, gone_length, if◌then◌else◌, IsPut, le-leb, length, length-append, length-drop, limit, List, min, None, Part, PartWindow, pushed, Reached, refl, Some, spell_part, subst, sym, take, take-add, take-append-drop, take_at, text_count, TextWindow, true, true≢false, window_parts, windows_end, windows_front, within_limit, ℕ}
use Rattle.bz_layout.proofs.{Pushing.pushed_none, Pushing.pushed_twice, Windows.cut_window}

-- ---- windows of parts, one after another

pub all_put : (ws : List PartWindow) (xs : List Part) → window_parts ws xs ≡ windows_front ws xs ++ drop (windows_end ws) xs
all_put [] xs = refl
all_put (w ∷ ws) xs =
    let rest : List Part = drop (w.from + w.gone) xs in
    let end : List Part = drop (windows_end (w ∷ ws)) xs in
    ap (λ ps. take w.from xs ++ (w.parts ++ ps)) (all_put ws rest ∙ ap (λ ps. windows_front ws rest ++ ps) (drop-drop (windows_end ws) (w.from + w.gone) xs)) ∙
    (ap (λ ps. take w.from xs ++ ps) (sym (append_assoc w.parts (windows_front ws rest) end)) ∙ sym (append_assoc (take w.from xs) (w.parts ++ windows_front ws rest) end))

front_more : (ws : List PartWindow) (w : PartWindow) (xs : List Part) → windows_front (ws ++ w ∷ []) xs ≡ windows_front ws xs ++ (take w.from (drop (windows_end ws) xs) ++ w.parts)
front_more [] w xs = ap (λ ps. take w.from xs ++ ps) (append-nil w.parts)
front_more (v ∷ ws) w xs =
    let rest : List Part = drop (v.from + v.gone) xs in
    let more : List Part = take w.from (drop (windows_end (v ∷ ws)) xs) ++ w.parts in
    ap (λ ps. take v.from xs ++ (v.parts ++ ps)) (front_more ws w rest ∙ ap (λ ps. windows_front ws rest ++ (take w.from ps ++ w.parts)) (drop-drop (windows_end ws) (v.from + v.gone) xs)) ∙
    (ap (λ ps. take v.from xs ++ ps) (sym (append_assoc v.parts (windows_front ws rest) more)) ∙ sym (append_assoc (take v.from xs) (v.parts ++ windows_front ws rest) more))

ends_more : (ws : List PartWindow) (w : PartWindow) → windows_end (ws ++ w ∷ []) ≡ windows_end ws + (w.from + w.gone)
ends_more [] w = omega arith
ends_more (v ∷ ws) w = let rest : windows_end (ws ++ w ∷ []) ≡ windows_end ws + (w.from + w.gone) = ends_more ws w in omega (arith, rest)

there_more : (ws : List PartWindow) (w : PartWindow) (xs : List Part) → AreThere ws xs → w.from + w.gone ≤ length (drop (windows_end ws) xs) → AreThere (ws ++ w ∷ []) xs
there_more [] w xs h le = (le, tt)
there_more (v ∷ ws) w xs h le =
    (h.0, there_more ws w (drop (v.from + v.gone) xs) h.1 (subst (λ (ps : List Part). w.from + w.gone ≤ length ps) (sym (drop-drop (windows_end ws) (v.from + v.gone) xs)) le))

texts_more : (ts : List TextWindow) (ws : List PartWindow) (t : TextWindow) (w : PartWindow) → AreTextsOf ts ws → t.from ≡ w.from → t.gone ≡ w.gone → t.text ≡ flat_map spell_part w.parts →
    AreTextsOf (ts ++ t ∷ []) (ws ++ w ∷ [])
texts_more [] [] t w h a b c = (a, b, c, tt)
texts_more (s ∷ ts) (v ∷ ws) t w h a b c = (h.0, h.1, h.2, texts_more ts ws t w h.3 a b c)
texts_more _ _ t w h a b c = absurd h

count_more : (ts : List TextWindow) (t : TextWindow) → text_count (ts ++ t ∷ []) ≡ text_count ts + length t.text
count_more [] t = omega arith
count_more (s ∷ ts) t = let rest : text_count (ts ++ t ∷ []) ≡ text_count ts + length t.text = count_more ts t in omega (arith, rest)

-- ---- how many bytes they have

abbrev size : List Part → ℕ
size xs = length (flat_map spell_part xs)

size_append : (xs ys : List Part) → size (xs ++ ys) ≡ size xs + size ys
size_append xs ys = ap length (flat_map-append spell_part xs ys) ∙ length-append (flat_map spell_part xs) (flat_map spell_part ys)

-- the parts of a window, those before it, and those after it
size_window : (from n : ℕ) (xs : List Part) → size xs ≡ size (take from xs) + (size (take n (drop from xs)) + size (drop (from + n) xs))
size_window from n xs = cut_window size (λ a b. a + b) size_append from n xs

texts_below : (ts : List TextWindow) (ws : List PartWindow) (xs : List Part) → AreTextsOf ts ws → text_count ts ≤ size (windows_front ws xs)
texts_below [] [] xs h = omega arith
texts_below (t ∷ ts) (w ∷ ws) xs h =
    let rest : List Part = drop (w.from + w.gone) xs in
    let own : length t.text ≡ size w.parts = ap length h.2 in
    let one : size (take w.from xs ++ (w.parts ++ windows_front ws rest)) ≡ size (take w.from xs) + size (w.parts ++ windows_front ws rest) = size_append (take w.from xs) (w.parts ++ windows_front ws rest) in
    let two : size (w.parts ++ windows_front ws rest) ≡ size w.parts + size (windows_front ws rest) = size_append w.parts (windows_front ws rest) in
    let less : text_count ts ≤ size (windows_front ws rest) = texts_below ts ws rest h.3 in
    omega (arith, own, one, two, less)
texts_below _ _ xs h = absurd h

-- what the new parts have, and those that they took the place of
pub size_put : (ts : List TextWindow) (ws : List PartWindow) (xs : List Part) → AreTextsOf ts ws → size (window_parts ws xs) + gone_length ts xs ≡ size xs + text_count ts
size_put [] [] xs h = refl
size_put (t ∷ ts) (w ∷ ws) xs (from, gone, text, h) =
    let rest : List Part = drop (w.from + w.gone) xs in
    let lost : ℕ = size (take w.gone (drop w.from xs)) in
    let own : length t.text ≡ size w.parts = ap length text in
    let all : size xs ≡ size (take w.from xs) + (lost + size rest) = size_window w.from w.gone xs in
    let one : size (take w.from xs ++ (w.parts ++ window_parts ws rest)) ≡ size (take w.from xs) + size (w.parts ++ window_parts ws rest) = size_append (take w.from xs) (w.parts ++ window_parts ws rest) in
    let two : size (w.parts ++ window_parts ws rest) ≡ size w.parts + size (window_parts ws rest) = size_append w.parts (window_parts ws rest) in
    let more : size (window_parts ws rest) + gone_length ts rest ≡ size rest + text_count ts = size_put ts ws rest h in
    let here : gone_length (t ∷ ts) xs ≡ lost + gone_length ts rest =
    ap (λ n. size (take t.gone (drop n xs)) + gone_length ts (drop (n + t.gone) xs)) from ∙ ap (λ n. size (take n (drop w.from xs)) + gone_length ts (drop (w.from + n) xs)) gone in
    omega (arith, own, all, one, two, more, here)
size_put _ _ xs h = absurd h

-- no more is lost than there is
pub gone_most : (ts : List TextWindow) (xs : List Part) → gone_length ts xs ≤ size xs
gone_most [] xs = omega arith
gone_most (t ∷ ts) xs =
    let all : size xs ≡ size (take t.from xs) + (size (take t.gone (drop t.from xs)) + size (drop (t.from + t.gone) xs)) = size_window t.from t.gone xs in
    let rest : gone_length ts (drop (t.from + t.gone) xs) ≤ size (drop (t.from + t.gone) xs) = gone_most ts (drop (t.from + t.gone) xs) in
    omega (arith, all, rest)

-- ---- how far the windows are made

own_more : (own : List Part) (x : Part) → flat_map spell_part own ++ spell_part x ≡ flat_map spell_part (own ++ x ∷ [])
own_more own x = sym (flat_map-append spell_part own (x ∷ []) ∙ ap (λ t. flat_map spell_part own ++ t) (append-nil (spell_part x)))

module _ {xs all : List Part} {made : List TextWindow} {out : Drafted} {o : Bool} {b d ba pa : ℕ} {left rest : List Part} where
  -- the same by equal fields
  pub reach_as : {out' : Drafted} {o' : Bool} {rest' : List Part} → out' ≡ out → o' ≡ o → rest' ≡ rest → Reached xs all made out o b d ba pa left rest → Reached xs all made out' o' b d ba pa left rest'
  reach_as e f g r = rw (e, f, g) r

  -- a line more
  pub put_line : (x : Part) → Reached xs all made out o b d ba pa left (x ∷ rest) → Reached xs all made (pushed out (spell_part x)) true b d ba pa left rest
  put_line x r = record {
    before = r.before;
    own = r.own ++ x ∷ [];
    ahead = r.ahead;
    back = r.back;
    within = r.within;
    text = ap (λ t. pushed t (spell_part x)) r.text ∙ (pushed_twice (drafted limit []) (flat_map spell_part r.own) (spell_part x) ∙ ap (pushed (drafted limit [])) (own_more r.own x));
    closed = λ e. absurd (true≢false e);
    left_is = r.left_is;
    rest_is = ap (λ ps. windows_front r.before.new xs ++ (take (ba - d) (drop d xs) ++ ps)) (append_assoc r.own (x ∷ []) rest) ∙ r.rest_is;
  }

  -- lines that give way
  pub take_lines : (next n : ℕ) → next ≡ pa + n → n ≤ length left → Reached xs all made out o b d ba pa left rest → Reached xs all made out true b d ba next (drop n left) rest
  take_lines next n e h r =
      let many : length xs - pa ≡ length left = sym (length-drop pa xs) ∙ ap length r.left_is in
      record {
        before = r.before;
        own = r.own;
        ahead = r.ahead;
        back = omega (arith, e, r.back);
        within = omega (arith, e, many, h, r.within);
        text = r.text;
        closed = λ shut. absurd (true≢false shut);
        left_is = ap (λ k. drop k xs) e ∙ (sym (drop-drop n pa xs) ∙ ap (λ ps. drop n ps) r.left_is);
        rest_is = r.rest_is;
      }

  -- a window that nothing is changed in yet
  pub opened : Reached xs all made out o b d ba pa left rest → Reached xs all made out true b d ba pa left rest
  opened r = take_lines pa 0 (omega arith) (omega arith) r

  -- where no window is open, all is made up to the lines that are left
  made_so_far : o ≡ false → Reached xs all made out o b d ba pa left rest → drop (ba - d) (drop d xs) ≡ left
  made_so_far shut r =
      drop-drop (ba - d) d xs ∙ ((let at : d + (ba - d) ≡ pa = omega (arith, (r.closed shut).1, r.ahead) in ap (λ m. drop m xs) at) ∙ r.left_is)

  -- lines that stay, where no window is open
  pub skip_lines : (n : ℕ) (kept left' rest' : List Part) → o ≡ false → left ≡ kept ++ left' → rest ≡ kept ++ rest' → n ≡ pa + length kept →
      Reached xs all made out o b d ba pa left rest → Reached xs all made out o b d n n left' rest'
  skip_lines n kept left' rest' shut l e c r =
      let many : length xs - pa ≡ length kept + length left' = sym (length-drop pa xs) ∙ (ap length (r.left_is ∙ l) ∙ length-append kept left') in
      let still : ba ≡ pa = (r.closed shut).1 in
      let longer : n - d ≡ (ba - d) + length kept = omega (arith, still, c, r.ahead) in
      let so_far : List Part = take (ba - d) (drop d xs) in
      let more : take (n - d) (drop d xs) ≡ so_far ++ kept =
      ap (λ m. take m (drop d xs)) longer ∙ (take-add (ba - d) (length kept) (drop d xs) ∙ ap (λ ps. so_far ++ ps) (ap (λ ps. take (length kept) ps) (made_so_far shut r ∙ l) ∙ take_at kept left' (length kept) refl)) in
      record {
        before = r.before;
        own = r.own;
        ahead = omega (arith, c, still, r.ahead);
        back = omega arith;
        within = omega (arith, c, many, r.within);
        text = r.text;
        closed = λ e. ((r.closed e).0, refl);
        left_is = ap (λ m. drop m xs) c ∙ (sym (drop-drop (length kept) pa xs) ∙ (ap (λ ps. drop (length kept) ps) (r.left_is ∙ l) ∙ drop_at kept left' (length kept) refl));
        rest_is =
            ap (λ ps. windows_front r.before.new xs ++ (ps ++ (r.own ++ rest'))) more ∙
            (ap (λ ps. windows_front r.before.new xs ++ ((so_far ++ kept) ++ (ps ++ rest'))) (r.closed shut).0 ∙
            (ap (λ ps. windows_front r.before.new xs ++ ps) (append_assoc so_far kept rest') ∙
            (ap (λ ps. windows_front r.before.new xs ++ (so_far ++ ps)) (sym e) ∙ (ap (λ ps. windows_front r.before.new xs ++ (so_far ++ (ps ++ rest))) (sym (r.closed shut).0) ∙ r.rest_is))));
      }

  -- all that is left stays
  pub finished : o ≡ false → left ≡ rest → Reached xs all made out o b d ba pa left rest → IsPut xs all made b d
  finished shut l r =
      let so_far : List Part = take (ba - d) (drop d xs) in
      let after : drop d xs ≡ so_far ++ rest = sym (take-append-drop (ba - d) (drop d xs)) ∙ ap (λ ps. so_far ++ ps) (made_so_far shut r ∙ l) in
      record {
        windows = r.before;
        put =
            all_put r.before.new xs ∙
            (ap (λ n. windows_front r.before.new xs ++ drop n xs) (sym r.before.done_is) ∙
            (ap (λ ps. windows_front r.before.new xs ++ ps) after ∙ (ap (λ ps. windows_front r.before.new xs ++ (so_far ++ (ps ++ rest))) (sym (r.closed shut).0) ∙ r.rest_is)));
      }

-- ---- sums that stay in a number

added : (n x : ℕ) → n ≡ min x (2 ^ 64 - 1) → n ≤ limit → n ≡ x
added n x e l = omega (arith, e, l)

-- the open window ends, as the code makes it
pub closed_as : (xs all : List Part) (made made' : List TextWindow) (out out' : Drafted) (o : Bool) (b d ba pa : ℕ) (left rest : List Part) (from gone bytes : ℕ) (text : Bytes) → from ≡ ba - d → gone ≡ pa - ba →
    ((own : List Part) → out ≡ pushed (drafted limit []) (flat_map spell_part own) → text ≡ flat_map spell_part own) → bytes ≡ min (b + length text) (2 ^ 64 - 1) → bytes ≤ limit →
    made' ≡ made ++ record { from = from; gone = gone; text = text } ∷ [] → out' ≡ drafted limit [] → Reached xs all made out o b d ba pa left rest → Reached xs all made' out' false bytes pa pa pa left rest
closed_as xs all made made' out out' o b d ba pa left rest from gone bytes text f g own sum short more fresh r =
    let w : PartWindow = record { from = ba - d; gone = pa - ba; parts = r.own } in
    let t : TextWindow = record { from = from; gone = gone; text = text } in
    let end : length (drop (windows_end r.before.new) xs) ≡ length xs - windows_end r.before.new = length-drop (windows_end r.before.new) xs in
    let none : pa - pa ≡ 0 = omega arith in
    let so_far : List Part = take (ba - d) (drop d xs) in
    record {
      before = record {
        new = r.before.new ++ w ∷ [];
        texts = subst (λ ms. AreTextsOf ms (r.before.new ++ w ∷ [])) (sym more) (texts_more made r.before.new t w r.before.texts f g (own r.own r.text));
        there = there_more r.before.new w xs r.before.there (omega (arith, end, r.before.done_is, r.ahead, r.back, r.within));
        done_is = let all_ends : windows_end (r.before.new ++ w ∷ []) ≡ windows_end r.before.new + ((ba - d) + (pa - ba)) = ends_more r.before.new w in omega (arith, all_ends, r.before.done_is, r.ahead, r.back);
        count = let all_texts : text_count made' ≡ text_count made + length text = ap text_count more ∙ count_more made t in omega (arith, all_texts, added bytes (b + length text) sum short, r.before.count);
        few = short;
      };
      own = [];
      ahead = omega arith;
      back = omega arith;
      within = r.within;
      text = fresh ∙ sym (pushed_none (drafted limit []));
      closed = λ e. (refl, refl);
      left_is = r.left_is;
      rest_is =
          ap (λ n. windows_front (r.before.new ++ w ∷ []) xs ++ (take n (drop pa xs) ++ rest)) none ∙
          (ap (λ ps. ps ++ rest) (front_more r.before.new w xs ∙ ap (λ n. windows_front r.before.new xs ++ (take (ba - d) (drop n xs) ++ r.own)) (sym r.before.done_is)) ∙
          (append_assoc (windows_front r.before.new xs) (so_far ++ r.own) rest ∙ (ap (λ ps. windows_front r.before.new xs ++ ps) (append_assoc so_far r.own rest) ∙ r.rest_is)));
    }

-- the texts are past the limit, so all is
pub past_as : (xs all : List Part) (made : List TextWindow) (out : Drafted) (o : Bool) (b d ba pa : ℕ) (left rest : List Part) (bytes : ℕ) (text : Bytes) →
    ((own : List Part) → out ≡ pushed (drafted limit []) (flat_map spell_part own) → text ≡ flat_map spell_part own) → bytes ≡ min (b + length text) (2 ^ 64 - 1) → limit < bytes →
    Reached xs all made out o b d ba pa left rest → limit < length (flat_map spell_part all)
past_as xs all made out o b d ba pa left rest bytes text own sum long r =
    let same : length text ≡ length (flat_map spell_part r.own) = ap length (own r.own r.text) in
    let longer : limit < b + length (flat_map spell_part r.own) = omega (arith, same, sum, long) in
    let so_far : List Part = take (ba - d) (drop d xs) in
    let whole : size (windows_front r.before.new xs ++ (so_far ++ (r.own ++ rest))) ≡ size all = ap size r.rest_is in
    let one : size (windows_front r.before.new xs ++ (so_far ++ (r.own ++ rest))) ≡ size (windows_front r.before.new xs) + size (so_far ++ (r.own ++ rest)) = size_append (windows_front r.before.new xs) (so_far ++ (r.own ++ rest)) in
    let two : size (so_far ++ (r.own ++ rest)) ≡ size so_far + size (r.own ++ rest) = size_append so_far (r.own ++ rest) in
    let three : size (r.own ++ rest) ≡ size r.own + size rest = size_append r.own rest in
    let less : text_count made ≤ size (windows_front r.before.new xs) = texts_below made r.before.new xs r.before.texts in
    omega (arith, whole, one, two, three, less, longer, r.before.count)

-- ---- how long all is

pub within_fits : (n : ℕ) → n ≤ limit → within_limit n ≡ Some n
within_fits n l = ap (λ t. if t then Some n else None) (le-leb n limit l)

-- a turn of the loop over the parts that give way
pub gone_turn : (ts : List TextWindow) (k : ℕ) (t : TextWindow) (xs others gone following : List Part) (total all : ℕ) → k < length ts → t ≡ get_or ts k t → others ≡ drop t.from xs → gone ≡ take t.gone others → following ≡ drop t.gone others →
    total + size xs ≤ limit → total + gone_length (drop k ts) xs ≡ all →
    (total + size gone + size following ≤ limit) × (total + size gone + gone_length (drop (k + 1) ts) following ≡ all)
gone_turn ts k t xs others gone following total all h is is_others is_gone is_following le e =
    let lost : List Part = take t.gone (drop t.from xs) in
    let rest : List Part = drop (t.from + t.gone) xs in
    let whole : size xs ≡ size (take t.from xs) + (size lost + size rest) = size_window t.from t.gone xs in
    let one : gone ≡ lost = is_gone ∙ ap (λ ps. take t.gone ps) is_others in
    let two : following ≡ rest = is_following ∙ (ap (λ ps. drop t.gone ps) is_others ∙ drop-drop t.gone t.from xs) in
    let first : drop k ts ≡ t ∷ drop (k + 1) ts = drop_more ts k t h ∙ ap (λ s. s ∷ drop (k + 1) ts) (sym is) in
    let own : size gone ≡ size lost = ap size one in
    let behind : size following ≡ size rest = ap size two in
    let cut : gone_length (drop k ts) xs ≡ size lost + gone_length (drop (k + 1) ts) rest = ap (λ ss. gone_length ss xs) first in
    let last : gone_length (drop (k + 1) ts) following ≡ gone_length (drop (k + 1) ts) rest = ap (gone_length (drop (k + 1) ts)) two in
    (omega (arith, whole, own, behind, le), omega (arith, cut, own, last, e))
