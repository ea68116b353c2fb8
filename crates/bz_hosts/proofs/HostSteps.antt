-- An item of a sequence becomes a host.
use Rattle.bz_hosts.proofs.Words.{[], ◌++◌, ◌+◌, ◌<◌, ◌∙◌, ◌∷◌, ◌≡◌, ◌≤◌, above_after, all_in, ap, append-nil, append_assoc, arith, Bool, Bytes, drop, Expr, false, first_seen_gap, get_or, HostComments, is_split, is_unsigned, Item, Item as i, item_gap, items_in, length, length-drop, length-map, List, map, None, Option, Part, plain, refl, Seen, seen, Seq, seq_in, suffix_in, sym, true, with_comments, ℕ}
use Rattle.bz_hosts.proofs.{NodeViews.seen_comments, RowSteps.seen_here, RowSteps.two_further, UnsignedGaps.nothing_after}

abbrev pub host_comments : List Bytes → Option Bytes → HostComments
host_comments before suffix = record { before = before; suffix = suffix }

-- what the last expression becomes
abbrev pub BecomesHost : List Expr → List Expr → HostComments → Type 0
BecomesHost old new comments = (xs : List Expr) (x : Part) → old ≡ xs ++ plain (seen x) ∷ [] → new ≡ xs ++ (seen x).make comments false ∷ []

same_ends : {X : Type 0} (xs ys : List X) (x y : X) → xs ++ x ∷ [] ≡ ys ++ y ∷ [] → (xs ≡ ys) × (x ≡ y)
same_ends [] [] x y h = (refl, cc)
same_ends [] (b ∷ []) x y h = cc
same_ends [] (b ∷ c ∷ ys) x y h = cc
same_ends (a ∷ []) [] x y h = cc
same_ends (a ∷ c ∷ xs) [] x y h = cc
same_ends (a ∷ xs) (b ∷ ys) x y h = let first : a ≡ b = cc in let rest = same_ends xs ys x y cc in (rw (first, rest.0) refl, rest.1)

-- without comments
pub host_quiet : (ps : List Part) (at : ℕ) (above : List Bytes) (here next : Bool) (es : List Expr) → above ≡ [] →
    here ≡ is_unsigned (first_seen_gap (map seen (drop at ps))) → here ≡ true → next ≡ is_unsigned (first_seen_gap (map seen (drop (at + 1) ps))) → next ≡ true →
    (above ≡ above_after (map seen (drop at ps))) × BecomesHost es es (host_comments above (suffix_in (item_gap (map seen (drop at ps)))))
host_quiet ps at above here next es n h t k u =
    let none = nothing_after ps at (sym h ∙ t) (sym k ∙ u) in (n ∙ sym none.0, λ xs x h. h ∙ ap (λ cs. xs ++ (seen x).make cs false ∷ []) (sym (ap (λ o. host_comments above o) none.1 ∙ ap (λ t. host_comments t None) n)))

-- with comments
pub host_commented : (old left new : List Expr) (last host : Expr) (comments : HostComments) (above before : List Bytes) (suffix : Option Bytes) (gap g : Bytes) → old ≡ left ++ last ∷ [] → new ≡ left ++ host ∷ [] →
    host ≡ with_comments last comments → comments ≡ host_comments before suffix → before ≡ above → suffix ≡ suffix_in gap → gap ≡ g → BecomesHost old new (host_comments above (suffix_in g))
host_commented old left new last host comments above before suffix gap g o n w c b s e xs x h =
    let same = same_ends left xs last (plain (seen x)) (sym o ∙ h) in
    n ∙ rw (w, same.0, same.1, c, b, s, e, seen_comments x false (host_comments above (suffix_in g))) refl

pub statement_hosted : (old left : List Expr) (last host : Expr) (comments : HostComments) (above before : List Bytes) (suffix : Option Bytes) (gap g : Bytes) (items new : List Item) → old ≡ left ++ last ∷ [] → new ≡ items ++ i.Stmt host ∷ [] →
    host ≡ with_comments last comments → comments ≡ host_comments before suffix → before ≡ above → suffix ≡ suffix_in gap → gap ≡ g →
    (x : Part) → old ≡ plain (seen x) ∷ [] → (left ≡ []) × (new ≡ items ++ i.Stmt ((seen x).make (host_comments above (suffix_in g)) false) ∷ [])
statement_hosted old left last host comments above before suffix gap g items new o n w c b s e x h =
    let same = same_ends left [] last (plain (seen x)) (sym o ∙ h) in
    (same.0, n ∙ rw (w, same.1, c, b, s, e, seen_comments x false (host_comments above (suffix_in g))) refl)

-- ---- the items of a sequence

item_step : (above : List Bytes) (s : Seen) (ss : List Seen) → 0 < length ss →
    items_in above (s ∷ ss)
    ≡ (s.make (host_comments (above ++ s.loose) (suffix_in (item_gap ss))) false ∷ (items_in (above_after ss) (drop 1 ss)).0, (items_in (above_after ss) (drop 1 ss)).1)
item_step above s [] l = absurd (omega arith)
item_step above s (mark ∷ []) l = refl
item_step above s (mark ∷ t ∷ ss) l = refl

no_item : (above : List Bytes) (ss : List Seen) → length ss ≤ 1 → items_in above ss ≡ ([], above)
no_item above [] l = refl
no_item above (s ∷ []) l = refl
no_item above (s ∷ t ∷ ss) l = absurd (omega arith)

-- an item and the mark after it, of parts of which those after the item are as they were
pub item_more : (ps qs rest : List Part) (at : ℕ) (y : Part) (above mid next : List Bytes) (es pushed new : List Expr) → at + 1 < length ps → y ≡ get_or ps at y → drop (at + 1) qs ≡ drop (at + 1) ps → rest ≡ drop (at + 2) ps →
    mid ≡ above ++ (seen y).loose → pushed ≡ es ++ plain (seen y) ∷ [] → next ≡ above_after (map seen (drop (at + 1) qs)) →
    BecomesHost pushed new (host_comments mid (suffix_in (item_gap (map seen (drop (at + 1) qs))))) →
    (new ++ (items_in next (map seen rest)).0 ≡ es ++ (items_in above (map seen (drop at ps))).0) × ((items_in next (map seen rest)).1 ≡ (items_in above (map seen (drop at ps))).1)
item_more ps qs rest at y above mid next es pushed new l i same r b k n made =
    let ss : List Seen = map seen (drop (at + 1) ps) in
    let whole : map seen (drop at ps) ≡ seen y ∷ ss = seen_here ps at y (omega arith) i in
    let some : 0 < length ss = omega (arith, length-map (drop (at + 1) ps) seen, length-drop (at + 1) ps) in
    let after : map seen rest ≡ drop 1 ss = two_further ps rest at r in
    let more : List Expr × List Bytes = items_in (above_after ss) (drop 1 ss) in
    let done : Expr = (seen y).make (host_comments (above ++ (seen y).loose) (suffix_in (item_gap ss))) false in
    let held : new ≡ es ++ done ∷ [] =
    made es y k ∙ (ap (λ t. es ++ (seen y).make (host_comments t (suffix_in (item_gap (map seen (drop (at + 1) qs))))) false ∷ []) b ∙
    ap (λ rs. es ++ (seen y).make (host_comments (above ++ (seen y).loose) (suffix_in (item_gap (map seen rs)))) false ∷ []) same) in
    let step : items_in above (map seen (drop at ps)) ≡ (done ∷ more.0, more.1) = ap (items_in above) whole ∙ item_step above (seen y) ss some in
    let left : items_in next (map seen rest) ≡ more = ap (items_in next) after ∙ ap (λ t. items_in t (drop 1 ss)) (n ∙ ap (λ rs. above_after (map seen rs)) same) in (
      ap (λ t. new ++ t.0) left ∙ (ap (λ t. t ++ more.0) held ∙ (append_assoc es (done ∷ []) more.0 ∙ ap (λ t. es ++ t.0) (sym step))),
      ap (λ t. t.1) left ∙ sym (ap (λ t. t.1) step),
    )

abbrev seq_made : List Expr → List Bytes → Bool → Seq
seq_made items end split = record { items = items; end = end; split = split }

-- no item is left
pub items_done : (ps qs : List Part) (at : ℕ) (above end : List Bytes) (es items : List Expr) (split : Bool) → length ps ≤ at + 1 → end ≡ above → items ≡ es →
    es ++ (items_in above (map seen (drop at ps))).0 ≡ (items_in (all_in (first_seen_gap (map seen qs))) (map seen qs)).0 → (items_in above (map seen (drop at ps))).1 ≡ (items_in (all_in (first_seen_gap (map seen qs))) (map seen qs)).1 →
    split ≡ is_split (map seen qs) → seq_made items end split ≡ seq_in (map seen qs)
items_done ps qs at above end es items split l e i j k b =
    let none : items_in above (map seen (drop at ps)) ≡ ([], above) = no_item above (map seen (drop at ps)) (omega (arith, length-map (drop at ps) seen, length-drop at ps)) in
    let found : List Expr × List Bytes = items_in (all_in (first_seen_gap (map seen qs))) (map seen qs) in
    let all : items ≡ found.0 = i ∙ (sym (append-nil es) ∙ (ap (λ t. es ++ t.0) (sym none) ∙ j)) in
    let last : end ≡ found.1 = e ∙ (ap (λ t. t.1) (sym none) ∙ k) in
    ap (λ t. seq_made t end split) all ∙ (ap (λ t. seq_made found.0 t split) last ∙ ap (λ t. seq_made found.0 found.1 t) b)
