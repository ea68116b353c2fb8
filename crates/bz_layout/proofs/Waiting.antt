-- Whole lines of comments at file level: their groups, and the Blocks that wait in a gap.
use Rattle.bz_layout.proofs.Words.{[], ◌++◌, ◌∙◌, ◌∷◌, ◌≡◌, all_but_last, AllByRecursion, ap, append-nil, append_assoc, before_groups, blocks, Bytes, comment_lines, GapLine, groups_of, IsComment, Item, Item as i, last_group, line_feed, lines_of, List, None, Option, refl, Some, sym}
use Rattle.bz_layout.proofs.{Gapped.ended_line, Gapped.commented, Gapped.comment_line, Made.two}

-- ---- whole lines

-- a gap of these lines, each with its newline
abbrev pub AreLines : Bytes → List GapLine → Type 0
AreLines gap ls = (rest : Bytes) → lines_of (gap ++ rest) ≡ ls ++ lines_of rest

pub lines_append : (a b : Bytes) (ls ms : List GapLine) → AreLines a ls → AreLines b ms → AreLines (a ++ b) (ls ++ ms)
lines_append a b ls ms h k rest = ap lines_of (append_assoc a b rest) ∙ (h (b ++ rest) ∙ (ap (λ z. ls ++ z) (k rest) ∙ sym (append_assoc ls ms (lines_of rest))))

pub comments_are_lines : (texts : List Bytes) → AllByRecursion IsComment texts → AreLines (comment_lines texts) (commented 0 texts)
comments_are_lines [] h rest = refl
comments_are_lines (text ∷ texts) h rest =
    ap lines_of (append_assoc text (line_feed ∷ comment_lines texts) rest) ∙ (comment_line 0 text (comment_lines texts ++ rest) h.0 ∙ ap (λ z. ended_line 0 (Some text) ∷ z) (comments_are_lines texts h.1 rest))

pub whole_lines : (gap : Bytes) (ls : List GapLine) → AreLines gap ls → lines_of gap ≡ ls
whole_lines gap ls h = ap lines_of (sym (append-nil gap)) ∙ (h [] ∙ append-nil ls)

-- ---- groups

record Groups (gs : List (List Bytes)) : Type 0 where
  first : List Bytes
  more : List (List Bytes)
  all : gs ≡ first ∷ more

group_before : (comment : Option Bytes) (gs : List (List Bytes)) → Groups gs → Groups (before_groups comment gs)
group_before None gs h = record { first = []; more = gs; all = refl }
group_before (Some text) gs h = record { first = text ∷ h.first; more = h.more; all = ap (before_groups (Some text)) h.all }

-- there is a group
some_group : (ls : List GapLine) → Groups (groups_of ls)
some_group [] = record { first = []; more = []; all = refl }
some_group (l ∷ ls) = group_before l.comment (groups_of ls) (some_group ls)

cut_before : (comment : Option Bytes) (gs hs : List (List Bytes)) → Groups gs → before_groups comment (gs ++ hs) ≡ before_groups comment gs ++ hs
cut_before None gs hs h = refl
cut_before (Some text) gs hs h = ap (λ z. before_groups (Some text) (z ++ hs)) h.all ∙ ap (λ z. before_groups (Some text) z ++ hs) (sym h.all)

groups_cut : (a b : List GapLine) → groups_of (a ++ (ended_line 0 None ∷ b)) ≡ groups_of a ++ groups_of b
groups_cut [] b = refl
groups_cut (l ∷ a) b = ap (before_groups l.comment) (groups_cut a b) ∙ cut_before l.comment (groups_of a) (groups_of b) (some_group a)

groups_commented : (texts : List Bytes) → groups_of (commented 0 texts) ≡ texts ∷ []
groups_commented [] = refl
groups_commented (text ∷ texts) = ap (before_groups (Some text)) (groups_commented texts)

front_kept : (gs : List (List Bytes)) (g : List Bytes) → all_but_last (gs ++ (g ∷ [])) ≡ gs
front_kept [] g = refl
front_kept (a ∷ []) g = refl
front_kept (a ∷ b ∷ gs) g = ap (λ z. a ∷ z) (front_kept (b ∷ gs) g)

last_kept : (gs : List (List Bytes)) (g : List Bytes) → last_group (gs ++ (g ∷ [])) ≡ g
last_kept [] g = refl
last_kept (a ∷ []) g = refl
last_kept (a ∷ b ∷ gs) g = last_kept (b ∷ gs) g

blocks_append : (gs hs : List (List Bytes)) → blocks (gs ++ hs) ≡ blocks gs ++ blocks hs
blocks_append [] hs = refl
blocks_append ([] ∷ gs) hs = blocks_append gs hs
blocks_append ((text ∷ g) ∷ gs) hs = ap (λ z. i.Block (text ∷ g) ∷ z) (blocks_append gs hs)

-- all groups: those but the last, and the last
last_apart : (g : List Bytes) (more : List (List Bytes)) → g ∷ more ≡ all_but_last (g ∷ more) ++ (last_group (g ∷ more) ∷ [])
last_apart g [] = refl
last_apart g (b ∷ gs) = ap (λ z. g ∷ z) (last_apart b gs)

split_last : (gs : List (List Bytes)) → Groups gs → gs ≡ all_but_last gs ++ (last_group gs ∷ [])
split_last gs h = h.all ∙ (last_apart h.first h.more ∙ ap (λ z. all_but_last z ++ (last_group z ∷ [])) (sym h.all))

all_blocks : (ls : List GapLine) → blocks (groups_of ls) ≡ blocks (all_but_last (groups_of ls)) ++ blocks (last_group (groups_of ls) ∷ [])
all_blocks ls = ap blocks (split_last (groups_of ls) (some_group ls)) ∙ blocks_append (all_but_last (groups_of ls)) (last_group (groups_of ls) ∷ [])

-- ---- Blocks that wait in a gap

-- before any comments, these lines say these Blocks, and the comments are the last group
pub record Waits (ls : List GapLine) (bs : List Item) : Type 0 where
  pub front : (texts : List Bytes) → blocks (all_but_last (groups_of (ls ++ commented 0 texts))) ≡ bs
  pub last : (texts : List Bytes) → last_group (groups_of (ls ++ commented 0 texts)) ≡ texts

pub nothing_waits : Waits [] []
nothing_waits = record { front = λ texts. ap (λ z. blocks (all_but_last z)) (groups_commented texts); last = λ texts. ap last_group (groups_commented texts) }

pub blank_waits : Waits (ended_line 0 None ∷ []) []
blank_waits = record { front = λ texts. ap (λ z. blocks (all_but_last ([] ∷ z))) (groups_commented texts); last = λ texts. ap (λ z. last_group ([] ∷ z)) (groups_commented texts) }

-- before the end of the file they are all Blocks
pub end_blocks : (ls : List GapLine) (bs : List Item) → Waits ls bs → blocks (groups_of ls) ≡ bs
end_blocks ls bs h =
    ap (λ z. blocks (groups_of z)) (sym (append-nil ls)) ∙ (all_blocks (ls ++ []) ∙ (two (λ z w. z ++ blocks (w ∷ [])) (h.front []) (h.last []) ∙ append-nil bs))

-- Comment lines by themselves are a Block.
pub commented_blocks : (ls : List GapLine) (bs : List Item) (text : Bytes) (texts : List Bytes) → Waits ls bs → blocks (groups_of (ls ++ commented 0 (text ∷ texts))) ≡ bs ++ (i.Block (text ∷ texts) ∷ [])
commented_blocks ls bs text texts h = all_blocks (ls ++ commented 0 (text ∷ texts)) ∙ two (λ z w. z ++ blocks (w ∷ [])) (h.front (text ∷ texts)) (h.last (text ∷ texts))

pub block_waits : (ls : List GapLine) (bs : List Item) (text : Bytes) (texts : List Bytes) → Waits ls bs → Waits ((ls ++ commented 0 (text ∷ texts)) ++ (ended_line 0 None ∷ [])) (bs ++ (i.Block (text ∷ texts) ∷ []))
block_waits ls bs text texts h =
    let before : List GapLine = ls ++ commented 0 (text ∷ texts) in
    let all : (above : List Bytes) → groups_of ((before ++ (ended_line 0 None ∷ [])) ++ commented 0 above) ≡ groups_of before ++ (above ∷ []) = λ above.
    ap groups_of (append_assoc before (ended_line 0 None ∷ []) (commented 0 above)) ∙ (groups_cut before (commented 0 above) ∙ ap (λ z. groups_of before ++ z) (groups_commented above)) in
    record {
      front = λ above. ap (λ z. blocks (all_but_last z)) (all above) ∙ (ap blocks (front_kept (groups_of before) above) ∙ commented_blocks ls bs text texts h);
      last = λ above. ap last_group (all above) ∙ last_kept (groups_of before) above;
    }
