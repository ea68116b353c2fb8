-- Groups of comment lines, read from the left.
use Rattle.bz_hosts.proofs.Words.{[], ◌++◌, ◌∙◌, ◌∷◌, ◌≡◌, all_but_last, ap, append-nil, append_assoc, blocks, Bool, Bor, Bytes, GapLine, groups_of, Item, Item as i, last_group, lines_of, List, None, Option, option_copied, prepend, refl, Some, subst, sym, ℕ}
use Rattle.bz_hosts.proofs.Numbered.{has_group}

prepend_none : (ls : List GapLine) → prepend [] (groups_of ls) ≡ groups_of ls
prepend_none ls = let w = has_group ls in ap (prepend []) w.is ∙ sym w.is

block_first : (group : List Bytes) (gs : List (List Bytes)) → blocks ((group ++ []) ∷ gs) ≡ blocks (group ∷ []) ++ blocks gs
block_first [] gs = refl
block_first (t ∷ ts) gs = ap (λ l. i.Block l ∷ blocks gs) (append-nil (t ∷ ts))

abbrev group_at : List Bytes → List (List Bytes) → Type 0
group_at group gs = (blocks (all_but_last ((group ++ []) ∷ gs)) ≡ blocks (group ∷ []) ++ blocks (all_but_last (prepend [] gs))) × (last_group ((group ++ []) ∷ gs) ≡ last_group (prepend [] gs))

-- after a line without comment the group so far is a Block, and another one begins
group_ends : (group : List Bytes) (ls : List GapLine) → group_at group (groups_of ls)
group_ends group ls = let w = has_group ls in subst (group_at group) (sym w.is) (block_first group (all_but_last (w.group ∷ w.others)), refl)

-- ---- one more line

-- items and the last group so far, with the lines that are left, are the same as those with all lines
abbrev pub Pushed : List Item → List Bytes → List GapLine → List Item → List Bytes → List GapLine → Type 0
Pushed new last rest old group lines = (more : List GapLine) → (new ++ blocks (all_but_last (prepend last (groups_of (rest ++ more)))) ≡ old ++ blocks (all_but_last (prepend group (groups_of (lines ++ more)))))
    × (last_group (prepend last (groups_of (rest ++ more))) ≡ last_group (prepend group (groups_of (lines ++ more))))

pub block_pushed : (gap : Bytes) (indent : ℕ) (newline : Bool) (rest lines : List GapLine) (last next group : List Bytes) (items after old : List Item) → lines_of gap ≡ record { indent = indent; comment = None; newline = newline } ∷ rest →
    next ≡ [] → after ≡ items ++ blocks (last ∷ []) → Pushed items last (lines_of gap) old group lines → Pushed after next rest old group lines
block_pushed gap indent newline rest lines last next group items after old e n f h more =
    let left : List Item = blocks (all_but_last (prepend [] (groups_of (rest ++ more)))) in
    let gone : group_at last (groups_of (rest ++ more)) = group_ends last (rest ++ more) in (
      ap (λ t. after ++ blocks (all_but_last (prepend t (groups_of (rest ++ more))))) n ∙ (ap (λ t. t ++ left) f ∙ (append_assoc items (blocks (last ∷ [])) left ∙
          (ap (λ t. items ++ t) (sym (ap (λ ls. blocks (all_but_last (prepend last (groups_of (ls ++ more))))) e ∙ gone.0)) ∙ (h more).0))),
      ap (λ t. last_group (prepend t (groups_of (rest ++ more)))) n ∙ (sym (ap (λ ls. last_group (prepend last (groups_of (ls ++ more)))) e ∙ gone.1) ∙ (h more).1),
    )

-- a line that was read and has no comment
pub bare_line : (ls rest : List GapLine) (o : Option (Bor Bytes)) (indent : ℕ) (newline : Bool) → ls ≡ record { indent = indent; comment = option_copied o; newline = newline } ∷ rest → o ≡ None → ls ≡ record { indent = indent; comment = None; newline = newline } ∷ rest
bare_line ls rest None indent newline e i = e
bare_line ls rest (Some b) indent newline e i = cc

-- ---- two gaps

pub groups_pushed : (ls ms : List GapLine) (none first last : List Bytes) (old mid new : List Item) → none ≡ [] → Pushed mid first [] old none ls → Pushed new last [] mid first ms →
    (new ≡ old ++ blocks (all_but_last (groups_of (ls ++ ms)))) × (last ≡ last_group (groups_of (ls ++ ms)))
groups_pushed ls ms none first last old mid new n f g =
    let whole : prepend none (groups_of (ls ++ ms)) ≡ groups_of (ls ++ ms) = ap (λ t. prepend t (groups_of (ls ++ ms))) n ∙ prepend_none (ls ++ ms) in (
      sym (append-nil new) ∙ ((g []).0 ∙ (ap (λ t. mid ++ blocks (all_but_last (prepend first (groups_of t)))) (append-nil ms) ∙ ((f ms).0 ∙ ap (λ t. old ++ blocks (all_but_last t)) whole))),
      sym (append-nil last) ∙ ((g []).1 ∙ (ap (λ t. last_group (prepend first (groups_of t))) (append-nil ms) ∙ ((f ms).1 ∙ ap last_group whole))),
    )

-- all groups are those but the last, and the last
all_groups : (group : List Bytes) (gs : List (List Bytes)) → blocks (group ∷ gs) ≡ blocks (all_but_last (group ∷ gs)) ++ blocks (last_group (group ∷ gs) ∷ [])
all_groups group [] = refl
all_groups [] (next ∷ gs) = all_groups next gs
all_groups (t ∷ ts) (next ∷ gs) = ap (λ r. i.Block (t ∷ ts) ∷ r) (all_groups next gs)

abbrev last_apart : List (List Bytes) → Type 0
last_apart gs = blocks gs ≡ blocks (all_but_last gs) ++ blocks (last_group gs ∷ [])

pub last_block : (ls : List GapLine) → last_apart (groups_of ls)
last_block ls = let w = has_group ls in subst last_apart (sym w.is) (all_groups w.group w.others)
