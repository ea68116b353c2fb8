-- Groups of comment lines, given by the numbers of the lines.
use Rattle.bz_hosts.proofs.Words.{[], ◌&&◌, ◌++◌, ◌∙◌, ◌∷◌, ◌≡◌, all_but_last, ap, append_assoc, as_list, bare_lines, before_groups, Bool, Bytes, false, GapLine, get_or, groups_of, if◌then◌else◌, last_group, length, List, map, map-append, None, Option, option_map_or, refl, right_above, Some, suc, sym, true, zero, ℕ}
use Rattle.std.proofs.{Math.Bool.and_assoc, Math.Bool.and_comm, lemmas.Simd.map-map}

-- ---- what one line more on top adds

abbrev comment_on : List GapLine → ℕ → Option Bytes
comment_on lines n = get_or (map (λ line. line.comment) lines) n None

abbrev has : Option Bytes → Bool
has None = false
has (Some text) = true

-- every line before this one has a comment
abbrev reaches : List GapLine → ℕ → Bool
reaches ls zero = true
reaches ls (suc n) = has (comment_on ls n) && reaches ls n

swap : (a b c : Bool) → (a && (b && c)) ≡ (b && (a && c))
swap a b c = sym (and_assoc a b c) ∙ (ap (λ z. z && c) (and_comm a b) ∙ and_assoc b a c)

reaches_after : (x : GapLine) (ls : List GapLine) (n : ℕ) → reaches (x ∷ ls) (suc n) ≡ (has x.comment && reaches ls n)
reaches_after x ls zero = refl
reaches_after x ls (suc n) = ap (λ b. has (comment_on ls n) && b) (reaches_after x ls n) ∙ swap (has (comment_on ls n)) (has x.comment) (reaches ls n)

first_above : (c : Option Bytes) → option_map_or (λ text. text ∷ []) c [] ≡ as_list c ++ []
first_above None = refl
first_above (Some text) = refl

next_above : (c : Option Bytes) (r : Bool) (top a b : List Bytes) → a ≡ (if r then top else []) ++ b → option_map_or (λ text. a ++ text ∷ []) c [] ≡ (if has c && r then top else []) ++ option_map_or (λ text. b ++ text ∷ []) c []
next_above None r top a b e = refl
next_above (Some text) r top a b e = ap (λ (z : List Bytes). z ++ text ∷ []) e ∙ append_assoc (if r then top else []) b (text ∷ [])

above_after : (x : GapLine) (ls : List GapLine) (n : ℕ) → right_above (x ∷ ls) (suc n) ≡ (if reaches ls n then as_list x.comment else []) ++ right_above ls n
above_after x ls zero = first_above x.comment
above_after x ls (suc n) = next_above (comment_on ls n) (reaches ls n) (as_list x.comment) (right_above (x ∷ ls) (suc n)) (right_above ls n) (above_after x ls n)

-- ---- the groups, and whether each reaches up to the first line

abbrev Collected : Type 0
Collected = Bool × List Bytes

abbrev collected : List GapLine → ℕ → Collected
collected ls n = (reaches ls n, right_above ls n)

abbrev more : Option Bytes → Collected → Collected
more c t = (has c && t.0, (if t.0 then as_list c else []) ++ t.1)

collected_after : (x : GapLine) (ls : List GapLine) (n : ℕ) → collected (x ∷ ls) (suc n) ≡ more x.comment (collected ls n)
collected_after x ls n = ap (λ (b : Bool). let t : Collected = (b, right_above (x ∷ ls) (suc n)) in t) (reaches_after x ls n) ∙ ap (λ (z : List Bytes). let t : Collected = (has x.comment && reaches ls n, z) in t) (above_after x ls n)

-- the line after each group
abbrev stops : List GapLine → List ℕ
stops ls = bare_lines 0 ls ++ length ls ∷ []

all_collected : (x : GapLine) (ls : List GapLine) (ns : List ℕ) → map (collected (x ∷ ls)) (map (λ n. suc n) ns) ≡ map (more x.comment) (map (collected ls) ns)
all_collected x ls [] = refl
all_collected x ls (n ∷ ns) = ap (λ (z : Collected). z ∷ map (collected (x ∷ ls)) (map (λ n. suc n) ns)) (collected_after x ls n) ∙ ap (λ (z : List Collected). more x.comment (collected ls n) ∷ z) (all_collected x ls ns)

unless_shift : (c : Option Bytes) (n : ℕ) → option_map_or (λ text. []) c (suc n ∷ []) ≡ map (λ n. suc n) (option_map_or (λ text. []) c (n ∷ []))
unless_shift None n = refl
unless_shift (Some text) n = refl

bare_shift : (n : ℕ) (ls : List GapLine) → bare_lines (suc n) ls ≡ map (λ n. suc n) (bare_lines n ls)
bare_shift n [] = refl
bare_shift n (x ∷ ls) =
    ap (λ z. z ++ bare_lines (suc (suc n)) ls) (unless_shift x.comment n)
    ∙ (ap (λ z. map (λ n. suc n) (option_map_or (λ text. []) x.comment (n ∷ [])) ++ z) (bare_shift (suc n) ls) ∙ sym (map-append (λ n. suc n) (option_map_or (λ text. []) x.comment (n ∷ [])) (bare_lines (suc n) ls)))

stops_after : (x : GapLine) (ls : List GapLine) → stops (x ∷ ls) ≡ option_map_or (λ text. []) x.comment (0 ∷ []) ++ map (λ n. suc n) (stops ls)
stops_after x ls =
    append_assoc (option_map_or (λ text. []) x.comment (0 ∷ [])) (bare_lines 1 ls) (suc (length ls) ∷ [])
    ∙ ap (λ z. option_map_or (λ text. []) x.comment (0 ∷ []) ++ z) (ap (λ z. z ++ suc (length ls) ∷ []) (bare_shift 0 ls) ∙ sym (map-append (λ n. suc n) (bare_lines 0 ls) (length ls ∷ [])))

abbrev unmarked : List Bytes → Collected
unmarked group = (false, group)

abbrev marked : List (List Bytes) → List Collected
marked [] = []
marked (group ∷ groups) = let t : Collected = (true, group) in t ∷ map unmarked groups

unmarked_more : (c : Option Bytes) (groups : List (List Bytes)) → map (more c) (map unmarked groups) ≡ map unmarked groups
unmarked_more c [] = refl
unmarked_more None (group ∷ groups) = ap (λ (z : List Collected). unmarked group ∷ z) (unmarked_more None groups)
unmarked_more (Some text) (group ∷ groups) = ap (λ (z : List Collected). unmarked group ∷ z) (unmarked_more (Some text) groups)

-- there is a group, if an empty one
pub record HasGroup (groups : List (List Bytes)) : Type 0 where
  pub group : List Bytes
  pub others : List (List Bytes)
  pub is : groups ≡ group ∷ others

before_has : (c : Option Bytes) (groups : List (List Bytes)) → HasGroup (before_groups c groups)
before_has None groups = record { group = []; others = groups; is = refl }
before_has (Some text) [] = record { group = text ∷ []; others = []; is = refl }
before_has (Some text) (group ∷ groups) = record { group = text ∷ group; others = groups; is = refl }

pub has_group : (ls : List GapLine) → HasGroup (groups_of ls)
has_group [] = record { group = []; others = []; is = refl }
has_group (x ∷ ls) = before_has x.comment (groups_of ls)

marked_before : (x : GapLine) (ls : List GapLine) (c : Option Bytes) (group : List Bytes) (groups : List (List Bytes)) →
    map (collected (x ∷ ls)) (option_map_or (λ text. []) c (0 ∷ [])) ++ map (more c) (marked (group ∷ groups)) ≡ marked (before_groups c (group ∷ groups))
marked_before x ls None group groups = ap (λ (z : List Collected). collected (x ∷ ls) 0 ∷ unmarked group ∷ z) (unmarked_more None groups)
marked_before x ls (Some text) group groups = ap (λ (z : List Collected). let t : Collected = (true, text ∷ group) in t ∷ z) (unmarked_more (Some text) groups)

groups_collected : (ls : List GapLine) → map (collected ls) (stops ls) ≡ marked (groups_of ls)
groups_collected [] = refl
groups_collected (x ∷ ls) =
    let g : HasGroup (groups_of ls) = has_group ls in
    ap (map (collected (x ∷ ls))) (stops_after x ls)
    ∙ (map-append (collected (x ∷ ls)) (option_map_or (λ text. []) x.comment (0 ∷ [])) (map (λ n. suc n) (stops ls))
    ∙ (ap (λ (z : List Collected). map (collected (x ∷ ls)) (option_map_or (λ text. []) x.comment (0 ∷ [])) ++ z) (all_collected x ls (stops ls) ∙ ap (map (more x.comment)) (groups_collected ls ∙ ap marked g.is))
    ∙ (marked_before x ls x.comment g.group g.others ∙ ap (λ (z : List (List Bytes)). marked (before_groups x.comment z)) (sym g.is))))

-- ---- the groups alone

texts : List Collected → List (List Bytes)
texts ts = map (λ t. t.1) ts

texts_unmarked : (groups : List (List Bytes)) → map (λ (t : Collected). t.1) (map unmarked groups) ≡ groups
texts_unmarked [] = refl
texts_unmarked (group ∷ groups) = ap (λ (z : List (List Bytes)). group ∷ z) (texts_unmarked groups)

texts_marked : (groups : List (List Bytes)) → texts (marked groups) ≡ groups
unfolding texts
texts_marked [] = refl
texts_marked (group ∷ groups) = ap (λ (z : List (List Bytes)). group ∷ z) (texts_unmarked groups)

texts_collected : (ls : List GapLine) (ns : List ℕ) → texts (map (collected ls) ns) ≡ map (right_above ls) ns
unfolding texts
texts_collected ls ns = map-map _ _ ns

pub all_numbered : (ls : List GapLine) → groups_of ls ≡ map (right_above ls) (bare_lines 0 ls ++ length ls ∷ [])
all_numbered ls = sym (texts_marked (groups_of ls)) ∙ (ap texts (sym (groups_collected ls)) ∙ texts_collected ls (stops ls))

-- ---- the last, and the others

front_of : (groups : List (List Bytes)) (last : List Bytes) → all_but_last (groups ++ last ∷ []) ≡ groups
front_of [] last = refl
front_of (group ∷ []) last = refl
front_of (group ∷ next ∷ groups) last = ap (λ (z : List (List Bytes)). group ∷ z) (front_of (next ∷ groups) last)

last_of : (groups : List (List Bytes)) (last : List Bytes) → last_group (groups ++ last ∷ []) ≡ last
last_of [] last = refl
last_of (group ∷ []) last = refl
last_of (group ∷ next ∷ groups) last = last_of (next ∷ groups) last

split : (ls : List GapLine) → groups_of ls ≡ map (right_above ls) (bare_lines 0 ls) ++ right_above ls (length ls) ∷ []
split ls = all_numbered ls ∙ map-append (right_above ls) (bare_lines 0 ls) (length ls ∷ [])

pub alone_numbered : (ls : List GapLine) → all_but_last (groups_of ls) ≡ map (right_above ls) (bare_lines 0 ls)
alone_numbered ls = ap all_but_last (split ls) ∙ front_of (map (right_above ls) (bare_lines 0 ls)) (right_above ls (length ls))

pub last_numbered : (ls : List GapLine) → last_group (groups_of ls) ≡ right_above ls (length ls)
last_numbered ls = ap last_group (split ls) ∙ last_of (map (right_above ls) (bare_lines 0 ls)) (right_above ls (length ls))
