-- What is seen of a part, whatever its kind: its root, where what follows it is, its comments and its gap.
use Rattle.bz_hosts.proofs.Words.{[], ◌++◌, ◌∷◌, ◌≡◌, after_expr, after_part, all_fine, all_in, all_joined, AllByRecursion, Along, along, ap, AtLeaves, AtRow, Bool, Bytes, Class, Class as c, comments_of, drop, end_of-Part, false, first_seen_gap, Frame, frame, GapStands, Group, has_break, has_newline, HostComments, is_operator, IsCodedLeaf, IsComment, IsUtf8, IsUtf8-nil, items-the_row-Part, Kind, lead, leaves_at, leaves_part, leaves_row, List, loose_after, loose_in, map, more_of-Part, no_such, Node', one_of_same, Part, Part as p, plain, refl, root, Row_of-Part, SameRoot, Seen, seen, seen_node, seen_row, sequence, Spot, Stands, subst, suc, sym, take, take-append-drop, true, zero, ℕ}

pub seen_rows : (m : _) (r : Row_of-Part m) → seen_row r ≡ map seen (items-the_row-Part m r)
seen_rows m end_of-Part = refl
seen_rows m (more_of-Part x rest) = ap (λ t. seen x ∷ t) (seen_rows _ rest)

-- ---- facts of what is made of a part, for any comments and break

-- the part's root
pub root_made : (x : Part) (cs : HostComments) (b : Bool) → SameRoot x (root ((seen x).make cs b))
root_made (p.Leaf l) cs b = record { token = λ ts. one_of_same ts l; nonterminal = λ q. one_of_same (leaves_at q) l }
root_made (Node' kind n r) cs b = record { token = λ ts. refl; nonterminal = λ q. refl }

pub comments_made : (x : Part) (cs : HostComments) (b : Bool) → comments_of ((seen x).make cs b) ≡ cs
comments_made (p.Leaf l) cs b = refl
comments_made (Node' kind n r) cs b = refl

pub break_made : (x : Part) (cs : HostComments) (b : Bool) → has_break ((seen x).make cs b) ≡ true → b ≡ true
break_made (p.Leaf l) cs b h = h
break_made (Node' kind n r) cs b h = no_such h

pub no_break_made : (x : Part) (cs : HostComments) → has_break ((seen x).make cs false) ≡ false
no_break_made (p.Leaf l) cs = refl
no_break_made (Node' kind n r) cs = refl

pub operator_made : (x : Part) (cs : HostComments) (b : Bool) → is_operator ((seen x).make cs b) ≡ is_operator (plain (seen x))
operator_made (p.Leaf l) cs b = refl
operator_made (Node' kind n r) cs b = refl

pub after_made : (outer here : Spot) (x : Part) (cs : HostComments) (b : Bool) → after_expr outer here ((seen x).make cs b) ≡ after_part outer here x
after_made outer here (p.Leaf l) cs b = refl
after_made outer here (Node' kind n r) cs b = refl

-- ---- no unescaped newline is before a part along a line

gap_along : (class : Class) (gap : Bytes) → GapStands class Along gap → has_newline gap ≡ false
gap_along c.Newline gap h = (along h.0 gap h.1).0
gap_along c.End gap h = absurd h
gap_along _ gap h = (along false gap h).0

mutual
  pub part_along : (x : Part) → AtLeaves Stands Along x → has_newline (seen x).gap ≡ false
  part_along (p.Leaf l) h = gap_along l.class l.gap h
  part_along (Node' kind n r) h = row_along _ r h

  row_along : (m : _) (r : Row_of-Part m) → AtRow Stands Along Along r → has_newline (first_seen_gap (seen_row r)) ≡ false
  row_along m end_of-Part h = refl
  row_along m (more_of-Part x rest) h = part_along x h.0

-- ---- the gap before a part, and the comments that it hands up

pub record Decoded (s : Seen) : Type 0 where
  pub coded : IsUtf8 s.gap
  pub loose : Group s.loose

abbrev pub AllDecoded : List Seen → Type 0
AllDecoded ss = AllByRecursion Decoded ss

pub all_parted : {X : Type 0} (P : X → Type 0) (xs ys : List X) → AllByRecursion P (xs ++ ys) → AllByRecursion P xs × AllByRecursion P ys
all_parted P [] ys h = (tt, h)
all_parted P (x ∷ xs) ys h = let w = all_parted P xs ys h.1 in ((h.0, w.0), w.1)

-- of the first n, and of the others
pub all_cut : {X : Type 0} (P : X → Type 0) (n : ℕ) (xs : List X) → AllByRecursion P xs → AllByRecursion P (take n xs) × AllByRecursion P (drop n xs)
all_cut P n xs h = all_parted P (take n xs) (drop n xs) (subst (AllByRecursion P) (sym (take-append-drop n xs)) h)

pub all_mapped : {X : Type 0} (P Q : X → Type 0) → ((x : X) → P x → Q x) → (xs : List X) → AllByRecursion P xs → AllByRecursion Q xs
all_mapped P Q f [] h = tt
all_mapped P Q f (x ∷ xs) h = (f x h.0, all_mapped P Q f xs h.1)

pub gap_decoded : (ss : List Seen) → AllDecoded ss → IsUtf8 (first_seen_gap ss)
gap_decoded [] h = IsUtf8-nil
gap_decoded (s ∷ ss) h = h.0.coded

after_decoded : (ss : List Seen) → AllDecoded ss → Group (loose_after ss)
after_decoded [] h = tt
after_decoded (s ∷ ss) h = all_joined IsComment (all_in s.gap ++ s.loose) (loose_after ss) (all_joined IsComment (all_in s.gap) s.loose (all_fine s.gap h.0.coded) h.0.loose) (after_decoded ss h.1)

pub in_decoded : (ss : List Seen) → AllDecoded ss → Group (loose_in ss)
in_decoded [] h = tt
in_decoded (s ∷ ss) h = all_joined IsComment s.loose (loose_after ss) h.0.loose (after_decoded ss h.1)

take_decoded : (n : ℕ) (ss : List Seen) → AllDecoded ss → AllDecoded (take n ss)
take_decoded zero [] h = tt
take_decoded (suc n) [] h = tt
take_decoded zero (s ∷ ss) h = tt
take_decoded (suc n) (s ∷ ss) h = (h.0, take_decoded n ss h.1)

pub node_decoded : (f : Frame) (kind : Kind) (ss : List Seen) → AllDecoded ss → Decoded (seen_node f kind ss)
node_decoded (sequence opener closer) kind ss h = record { coded = gap_decoded ss h; loose = in_decoded (take (suc (lead kind)) ss) (take_decoded (suc (lead kind)) ss h) }
node_decoded _ kind ss h = record { coded = gap_decoded ss h; loose = in_decoded ss h }

mutual
  pub part_decoded : (x : Part) → AllByRecursion IsCodedLeaf (leaves_part x) → Decoded (seen x)
  part_decoded (p.Leaf l) h = record { coded = h.0.0; loose = tt }
  part_decoded (Node' kind n r) h = node_decoded (frame kind) kind (seen_row r) (row_decoded _ r h)

  pub row_decoded : (m : _) (r : Row_of-Part m) → AllByRecursion IsCodedLeaf (leaves_row r) → AllDecoded (seen_row r)
  row_decoded m end_of-Part h = tt
  row_decoded m (more_of-Part x rest) h = let w = all_parted IsCodedLeaf (leaves_part x) (leaves_row rest) h in (part_decoded x w.0, row_decoded _ rest w.1)
