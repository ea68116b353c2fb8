-- The lines of all statements, as one walk collects them or passes them.
use Rattle.bz_grammar.proofs.Words.{[], ◌++◌, ◌+◌, ◌-◌, ◌<◌, ◌∙◌, ◌∷◌, ◌≡◌, ◌≤◌, all_passed, AllByRecursion, ap, append-nil, append_assoc, arith, Bool, both_ways, drop, drop_more, end_of-Part, false, flat_map, fronts, fronts_part, fronts_row, gap_of, get_or, has_statements, if◌then◌else◌, is_stated, items-the_row-Part, length, line_following, List, map, map-append, more_of-Part, nat_eq, ne_eqb, newlines, Node, None, Option, option_map, own_front, Part, passed_line, refl, Row_of-Part, slice_get, Some, Sought, spell_part, subst, suc, sym, take, true, zero, ℕ}
use Rattle.bz_grammar.specs.declared.tree.Part.TheVariants as v
use Rattle.bz_grammar.proofs.{Nested.row_of, Nested.items_of_row, Nested.part_ind, Spells.spell_Node, Spells.spelled_so_far, Statements.text_to, Statements.text_more, Statements.newlines_within, Statements.newlines_append}

-- ---- the statements of a node, by its list of parts

fronts_rows : (m : _) (r : Row_of-Part m) (front : List ℕ) → fronts_row front r ≡ fronts front (items-the_row-Part m r)
fronts_rows m end_of-Part front = refl
fronts_rows m (more_of-Part x rest) front = ap (λ ts. fronts_part front x ++ ts) (fronts_rows _ rest (front ++ spell_part x))

pub fronts_Node : (n : Node) (front : List ℕ) → fronts_part front (v.Node n) ≡ own_front front (v.Node n) ++ (if has_statements n.kind then fronts front n.parts else [])
fronts_Node n front =
    ap (λ ts. own_front front (v.Node n) ++ (if has_statements n.kind then ts else [])) (fronts_rows _ (row_of n).1 front ∙ ap (fronts front) (items_of_row n))

-- ---- after more of a text

abbrev Further : List ℕ → Part → Type 0
Further f x = (g : List ℕ) → fronts_part (f ++ g) x ≡ map (λ t. f ++ t) (fronts_part g x)

own_further : (f g gap : List ℕ) (b : Bool) → (if b then ((f ++ g) ++ gap) ∷ [] else []) ≡ map (λ t. f ++ t) (if b then (g ++ gap) ∷ [] else [])
own_further f g gap true = ap (λ t. t ∷ []) (append_assoc f g gap)
own_further f g gap false = refl

within_further : (f : List ℕ) (ts us : List (List ℕ)) (b : Bool) → ts ≡ map (λ t. f ++ t) us → (if b then ts else []) ≡ map (λ t. f ++ t) (if b then us else [])
within_further f ts us true e = e
within_further f ts us false e = refl

all_further : (f g : List ℕ) (xs : List Part) → AllByRecursion (Further f) xs → fronts (f ++ g) xs ≡ map (λ t. f ++ t) (fronts g xs)
all_further f g [] such = refl
all_further f g (x ∷ xs) such =
    ap (λ ts. fronts_part (f ++ g) x ++ fronts ts xs) (append_assoc f g (spell_part x))
    ∙ (ap (λ ts. ts ++ fronts (f ++ (g ++ spell_part x)) xs) (such.0 g) ∙ (ap (λ ts. map (λ t. f ++ t) (fronts_part g x) ++ ts) (all_further f (g ++ spell_part x) xs such.1)
    ∙ sym (map-append (λ t. f ++ t) (fronts_part g x) (fronts (g ++ spell_part x) xs))))

part_further : (f : List ℕ) (x : Part) → Further f x
part_further f = part_ind (Further f) (λ l g. refl) node
  where
    node : (n : Node) → AllByRecursion (Further f) n.parts → Further f (v.Node n)
    node n such g =
        fronts_Node n (f ++ g) ∙ (ap (λ ts. ts ++ (if has_statements n.kind then fronts (f ++ g) n.parts else [])) (own_further f g (gap_of (v.Node n)) (is_stated (v.Node n)))
        ∙ (ap (λ ts. map (λ t. f ++ t) (own_front g (v.Node n)) ++ ts) (within_further f _ _ (has_statements n.kind) (all_further f g n.parts such))
        ∙ (sym (map-append (λ t. f ++ t) (own_front g (v.Node n)) (if has_statements n.kind then fronts g n.parts else [])) ∙ sym (ap (map (λ t. f ++ t)) (fronts_Node n g)))))

each_further : (f : List ℕ) (xs : List Part) → AllByRecursion (Further f) xs
each_further f [] = tt
each_further f (x ∷ xs) = (part_further f x, each_further f xs)

-- what is in front of statements after a text is that text, and what is in front of them in the parts alone
pub fronts_further : (f : List ℕ) (xs : List Part) → fronts f xs ≡ map (λ t. f ++ t) (fronts [] xs)
fronts_further f xs = ap (λ t. fronts t xs) (sym (append-nil f)) ∙ all_further f [] xs (each_further f xs)

-- ---- the lines of parts

-- the lines of parts that are after a text
abbrev pub lines_among : List ℕ → List Part → List ℕ
lines_among here xs = map line_following (fronts here xs)

abbrev pub lines_part : List ℕ → Part → List ℕ
lines_part here x = map line_following (fronts_part here x)

-- a node in which no statement is; one in which they are
pub lines_alone : (n : Node) (front : List ℕ) → has_statements n.kind ≡ false → lines_part front (v.Node n) ≡ map line_following (own_front front (v.Node n))
lines_alone n front none = ap (map line_following) (fronts_Node n front ∙ rw none (append-nil _))

pub lines_within : (n : Node) (front : List ℕ) → has_statements n.kind ≡ true → lines_part front (v.Node n) ≡ map line_following (own_front front (v.Node n)) ++ lines_among front n.parts
lines_within n front some = ap (map line_following) (fronts_Node n front ∙ rw some refl) ∙ map-append line_following (own_front front (v.Node n)) _

-- the same of a part that is this node, with its parts as they are handed on
pub alone_lines : (x : Part) (n : Node) (front : List ℕ) → x ≡ v.Node n → has_statements n.kind ≡ false → map line_following (own_front front x) ≡ lines_part front x
alone_lines x n front is empty = subst (λ y. map line_following (own_front front y) ≡ lines_part front y) (sym is) (sym (lines_alone n front empty))

pub within_lines : (x : Part) (n : Node) (ps : List Part) (front : List ℕ) → x ≡ v.Node n → ps ≡ n.parts → has_statements n.kind ≡ true → map line_following (own_front front x) ++ lines_among front ps ≡ lines_part front x
within_lines x n ps front is own some =
    ap (λ qs. map line_following (own_front front x) ++ lines_among front qs) own ∙ subst (λ y. map line_following (own_front front y) ++ lines_among front n.parts ≡ lines_part front y) (sym is) (sym (lines_within n front some))

pub inner_text : (x : Part) (n : Node) (ps : List Part) → x ≡ v.Node n → ps ≡ n.parts → flat_map spell_part ps ≡ spell_part x
inner_text x n ps is own = ap (flat_map spell_part) own ∙ (sym (spell_Node n) ∙ sym (ap spell_part is))

-- ---- one turn of a walk over parts

-- the i-th part and those after it
pub among_split : (front : List ℕ) (xs : List Part) (i : ℕ) (d : Part) → i < length xs → d ≡ get_or xs i d
    → lines_among (text_to front xs i) (drop i xs) ≡ lines_part (text_to front xs i) d ++ lines_among (text_to front xs (i + 1)) (drop (i + 1) xs)
among_split front xs i d h is =
    ap (lines_among (text_to front xs i)) (drop_more xs i d h) ∙ (ap (λ y. lines_among (text_to front xs i) (y ∷ drop (i + 1) xs)) (sym is)
    ∙ (map-append line_following (fronts_part (text_to front xs i) d) _ ∙ ap (λ t. lines_part (text_to front xs i) d ++ lines_among t (drop (i + 1) xs)) (text_more front xs i d h is)))

pub pushed_turn : (front : List ℕ) (xs : List Part) (i : ℕ) (d : Part) (now new all : List ℕ) → i < length xs → d ≡ get_or xs i d → new ≡ now ++ lines_part (text_to front xs i) d
    → now ++ lines_among (text_to front xs i) (drop i xs) ≡ all → new ++ lines_among (text_to front xs (i + 1)) (drop (i + 1) xs) ≡ all
pushed_turn front xs i d now new all h is e so_far =
    ap (λ t. t ++ lines_among (text_to front xs (i + 1)) (drop (i + 1) xs)) e ∙ (append_assoc now (lines_part (text_to front xs i) d) _ ∙ (ap (λ t. now ++ t) (sym (among_split front xs i d h is)) ∙ so_far))

pub passed_both : (s : Sought) (ls ms : List ℕ) → all_passed s (ls ++ ms) ≡ all_passed (all_passed s ls) ms
passed_both s [] ms = refl
passed_both s (l ∷ ls) ms = passed_both (passed_line s l) ls ms

pub passed_turn : (front : List ℕ) (xs : List Part) (i : ℕ) (d : Part) (now new all : Sought) → i < length xs → d ≡ get_or xs i d → new ≡ all_passed now (lines_part (text_to front xs i) d)
    → all_passed now (lines_among (text_to front xs i) (drop i xs)) ≡ all → all_passed new (lines_among (text_to front xs (i + 1)) (drop (i + 1) xs)) ≡ all
passed_turn front xs i d now new all h is e so_far =
    ap (λ (s : Sought). all_passed s (lines_among (text_to front xs (i + 1)) (drop (i + 1) xs))) e
    ∙ (sym (passed_both now (lines_part (text_to front xs i) d) _) ∙ (ap (all_passed now) (sym (among_split front xs i d h is)) ∙ so_far))

-- the line after one more part
pub line_turn : (xs : List Part) (i first line next : ℕ) (d : Part) → i < length xs → d ≡ get_or xs i d → next ≡ line + newlines (spell_part d) → line ≡ first + newlines (flat_map spell_part (take i xs)) → next ≡ first + newlines (flat_map spell_part (take (i + 1) xs))
line_turn xs i first line next d h is e at =
    let more : newlines (flat_map spell_part (take (i + 1) xs)) ≡ newlines (flat_map spell_part (take i xs)) + newlines (spell_part d) =
    sym (ap newlines (text_more [] xs i d h is)) ∙ newlines_append (flat_map spell_part (take i xs)) (spell_part d) in
    omega (arith, at, e, more)

-- the line so far and the bytes of the next part are no more than the bytes of all
pub part_fits : (xs : List Part) (i first line : ℕ) (d : Part) → i < length xs → d ≡ get_or xs i d → line ≡ first + newlines (flat_map spell_part (take i xs)) → line + length (spell_part d) ≤ first + length (flat_map spell_part xs)
part_fits xs i first line d h is at =
    let one : length (spell_part d) ≡ length (spell_part (get_or xs i d)) = ap (λ y. length (spell_part y)) is in
    omega (arith, spelled_so_far xs i d h, newlines_within (flat_map spell_part (take i xs)), at, one)

-- ---- the one that is sought

found_stays : (left line : ℕ) (ls : List ℕ) → (all_passed (record { left = left; line = Some line }) ls).line ≡ Some line
found_stays left line [] = refl
found_stays left line (l ∷ ls) = found_stays left line ls

abbrev seeking : ℕ → Option ℕ → Sought
seeking left line = record { left = left; line = line }

by_left : (b : Bool) (left line n : ℕ) → b ≡ false → n ≡ left → (if b then seeking 0 (Some line) else seeking n None) ≡ seeking left None
by_left true left line n e is = absurd (both_ways true e refl)
by_left false left line n e is = ap (λ m. seeking m None) is

-- one that comes before the one that is sought
passed_one : (left line : ℕ) → passed_line (seeking (suc left) None) line ≡ seeking left None
passed_one left line = by_left (nat_eq (suc left) 0) left line (suc left - 1) (ne_eqb (suc left) 0 (λ e. absurd (omega (arith, e)))) (omega arith)

pub sought_line : (ts : List (List ℕ)) (left : ℕ) → (all_passed (record { left = left; line = None }) (map line_following ts)).line ≡ option_map line_following (slice_get ts left)
sought_line [] left = refl
sought_line (t ∷ ts) zero = found_stays 0 (line_following t) (map line_following ts)
sought_line (t ∷ ts) (suc left) = ap (λ (s : Sought). (all_passed s (map line_following ts)).line) (passed_one left (line_following t)) ∙ sought_line ts left
