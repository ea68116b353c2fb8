-- Parts, expressions and files as the parser reads them.
use Rattle.bz_tree.proofs.Words.{[], ◌-◌, ◌<◌, ◌>>=◌, ◌∙◌, ◌∷◌, ◌≡◌, ◌≤◌, all_leaves, ap, argument, argument_at, arith, as_kind, At, atom_at, begins, begun_at, Bool, bzl_shape, cases_Bool, clause, clause_plan, climb, climbed, comma_mark, compare_tail, cond, cond-false, cond-true, cond_tail, curly, depth_part, done, entry, equals, Err, Fails, false, finish, first, first_clause, first_of, fits_in, follow, found_by, found_from, FoundLevel, full_front, goes, Halts, has_token, Header, header_at, infix_at, inl, inr, IsErrAnd, items-the_row-Part, ItemsAt as items_at, Kind, Kind as k, le-leb, Leaf, length, length-append, level, level_at, line, List, list, ListedItems as items_row, loaded, name, named_tail, node_part, NodeState, NodeState as s, None, Nonterminal, nonterminal_of, Ok, open_curly, open_round, open_square, Option, param, param_at, param_tail, ParseHalt, Part, part_at, PartNonterminal as Place, PartNonterminal as q, plan_of_header, Precedence, Precedence as g, precedence_of, products, put_found, Read, reading, reading_exact, refl, Result, round, run, same_Some, Shape, shape_of_header, shifts, simple, small, small_plan, Some, square, starred, stars, starts_with, StatementAt as statement_at, string, suc, suffix_plan, SuffixAt as suffix_at, suffixes, suffixes_at, sums, sym, Tail as in_rest, Terminal, terminals_of, tok, token_at, token_leaf, token_part, TokenSet, TokenSet as t, true, with_found, with_part_first, wrap, wrap_found, zero, ℕ}
use Rattle.bz_grammar.specs.declared.tree.Part as p
use Rattle.bz_states.specs.declared.state.StarredAt.TheVariants as starred_at
use Rattle.bz_states.specs.declared.state.RoundAt.TheVariants as round_at
use Rattle.bz_grammar.proofs.{Nested.items_of_row, Plans.put_found_some, Plans.not_empty_plan, Plans.plan_exact, Nodes.wrap_found_some}
use Rattle.bz_tree.proofs.Steps.{bind_same, halts, reading_sound, token_parts}

-- ---- nodes of an empty row, and of one part

wrapped : (kind : Kind) (o : Option (List Part × List Leaf)) → wrap kind o ≡ wrap_found (with_found [] (as_kind kind o))
wrapped kind None = refl
wrapped kind (Some x) = refl

wrapped_one : (kind : Kind) (a : Part) (o : Option (List Part × List Leaf)) → wrap kind (with_part_first a o) ≡ wrap_found (with_found (a ∷ []) (as_kind kind o))
wrapped_one kind a None = refl
wrapped_one kind a (Some x) = refl

found_plain : (o : Option (FoundLevel × List Leaf)) → wrap_found o ≡ wrap_found (with_found [] o)
found_plain None = refl
found_plain (Some x) = refl

found_one : (a : Part) (o : Option (FoundLevel × List Leaf)) → wrap_found (put_found a o) ≡ wrap_found (with_found (a ∷ []) o)
found_one a None = refl
found_one a (Some x) = refl

-- ---- results handed on

pub row_same : (d : ℕ) (state : NodeState) (ts : List Leaf) (ps ps' : List Part) → ps ≡ ps' → found_from d ps' state ts ≡ found_from d ps state ts
row_same d state ts ps ps' e = ap (λ (z : List Part). found_from d z state ts) (sym e)

pub handed_on : {X Y Y' : Type 0} (e : ParseHalt) (result : Result X ParseHalt) (o : Option Y) (all : Option Y') → IsErrAnd result (λ f. f ≡ e) → Halts e o → (o ≡ None → all ≡ None) → Fails result all
handed_on e (Ok x) o all is w f = tt
handed_on e (Err g) o all is w f = let is' : g ≡ e = is in rw is' (halts e o all w f)

-- ---- parts of a sort

pub level_is : (d n : ℕ) (ts : List Leaf) → part_at (suc d) (level n) ts ≡ level_at d n ts
unfolding part_at level_at
level_is d n ts = refl

pub argument_is : (d : ℕ) (ts : List Leaf) → part_at (suc d) argument ts ≡ argument_at d ts
unfolding part_at argument_at
argument_is d ts = refl

pub entry_is : (d : ℕ) (ts : List Leaf) → part_at (suc d) entry ts ≡ found_from d [] s.Entry ts
unfolding part_at found_from found_by
entry_is d ts = wrapped k.Entry (run (reading d) (bzl_shape k.Entry) ts)

pub clause_is : (d : ℕ) (ts : List Leaf) → part_at (suc d) clause ts ≡ found_from d [] s.Clause ts
unfolding part_at found_from found_by
clause_is d ts = found_plain (follow (reading d) clause_plan ts)

pub first_clause_is : (d : ℕ) (ts : List Leaf) → part_at (suc d) first_clause ts ≡ found_from d [] s.For ts
unfolding part_at found_from found_by
first_clause_is d ts = wrapped k.For (run (reading d) (bzl_shape k.For) ts)

pub small_is : (d : ℕ) (ts : List Leaf) → part_at (suc d) small ts ≡ found_from d [] (s.Statement statement_at.Begin) ts
unfolding part_at found_from found_by
small_is d ts = found_plain (follow (reading d) small_plan ts)

pub line_is : (d : ℕ) (ts : List Leaf) → part_at (suc d) line ts ≡ found_from d [] (s.Items items_row.Statements items_at.Part) ts
unfolding part_at found_from found_by
line_is d ts = wrapped k.Line (run (reading d) (bzl_shape k.Line) ts)

pub alias_is : (d : ℕ) (ts : List Leaf) → starts_with name ts ≡ true → part_at (suc d) loaded ts ≡ found_from d [] s.Alias ts
unfolding part_at found_from found_by
alias_is d ts h = cond-true (starts_with name ts) _ _ h ∙ wrapped k.Alias (run (reading d) (bzl_shape k.Alias) ts)

pub loaded_is : (d : ℕ) (ts : List Leaf) → starts_with name ts ≡ false → part_at (suc d) loaded ts ≡ token_at string ts
unfolding part_at token_at
loaded_is d ts h = cond-false (starts_with name ts) _ _ h

one_less : (d : ℕ) → (d ≡ 0 → ⊥) → d ≡ suc (d - 1)
one_less zero h = absurd (h refl)
one_less (suc d) h = omega arith

-- a part of a sort, by the parts inside
pub inside : (place place' : Place) (d : ℕ) (ts : List Leaf) (o : Option (Part × List Leaf)) → place ≡ place' → (d ≡ 0 → ⊥) → part_at (suc (d - 1)) (nonterminal_of place') ts ≡ o → part_at d (nonterminal_of place) ts ≡ o
inside place place' d ts o is h e = let same : d ≡ suc (d - 1) = one_less d h in ap (λ (n : ℕ). part_at n (nonterminal_of place) ts) same ∙ ap (λ (z : Place). part_at (suc (d - 1)) (nonterminal_of z) ts) is ∙ e

pub part_depth : (d : ℕ) (nonterminal : Nonterminal) (ts rest : List Leaf) (x : Part) → part_at d nonterminal ts ≡ Some (x, rest) → depth_part x ≤ d
unfolding part_at
part_depth d nonterminal ts rest x e = (reading_sound d nonterminal ts (x, rest) e).0.2

-- ---- operators

unfit : {A B : Type 0} (b : Bool) (a : A) (o : Option B) → cond b (Some a) None ≡ None → cond b o None ≡ None
unfit true a o e = absurd cc
unfit false a o e = refl

infix_is : (d : ℕ) (kind : Kind) (r : Shape) (n : ℕ) (ts : List Leaf) → infix_at kind (fits_in d) r (reading d) (climb d (reading d) n) ts ≡
    (level_at d n ts >>= λ a. cond (starts_with (first r) a.1) (cond (fits_in d a.0) (found_by d (a.0 ∷ []) (finish kind r) a.1) None) (Some (a.0, a.1)))
unfolding level_at found_by
infix_is d kind r n ts =
    bind_same (climb d (reading d) n ts) (λ a. cond (starts_with (first r) a.1) (cond (fits_in d a.0) (wrap kind (with_part_first a.0 (run (reading d) r a.1))) None) (Some a))
    (λ a. cond (starts_with (first r) a.1) (cond (fits_in d a.0) (wrap_found (with_found (a.0 ∷ []) (as_kind kind (run (reading d) r a.1)))) None) (Some (a.0, a.1)))
    (λ a e. ap (λ o. cond (starts_with (first r) a.1) (cond (fits_in d a.0) o None) (Some a)) (wrapped_one kind a.0 (run (reading d) r a.1)))

prefix_is : (d : ℕ) (kind : Kind) (r : Shape) (n : ℕ) (ts : List Leaf) → cond (starts_with (first r) ts) (wrap kind (run (reading d) r ts)) (climb d (reading d) n ts) ≡ cond (starts_with (first r) ts) (found_by d [] (finish kind r) ts) (level_at d n ts)
unfolding level_at found_by
prefix_is d kind r n ts = ap (λ o. cond (starts_with (first r) ts) o (climb d (reading d) n ts)) (wrapped kind (run (reading d) r ts))

abbrev tail_of : ℕ → List Terminal → Shape
tail_of n operators = tok operators (list (level n) operators false done)

pub level_step : (d n : ℕ) (ts : List Leaf) → level_at d (suc n) ts ≡ climbed d (precedence_of n) (level_at d n) ts
unfolding level_at begun_at found_from
level_step d zero ts = prefix_is d k.Unary (bzl_shape k.Unary) 0 ts
level_step d (suc zero) ts = infix_is d k.Product (tail_of 1 products) 1 ts
level_step d (suc (suc zero)) ts = infix_is d k.Sum (tail_of 2 sums) 2 ts
level_step d (suc (suc (suc zero))) ts = infix_is d k.Shift (tail_of 3 shifts) 3 ts
level_step d (suc (suc (suc (suc zero)))) ts = infix_is d k.BitAnd (tail_of 4 (terminals_of t.Ampersand)) 4 ts
level_step d (suc (suc (suc (suc (suc zero))))) ts = infix_is d k.Xor (tail_of 5 (terminals_of t.Caret)) 5 ts
level_step d (suc (suc (suc (suc (suc (suc zero)))))) ts = infix_is d k.BitOr (tail_of 6 (terminals_of t.Bar)) 6 ts
level_step d (suc (suc (suc (suc (suc (suc (suc zero))))))) ts = infix_is d k.Compare compare_tail 7 ts
level_step d (suc (suc (suc (suc (suc (suc (suc (suc zero)))))))) ts = prefix_is d k.Not (bzl_shape k.Not) 8 ts
level_step d (suc (suc (suc (suc (suc (suc (suc (suc (suc zero))))))))) ts = infix_is d k.And (tail_of 9 (terminals_of t.And)) 9 ts
level_step d (suc (suc (suc (suc (suc (suc (suc (suc (suc (suc zero)))))))))) ts = infix_is d k.Or (tail_of 10 (terminals_of t.Or)) 10 ts
level_step d (suc (suc (suc (suc (suc (suc (suc (suc (suc (suc (suc zero))))))))))) ts = infix_is d k.Cond (tok (terminals_of t.If) cond_tail) 11 ts
level_step d (suc (suc (suc (suc (suc (suc (suc (suc (suc (suc (suc (suc zero)))))))))))) ts = prefix_is d k.Lambda (bzl_shape k.Lambda) 12 ts
level_step d (suc (suc (suc (suc (suc (suc (suc (suc (suc (suc (suc (suc (suc zero))))))))))))) ts = infix_is d k.Row (tail_of 13 comma_mark) 13 ts
level_step d (suc (suc (suc (suc (suc (suc (suc (suc (suc (suc (suc (suc (suc (suc n)))))))))))))) ts = refl

module _ (d n : ℕ) (ts : List Leaf) (h : n ≡ 0 → ⊥) where
  climb_by : (r : Precedence) → r ≡ precedence_of (n - 1) → level_at d n ts ≡ climbed d r (level_at d (n - 1)) ts
  climb_by r e = ap (λ (m : ℕ). level_at d m ts) (one_less n h) ∙ level_step d (n - 1) ts ∙ ap (λ (z : Precedence). climbed d z (level_at d (n - 1)) ts) (sym e)

  pub level_prefix : (token : TokenSet) (state : NodeState) → g.Prefix token state ≡ precedence_of (n - 1) → starts_with (terminals_of token) ts ≡ true → level_at d n ts ≡ found_from d [] state ts
  level_prefix token state e b = climb_by (g.Prefix token state) e ∙ cond-true (starts_with (terminals_of token) ts) _ _ b

  pub level_begun : (token : TokenSet) (state : NodeState) (a : Part) (rest : List Leaf) → g.Infix token state ≡ precedence_of (n - 1) → level_at d (n - 1) ts ≡ Some (a, rest) → level_at d n ts ≡ begun_at d token state a rest
  level_begun token state a rest e b = climb_by (g.Infix token state) e ∙ ap (λ (o : Option (Part × List Leaf)). o >>= λ a. begun_at d token state a.0 a.1) b

module _ (d : ℕ) (token : TokenSet) (state : NodeState) (a : Part) (ts : List Leaf) where
  pub begun_stays : starts_with (terminals_of token) ts ≡ false → begun_at d token state a ts ≡ Some (a, ts)
  unfolding begun_at
  begun_stays h = cond-false (starts_with (terminals_of token) ts) _ _ h

  pub begun_goes : starts_with (terminals_of token) ts ≡ true → fits_in d a ≡ true → begun_at d token state a ts ≡ found_from d (a ∷ []) state ts
  unfolding begun_at
  begun_goes h f = cond-true (starts_with (terminals_of token) ts) _ _ h ∙ cond-true (fits_in d a) _ _ f

-- ---- atoms

module _ (d : ℕ) (ts : List Leaf) where
  pub atom_round : starts_with open_round ts ≡ true → atom_at d ts ≡ found_from d [] (s.Round round_at.Open) ts
  unfolding atom_at found_from found_by
  atom_round h = cond-true (starts_with open_round ts) _ _ h ∙ found_plain (follow (reading d) round ts)

  pub atom_square : starts_with open_round ts ≡ false → starts_with open_square ts ≡ true → atom_at d ts ≡ found_from d [] s.Square ts
  unfolding atom_at found_from found_by
  atom_square g h = cond-false (starts_with open_round ts) _ _ g ∙ cond-true (starts_with open_square ts) _ _ h ∙ found_plain (follow (reading d) square ts)

  pub atom_curly : starts_with open_round ts ≡ false → starts_with open_square ts ≡ false → starts_with open_curly ts ≡ true → atom_at d ts ≡ found_from d [] s.Curly ts
  unfolding atom_at found_from found_by
  atom_curly f g h = cond-false (starts_with open_round ts) _ _ f ∙ cond-false (starts_with open_square ts) _ _ g ∙ cond-true (starts_with open_curly ts) _ _ h ∙ found_plain (follow (reading d) curly ts)

  pub atom_leaf : starts_with open_round ts ≡ false → starts_with open_square ts ≡ false → starts_with open_curly ts ≡ false → atom_at d ts ≡ token_at simple ts
  unfolding atom_at token_at
  atom_leaf f g h = cond-false (starts_with open_round ts) _ _ f ∙ cond-false (starts_with open_square ts) _ _ g ∙ cond-false (starts_with open_curly ts) _ _ h

-- ---- what is after a primary

pub primary_is : (d : ℕ) (ts : List Leaf) → level_at d 0 ts ≡ (atom_at d ts >>= λ a. suffixes_at d a.0 a.1)
unfolding level_at atom_at suffixes_at
primary_is d ts = refl

pub primary_atom : (d : ℕ) (ts rest : List Leaf) (a : Part) → atom_at d ts ≡ Some (a, rest) → suffixes_at d a rest ≡ level_at d 0 ts
primary_atom d ts rest a e = sym (primary_is d ts ∙ ap (λ (o : Option (Part × List Leaf)). o >>= λ a. suffixes_at d a.0 a.1) e)

pub primary_none : (d : ℕ) (ts : List Leaf) → atom_at d ts ≡ None → level_at d 0 ts ≡ None
primary_none d ts e = primary_is d ts ∙ ap (λ (o : Option (Part × List Leaf)). o >>= λ a. suffixes_at d a.0 a.1) e

abbrev suffixed : ℕ → Part → Read Part
suffixed d a ts = wrap_found (put_found a (follow (reading d) suffix_plan ts))

suffixed_takes : (d : ℕ) (a : Part) (ts : List Leaf) (y : Part × List Leaf) → suffixed d a ts ≡ Some y → suc (length y.1) ≤ length ts
suffixed_takes d a ts y e =
    let w = wrap_found_some (put_found a (follow (reading d) suffix_plan ts)) y e in
    let p = put_found_some a (follow (reading d) suffix_plan ts) w.0 w.1 in
    let x = (plan_exact (At d) (begins d) goes (reading d) (reading_exact d) suffix_plan refl).sound ts p.0 p.1 in
    let some = full_front (first_of suffix_plan) (all_leaves p.0.0.1) (not_empty_plan (At d) (begins d) suffix_plan p.0.0.0 p.0.0.1 [] x.0 refl) in
    omega (arith, ap length x.1, length-append (all_leaves p.0.0.1) p.0.1, ap (λ (z : Part × List Leaf). length z.1) w.2, ap (λ (z : FoundLevel × List Leaf). length z.1) p.2)

suffixes_same : (d n m : ℕ) (a : Part) (ts : List Leaf) → length ts ≤ n → length ts ≤ m → suffixes n d (reading d) a ts ≡ suffixes m d (reading d) a ts
suffixes_same d zero zero a ts g h = refl
suffixes_same d zero (suc m) a [] g h = refl
suffixes_same d zero (suc m) a (t ∷ ts) g h = absurd (omega arith)
suffixes_same d (suc n) zero a [] g h = refl
suffixes_same d (suc n) zero a (t ∷ ts) g h = absurd (omega arith)
suffixes_same d (suc n) (suc m) a ts g h =
    ap (λ o. cond (starts_with (first_of suffix_plan) ts) (cond (fits_in d a) o None) (Some (a, ts)))
    (bind_same (suffixed d a ts) (λ x. suffixes n d (reading d) x.0 x.1) (λ x. suffixes m d (reading d) x.0 x.1)
    (λ x e. suffixes_same d n m x.0 x.1 (omega (arith, suffixed_takes d a ts x e)) (omega (arith, suffixed_takes d a ts x e))))

suffix_is : (d : ℕ) (a : Part) (ts : List Leaf) → found_from d (a ∷ []) (s.Suffix suffix_at.Begin) ts ≡ suffixed d a ts
unfolding found_from found_by
suffix_is d a ts = sym (found_one a (follow (reading d) suffix_plan ts))

suffix_step : (d : ℕ) (a : Part) (ts : List Leaf) → suffixes_at d a ts ≡ cond (starts_with (first_of suffix_plan) ts) (cond (fits_in d a) (suffixed d a ts >>= λ x. suffixes_at d x.0 x.1) None) (Some (a, ts))
unfolding suffixes_at
suffix_step d a ts =
    suffixes_same d (length ts) (suc (length ts)) a ts (omega arith) (omega arith) ∙
    ap (λ o. cond (starts_with (first_of suffix_plan) ts) (cond (fits_in d a) o None) (Some (a, ts)))
    (bind_same (suffixed d a ts) (λ x. suffixes (length ts) d (reading d) x.0 x.1) (λ x. suffixes (length x.1) d (reading d) x.0 x.1)
    (λ x e. suffixes_same d (length ts) (length x.1) x.0 x.1 (omega (arith, suffixed_takes d a ts x e)) (omega arith)))

module _ (d : ℕ) (a : Part) (ts : List Leaf) where
  pub suffix_stops : starts_with (terminals_of t.Suffixes) ts ≡ false → suffixes_at d a ts ≡ Some (a, ts)
  suffix_stops h = suffix_step d a ts ∙ cond-false (starts_with (first_of suffix_plan) ts) _ _ h

  pub suffix_unfit : starts_with (terminals_of t.Suffixes) ts ≡ true → cond (fits_in d a) (Some a) None ≡ None → suffixes_at d a ts ≡ None
  suffix_unfit h f = suffix_step d a ts ∙ cond-true (starts_with (first_of suffix_plan) ts) _ _ h ∙ unfit (fits_in d a) a _ f

  suffix_reads : starts_with (terminals_of t.Suffixes) ts ≡ true → fits_in d a ≡ true → suffixes_at d a ts ≡ (found_from d (a ∷ []) (s.Suffix suffix_at.Begin) ts >>= λ x. suffixes_at d x.0 x.1)
  suffix_reads h f = suffix_step d a ts ∙ cond-true (starts_with (first_of suffix_plan) ts) _ _ h ∙ cond-true (fits_in d a) _ _ f ∙ ap (λ (o : Option (Part × List Leaf)). o >>= λ x. suffixes_at d x.0 x.1) (sym (suffix_is d a ts))

  pub suffix_goes : (x : Part) (rest : List Leaf) → starts_with (terminals_of t.Suffixes) ts ≡ true → fits_in d a ≡ true → found_from d (a ∷ []) (s.Suffix suffix_at.Begin) ts ≡ Some (x, rest) → suffixes_at d x rest ≡ suffixes_at d a ts
  suffix_goes x rest h f e = sym (suffix_reads h f ∙ ap (λ (o : Option (Part × List Leaf)). o >>= λ x. suffixes_at d x.0 x.1) e)

  pub suffix_none : starts_with (terminals_of t.Suffixes) ts ≡ true → fits_in d a ≡ true → found_from d (a ∷ []) (s.Suffix suffix_at.Begin) ts ≡ None → suffixes_at d a ts ≡ None
  suffix_none h f e = suffix_reads h f ∙ ap (λ (o : Option (Part × List Leaf)). o >>= λ x. suffixes_at d x.0 x.1) e

  pub suffix_shorter : (x : Part) (rest : List Leaf) → found_from d (a ∷ []) (s.Suffix suffix_at.Begin) ts ≡ Some (x, rest) → length rest < length ts
  suffix_shorter x rest e = let w = suffixed_takes d a ts (x, rest) (sym (suffix_is d a ts) ∙ e) in omega (arith, w)

-- ---- arguments

module _ (d : ℕ) (ts : List Leaf) where
  pub star_is : starts_with stars ts ≡ true → argument_at d ts ≡ found_from d [] (s.Rest k.Star (in_rest.TokenPart t.Stars (q.Level 13))) ts
  unfolding argument_at found_from found_by
  star_is h = cond-true (starts_with stars ts) _ _ h ∙ wrapped k.Star (run (reading d) (bzl_shape k.Star) ts)

  abbrev named : Read Part
  named us = level_at d 13 us >>= λ a. cond (starts_with equals a.1) (cond (has_token name a.0) (found_from d (a.0 ∷ []) (s.Rest k.Named (in_rest.TokenPart t.Equals (q.Level 13))) a.1) None) (Some a)

  named_is : starts_with stars ts ≡ false → argument_at d ts ≡ named ts
  unfolding argument_at found_from found_by level_at
  named_is h =
      cond-false (starts_with stars ts) _ _ h ∙
      bind_same (climb d (reading d) 13 ts) (λ a. cond (starts_with equals a.1) (cond (has_token name a.0) (wrap k.Named (with_part_first a.0 (run (reading d) named_tail a.1))) None) (Some a))
      (λ a. cond (starts_with equals a.1) (cond (has_token name a.0) (wrap_found (with_found (a.0 ∷ []) (as_kind k.Named (run (reading d) named_tail a.1)))) None) (Some a))
      (λ a e. ap (λ o. cond (starts_with equals a.1) (cond (has_token name a.0) o None) (Some a)) (wrapped_one k.Named a.0 (run (reading d) named_tail a.1)))

  pub argument_none : starts_with stars ts ≡ false → level_at d 13 ts ≡ None → argument_at d ts ≡ None
  argument_none h e = named_is h ∙ rw e refl

  pub argument_odd : (a : Part) (rest : List Leaf) → starts_with stars ts ≡ false → level_at d 13 ts ≡ Some (a, rest) → starts_with equals rest ≡ true → has_token name a ≡ false → argument_at d ts ≡ None
  argument_odd a rest h e m n = named_is h ∙ rw (e, m, n) refl

  pub named_fits : (a : Part) → has_token name a ≡ true → fits_in d a ≡ true
  named_fits a h = let w = token_leaf name a h in rw w.1 (le-leb 0 d (omega arith))

  pub argument_stays : (a : Part) (rest : List Leaf) → starts_with stars ts ≡ false → level_at d 13 ts ≡ Some (a, rest) → starts_with equals rest ≡ false → argument_at d ts ≡ Some (a, rest)
  argument_stays a rest h e m = named_is h ∙ rw (e, m) refl

  pub argument_named : (a : Part) (rest : List Leaf) → starts_with stars ts ≡ false → level_at d 13 ts ≡ Some (a, rest) → has_token name a ≡ true → argument_at d ts ≡ begun_at d t.Equals (s.Rest k.Named (in_rest.TokenPart t.Equals (q.Level 13))) a rest
  argument_named a rest h e n =
      elim (cases_Bool (starts_with equals rest)) [
        | inl m ↦ named_is h ∙ rw (e, m, n) (sym (begun_goes d t.Equals (s.Rest k.Named (in_rest.TokenPart t.Equals (q.Level 13))) a rest m (named_fits a n)))
        | inr m ↦ argument_stays a rest h e m ∙ sym (begun_stays d t.Equals (s.Rest k.Named (in_rest.TokenPart t.Equals (q.Level 13))) a rest m)
      ]

-- ---- parameters

pub param_is : (d : ℕ) (ts : List Leaf) → part_at (suc d) param ts ≡ param_at d ts
unfolding part_at param_at
param_is d ts = refl

module _ (d : ℕ) (ts : List Leaf) where
  pub starred_is : starts_with stars ts ≡ true → param_at d ts ≡ found_from d [] (s.Starred starred_at.Begin) ts
  unfolding param_at found_from found_by
  starred_is h = cond-true (starts_with stars ts) _ _ h ∙ wrapped k.Param (run (reading d) starred ts)

  abbrev valued : Read Part
  valued us = token_at name us >>= λ a. cond (starts_with equals a.1) (cond (has_token name a.0) (found_from d (a.0 ∷ []) (s.Rest k.Param (in_rest.TokenPart t.Equals (q.Level 13))) a.1) None) (Some a)

  valued_is : starts_with stars ts ≡ false → param_at d ts ≡ valued ts
  unfolding param_at found_from found_by token_at
  valued_is h =
      cond-false (starts_with stars ts) _ _ h ∙
      bind_same (token_part name ts) (λ a. cond (starts_with equals a.1) (cond (has_token name a.0) (wrap k.Param (with_part_first a.0 (run (reading d) param_tail a.1))) None) (Some a))
      (λ a. cond (starts_with equals a.1) (cond (has_token name a.0) (wrap_found (with_found (a.0 ∷ []) (as_kind k.Param (run (reading d) param_tail a.1)))) None) (Some a))
      (λ a e. ap (λ o. cond (starts_with equals a.1) (cond (has_token name a.0) o None) (Some a)) (wrapped_one k.Param a.0 (run (reading d) param_tail a.1)))

  pub param_none : starts_with stars ts ≡ false → token_at name ts ≡ None → param_at d ts ≡ None
  param_none h e = valued_is h ∙ rw e refl

  pub param_stays : (a : Part) (rest : List Leaf) → starts_with stars ts ≡ false → token_at name ts ≡ Some (a, rest) → starts_with equals rest ≡ false → param_at d ts ≡ Some (a, rest)
  param_stays a rest h e m = valued_is h ∙ rw (e, m) refl

  pub param_valued : (a : Part) (rest : List Leaf) → starts_with stars ts ≡ false → token_at name ts ≡ Some (a, rest) → param_at d ts ≡ begun_at d t.Equals (s.Rest k.Param (in_rest.TokenPart t.Equals (q.Level 13))) a rest
  param_valued a rest h e =
      let w = token_parts name ts rest a e in
      let n : has_token name a ≡ true = rw w.3 w.2 in
      elim (cases_Bool (starts_with equals rest)) [
        | inl m ↦ valued_is h ∙ rw (e, m, n) (sym (begun_goes d t.Equals (s.Rest k.Param (in_rest.TokenPart t.Equals (q.Level 13))) a rest m (named_fits d ts a n)))
        | inr m ↦ param_stays a rest h e m ∙ sym (begun_stays d t.Equals (s.Rest k.Param (in_rest.TokenPart t.Equals (q.Level 13))) a rest m)
      ]

-- ---- headers

abbrev back : Part → List Part
back (p.Leaf l) = []
back (p.Node' kind size row) = items-the_row-Part _ row

back_is : (kind : Kind) (ps : List Part) → back (node_part kind ps) ≡ ps
back_is kind ps = items_of_row (record { kind = kind; parts = ps })

same_parts : (kind kind' : Kind) (ps qs : List Part) → node_part kind ps ≡ node_part kind' qs → ps ≡ qs
same_parts kind kind' ps qs h = sym (back_is kind ps) ∙ ap back h ∙ back_is kind' qs

framed_some : (kind kind' : Kind) (o : Option (List Part × List Leaf)) (ps : List Part) (rest : List Leaf) → wrap_found (with_found [] (as_kind kind o)) ≡ Some (node_part kind' ps, rest) → o ≡ Some (ps, rest)
framed_some kind kind' None ps rest e = absurd cc
framed_some kind kind' (Some y) ps rest e =
    let w = same_Some (node_part kind y.0, y.1) (node_part kind' ps, rest) e in
    ap (λ (z : List Part). Some (z, y.1)) (same_parts kind kind' y.0 ps (ap (λ (z : Part × List Leaf). z.0) w)) ∙ ap (λ (z : List Leaf). Some (ps, z)) (ap (λ (z : Part × List Leaf). z.1) w)

framed_none : (kind : Kind) (o : Option (List Part × List Leaf)) → wrap_found (with_found [] (as_kind kind o)) ≡ None → o ≡ None
framed_none kind None e = refl
framed_none kind (Some y) e = absurd cc

module _ (d : ℕ) (header : Header) (ts : List Leaf) where
  pub header_some : (kind : Kind) (ps : List Part) (rest : List Leaf) → found_by d [] (plan_of_header header) ts ≡ Some (node_part kind ps, rest) → header_at d header ts ≡ Some (ps, rest)
  unfolding found_by header_at
  header_some kind ps rest e = framed_some k.Suite kind (run (reading d) (shape_of_header header) ts) ps rest e

  pub header_none : found_by d [] (plan_of_header header) ts ≡ None → header_at d header ts ≡ None
  unfolding found_by header_at
  header_none e = framed_none k.Suite (run (reading d) (shape_of_header header) ts) e
