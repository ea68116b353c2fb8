-- The items of a row, one at a time: the moves from one to the next, joined.
use Rattle.bz_tree.proofs.Words.{[], ◌<◌, ◌∙◌, ◌≡◌, ap, arith, Expects, false, found_from, ItemsAt as items_at, Kind, Kind as k, Leaf, length, List, ListedItems, ListedItems as rows, Move as m, node_part, NodeState, NodeState as s, None, Nonterminal, nonterminal_of, Option, Part, part_at, PartNonterminal, PartNonterminal as q, plan_at, refl, row_of_items, Some, starts_with, StatementAt, StatementAt as statement_at, SuffixAt, SuffixAt as suffix_at, sym, Tail as in_rest, Terminal, terminals_of, token_at, TokenSet, TokenSet as t, true, ℕ}
use Rattle.bz_states.specs.declared.state.ItemRow.{ItemRow}
use Rattle.bz_states.specs.declared.state.SquareOrCurly.TheVariants as brackets
use Rattle.bz_states.specs.declared.state.BracketsAt.TheVariants as brackets_at
use Rattle.bz_states.specs.declared.state.ClausesAt.TheVariants as clauses_at
use Rattle.bz_tree.proofs.Steps.{token_parts, reading_takes}
use Rattle.bz_tree.proofs.Moves.{Adds, finishes, takes, takes_none, reads, reads_none, chooses_left, chooses_right}

-- a node of which one token is left
module _ (d : ℕ) (kind : Kind) (close : TokenSet) (front : List Part) (ts : List Leaf) where
  expects_token : Expects (plan_at (s.Rest kind (in_rest.Token close))) (m.Take close (s.Rest kind in_rest.Nothing))
  expects_token = (refl, refl)

  pub closes_none : token_at (terminals_of close) ts ≡ None → found_from d front (s.Rest kind (in_rest.Token close)) ts ≡ None
  closes_none n = takes_none d front (s.Rest kind (in_rest.Token close)) ts close (s.Rest kind in_rest.Nothing) expects_token n

  pub closes : (more : List Part) (rest : List Leaf) → Adds (token_at (terminals_of close)) front ts more rest → found_from d front (s.Rest kind (in_rest.Token close)) ts ≡ Some (node_part kind more, rest)
  closes more rest a =
      sym (takes d front (s.Rest kind (in_rest.Token close)) ts close (s.Rest kind in_rest.Nothing) more rest expects_token a) ∙
      finishes d more (s.Rest kind in_rest.Nothing) rest kind refl

-- a node of which a token and a part are left
module _ (d : ℕ) (kind : Kind) (token : TokenSet) (nonterminal : PartNonterminal) (front : List Part) (ts : List Leaf) where
  expects_front : Expects (plan_at (s.Rest kind (in_rest.TokenPart token nonterminal))) (m.Take token (s.Rest kind (in_rest.Part nonterminal)))
  expects_front = (refl, refl)

  expects_part : Expects (plan_at (s.Rest kind (in_rest.Part nonterminal))) (m.Read nonterminal (s.Rest kind in_rest.Nothing))
  expects_part = (refl, refl)

  pub front_none : token_at (terminals_of token) ts ≡ None → found_from d front (s.Rest kind (in_rest.TokenPart token nonterminal)) ts ≡ None
  front_none n = takes_none d front (s.Rest kind (in_rest.TokenPart token nonterminal)) ts token (s.Rest kind (in_rest.Part nonterminal)) expects_front n

  module _ (mid : List Part) (us : List Leaf) (a : Adds (token_at (terminals_of token)) front ts mid us) where
    front_read : found_from d mid (s.Rest kind (in_rest.Part nonterminal)) us ≡ found_from d front (s.Rest kind (in_rest.TokenPart token nonterminal)) ts
    front_read = takes d front (s.Rest kind (in_rest.TokenPart token nonterminal)) ts token (s.Rest kind (in_rest.Part nonterminal)) mid us expects_front a

    pub part_none : part_at d (nonterminal_of nonterminal) us ≡ None → found_from d front (s.Rest kind (in_rest.TokenPart token nonterminal)) ts ≡ None
    part_none n = sym front_read ∙ reads_none d mid (s.Rest kind (in_rest.Part nonterminal)) us nonterminal (s.Rest kind in_rest.Nothing) expects_part n

    pub both_read : (more : List Part) (rest : List Leaf) → Adds (part_at d (nonterminal_of nonterminal)) mid us more rest → found_from d front (s.Rest kind (in_rest.TokenPart token nonterminal)) ts ≡ Some (node_part kind more, rest)
    both_read more rest b =
        sym front_read ∙
        sym (reads d mid (s.Rest kind (in_rest.Part nonterminal)) us nonterminal (s.Rest kind in_rest.Nothing) more rest expects_part b) ∙
        finishes d more (s.Rest kind in_rest.Nothing) rest kind refl

module _ (d : ℕ) (all : ListedItems) (row : ItemRow) (is : row ≡ row_of_items all) (front : List Part) (ts : List Leaf) where
  at_begin : Expects (plan_at (s.Items all items_at.Begin)) (m.Choose row.close (s.Rest row.kind (in_rest.Token row.close)) (s.Items all items_at.Part))
  at_begin = rw is (refl, refl, refl)

  at_part : Expects (plan_at (s.Items all items_at.Part)) (m.Read row.nonterminal (s.Items all items_at.After))
  at_part = rw is (refl, refl)

  at_after : Expects (plan_at (s.Items all items_at.After)) (m.Choose row.separator (s.Items all items_at.Separator) (s.Rest row.kind (in_rest.Token row.close)))
  at_after = rw is (refl, refl, refl)

  at_separator : Expects (plan_at (s.Items all items_at.Separator)) (m.Take row.separator (s.Items all items_at.Begin))
  at_separator = rw is (refl, refl)

  at_more : Expects (plan_at (s.Items all items_at.More)) (m.Choose row.close (s.Rest row.kind (in_rest.Token row.close)) (s.Items all items_at.Separator))
  at_more = rw is (refl, refl, refl)

  pub more_ends : starts_with (terminals_of row.close) ts ≡ true → found_from d front (s.Rest row.kind (in_rest.Token row.close)) ts ≡ found_from d front (s.Items all items_at.More) ts
  more_ends h = chooses_left d front (s.Items all items_at.More) ts row.close (s.Rest row.kind (in_rest.Token row.close)) (s.Items all items_at.Separator) at_more h

  at_separator_read : starts_with (terminals_of row.close) ts ≡ false → found_from d front (s.Items all items_at.Separator) ts ≡ found_from d front (s.Items all items_at.More) ts
  at_separator_read h = chooses_right d front (s.Items all items_at.More) ts row.close (s.Rest row.kind (in_rest.Token row.close)) (s.Items all items_at.Separator) at_more h

  pub more_none : starts_with (terminals_of row.close) ts ≡ false → token_at (terminals_of row.separator) ts ≡ None → found_from d front (s.Items all items_at.More) ts ≡ None
  more_none h n = sym (at_separator_read h) ∙ takes_none d front (s.Items all items_at.Separator) ts row.separator (s.Items all items_at.Begin) at_separator n

  pub more_goes : starts_with (terminals_of row.close) ts ≡ false → (on : List Part) (vs : List Leaf) → Adds (token_at (terminals_of row.separator)) front ts on vs → found_from d on (s.Items all items_at.Begin) vs ≡ found_from d front (s.Items all items_at.More) ts
  more_goes h on vs b = takes d front (s.Items all items_at.Separator) ts row.separator (s.Items all items_at.Begin) on vs at_separator b ∙ at_separator_read h

  pub row_ends : starts_with (terminals_of row.close) ts ≡ true → found_from d front (s.Rest row.kind (in_rest.Token row.close)) ts ≡ found_from d front (s.Items all items_at.Begin) ts
  row_ends h = chooses_left d front (s.Items all items_at.Begin) ts row.close (s.Rest row.kind (in_rest.Token row.close)) (s.Items all items_at.Part) at_begin h

  pub item_none : starts_with (terminals_of row.close) ts ≡ false → part_at d (nonterminal_of row.nonterminal) ts ≡ None → found_from d front (s.Items all items_at.Begin) ts ≡ None
  item_none h n =
      sym (chooses_right d front (s.Items all items_at.Begin) ts row.close (s.Rest row.kind (in_rest.Token row.close)) (s.Items all items_at.Part) at_begin h) ∙
      reads_none d front (s.Items all items_at.Part) ts row.nonterminal (s.Items all items_at.After) at_part n

  module _ (h : starts_with (terminals_of row.close) ts ≡ false) (more : List Part) (us : List Leaf) (a : Adds (part_at d (nonterminal_of row.nonterminal)) front ts more us) where
    item_read : found_from d more (s.Items all items_at.After) us ≡ found_from d front (s.Items all items_at.Begin) ts
    item_read =
        reads d front (s.Items all items_at.Part) ts row.nonterminal (s.Items all items_at.After) more us at_part a ∙
        chooses_right d front (s.Items all items_at.Begin) ts row.close (s.Rest row.kind (in_rest.Token row.close)) (s.Items all items_at.Part) at_begin h

    pub item_last : starts_with (terminals_of row.separator) us ≡ false → found_from d more (s.Rest row.kind (in_rest.Token row.close)) us ≡ found_from d front (s.Items all items_at.Begin) ts
    item_last k = chooses_right d more (s.Items all items_at.After) us row.separator (s.Items all items_at.Separator) (s.Rest row.kind (in_rest.Token row.close)) at_after k ∙ item_read

    pub separator_none : starts_with (terminals_of row.separator) us ≡ true → token_at (terminals_of row.separator) us ≡ None → found_from d front (s.Items all items_at.Begin) ts ≡ None
    separator_none k n =
        sym item_read ∙
        sym (chooses_left d more (s.Items all items_at.After) us row.separator (s.Items all items_at.Separator) (s.Rest row.kind (in_rest.Token row.close)) at_after k) ∙
        takes_none d more (s.Items all items_at.Separator) us row.separator (s.Items all items_at.Begin) at_separator n

    pub item_next : starts_with (terminals_of row.separator) us ≡ true → (on : List Part) (vs : List Leaf) → Adds (token_at (terminals_of row.separator)) more us on vs → found_from d on (s.Items all items_at.Begin) vs ≡ found_from d front (s.Items all items_at.Begin) ts
    item_next k on vs b =
        takes d more (s.Items all items_at.Separator) us row.separator (s.Items all items_at.Begin) on vs at_separator b ∙
        chooses_left d more (s.Items all items_at.After) us row.separator (s.Items all items_at.Separator) (s.Rest row.kind (in_rest.Token row.close)) at_after k ∙
        item_read

pub item_shorter : (d : ℕ) (q : Nonterminal) (terminals : List Terminal) (ts us vs : List Leaf) (x y : Part) → part_at d q ts ≡ Some (x, us) → token_at terminals us ≡ Some (y, vs) → length vs < length ts
unfolding part_at
item_shorter d q terminals ts us vs x y e f = let w = token_parts terminals us vs y f in omega (arith, reading_takes d q ts (x, us) e, ap length w.1)

-- what square brackets hold
module _ (d : ℕ) (front : List Part) (ts : List Leaf) where
  abbrev begun : NodeState
  begun = s.Brackets brackets.Square brackets_at.Begin

  abbrev element : NodeState
  element = s.Brackets brackets.Square brackets_at.Element

  abbrev after : NodeState
  after = s.Brackets brackets.Square brackets_at.After

  abbrev closed : NodeState
  closed = s.Rest k.List (in_rest.Token t.CloseSquare)

  abbrev clauses : NodeState
  clauses = s.Clauses k.ListComp t.CloseSquare clauses_at.First

  pub square_unopened : token_at (terminals_of t.OpenSquare) ts ≡ None → found_from d front s.Square ts ≡ None
  square_unopened n = takes_none d front s.Square ts t.OpenSquare begun (refl, refl) n

  module _ (mid : List Part) (us : List Leaf) (a : Adds (token_at (terminals_of t.OpenSquare)) front ts mid us) where
    opened : found_from d mid begun us ≡ found_from d front s.Square ts
    opened = takes d front s.Square ts t.OpenSquare begun mid us (refl, refl) a

    pub square_empty : starts_with (terminals_of t.CloseSquare) us ≡ true → found_from d mid closed us ≡ found_from d front s.Square ts
    square_empty h = chooses_left d mid begun us t.CloseSquare closed element (refl, refl, refl) h ∙ opened

    module _ (h : starts_with (terminals_of t.CloseSquare) us ≡ false) where
      unclosed : found_from d mid element us ≡ found_from d front s.Square ts
      unclosed = chooses_right d mid begun us t.CloseSquare closed element (refl, refl, refl) h ∙ opened

      pub square_none : part_at d (nonterminal_of (q.Level 13)) us ≡ None → found_from d front s.Square ts ≡ None
      square_none n = sym unclosed ∙ reads_none d mid element us (q.Level 13) after (refl, refl) n

      module _ (more : List Part) (vs : List Leaf) (b : Adds (part_at d (nonterminal_of (q.Level 13))) mid us more vs) where
        element_read : found_from d more after vs ≡ found_from d front s.Square ts
        element_read = reads d mid element us (q.Level 13) after more vs (refl, refl) b ∙ unclosed

        pub square_for : starts_with (terminals_of t.For) vs ≡ true → found_from d more clauses vs ≡ found_from d front s.Square ts
        square_for i = chooses_left d more after vs t.For clauses (s.Items rows.List items_at.More) (refl, refl, refl) i ∙ element_read

        pub square_more : starts_with (terminals_of t.For) vs ≡ false → found_from d more (s.Items rows.List items_at.More) vs ≡ found_from d front s.Square ts
        square_more i = chooses_right d more after vs t.For clauses (s.Items rows.List items_at.More) (refl, refl, refl) i ∙ element_read

-- a statement of one line, by what it begins with
module _ (d : ℕ) (ts : List Leaf) where
  abbrev small : StatementAt → Option (Part × List Leaf)
  small at = found_from d [] (s.Statement at) ts

  abbrev flow : NodeState
  flow = s.Rest k.Flow (in_rest.Token t.Flow)

  pub small_load : starts_with (terminals_of t.Load) ts ≡ true → small statement_at.Load ≡ small statement_at.Begin
  small_load h = chooses_left d [] (s.Statement statement_at.Begin) ts t.Load (s.Statement statement_at.Load) (s.Statement statement_at.NoLoad) (refl, refl, refl) h

  module _ (h : starts_with (terminals_of t.Load) ts ≡ false) where
    no_load : small statement_at.NoLoad ≡ small statement_at.Begin
    no_load = chooses_right d [] (s.Statement statement_at.Begin) ts t.Load (s.Statement statement_at.Load) (s.Statement statement_at.NoLoad) (refl, refl, refl) h

    pub small_return : starts_with (terminals_of t.Return) ts ≡ true → small statement_at.Return ≡ small statement_at.Begin
    small_return i = chooses_left d [] (s.Statement statement_at.NoLoad) ts t.Return (s.Statement statement_at.Return) (s.Statement statement_at.NoReturn) (refl, refl, refl) i ∙ no_load

    module _ (i : starts_with (terminals_of t.Return) ts ≡ false) where
      no_return : small statement_at.NoReturn ≡ small statement_at.Begin
      no_return = chooses_right d [] (s.Statement statement_at.NoLoad) ts t.Return (s.Statement statement_at.Return) (s.Statement statement_at.NoReturn) (refl, refl, refl) i ∙ no_load

      pub small_flow : starts_with (terminals_of t.Flow) ts ≡ true → found_from d [] flow ts ≡ small statement_at.Begin
      small_flow j = chooses_left d [] (s.Statement statement_at.NoReturn) ts t.Flow flow (s.Statement statement_at.Expression) (refl, refl, refl) j ∙ no_return

      pub small_expression : starts_with (terminals_of t.Flow) ts ≡ false → small statement_at.Expression ≡ small statement_at.Begin
      small_expression j = chooses_right d [] (s.Statement statement_at.NoReturn) ts t.Flow flow (s.Statement statement_at.Expression) (refl, refl, refl) j ∙ no_return

-- what is after a primary, by what it begins with
module _ (d : ℕ) (front : List Part) (ts : List Leaf) where
  abbrev dot : NodeState
  dot = s.Rest k.Dot (in_rest.Tokens t.Dot t.Name)

  abbrev suffix : SuffixAt → Option (Part × List Leaf)
  suffix at = found_from d front (s.Suffix at) ts

  pub suffix_dot : starts_with (terminals_of t.Dot) ts ≡ true → found_from d front dot ts ≡ suffix suffix_at.Begin
  suffix_dot h = chooses_left d front (s.Suffix suffix_at.Begin) ts t.Dot dot (s.Suffix suffix_at.CallOrIndex) (refl, refl, refl) h

  module _ (h : starts_with (terminals_of t.Dot) ts ≡ false) where
    no_dot : suffix suffix_at.CallOrIndex ≡ suffix suffix_at.Begin
    no_dot = chooses_right d front (s.Suffix suffix_at.Begin) ts t.Dot dot (s.Suffix suffix_at.CallOrIndex) (refl, refl, refl) h

    pub suffix_call : starts_with (terminals_of t.OpenRound) ts ≡ true → suffix suffix_at.Call ≡ suffix suffix_at.Begin
    suffix_call i = chooses_left d front (s.Suffix suffix_at.CallOrIndex) ts t.OpenRound (s.Suffix suffix_at.Call) (s.Suffix suffix_at.Index) (refl, refl, refl) i ∙ no_dot

    pub suffix_index : starts_with (terminals_of t.OpenRound) ts ≡ false → suffix suffix_at.Index ≡ suffix suffix_at.Begin
    suffix_index i = chooses_right d front (s.Suffix suffix_at.CallOrIndex) ts t.OpenRound (s.Suffix suffix_at.Call) (s.Suffix suffix_at.Index) (refl, refl, refl) i ∙ no_dot
