-- Where a program is kept, each token that is no string occurs as often; and a value that no pass may change leads to no other program.
use Rattle.bz_passes.proofs.Words.{[], ◌&&◌, ◌+◌, ◌∙◌, ◌∷◌, ◌≡◌, AllByRecursion, ap, append_total, argument_precedes, arguments_in, arith, Bool, Bytes, bytes_eq, cases_Bool, Class, Class as c, codes, each_syntax, end_of-Expr, Expr, false, Form, Form', fun_ext, has_newer, if◌then◌else◌, inl, inr, is_class, is_taken, IsSameList, IsSameString, IsSortingByRuns, Item, Item as i, items-the_row-Expr, items_of, itself, KeptProgramsKeepTokens, Kind as k, List, loads, more_of-Expr, next_run, no_comments, on_items, on_labels, on_list_values, on_rest, on_rule_arguments, on_taken, one_if_token, one_run, parts_of, PassesKeepProgram, program, recursion_from_All, refl, Row_of-Expr, row_token_sum, short_end, short_plain, single, sort_by, sym, symbol_precedes, symbols_in, syntax_of, text_of, Token, token_sum, token_times, total, true, true≢false, turned, turned_thrice, with_text, ℕ}
use Rattle.bz_value.specs.declared.value.Expr.TheVariants as e
use Rattle.bz_passes.proofs.{Keeping.both, Keeping.same_after, Keeping.same_first, Parts.made, Parts.parts_after, Parts.items_after, Parts.parts_are, Parts.items_are, SameLists.IsText, SameLists.taken_texts, Sorting.permuted_total, Counts.Same, Counts.Weighs, Counts.strings_same, Counts.rule_same, Counts.labels_same, Counts.list_values_same, Counts.symbols_same, Counts.taken_total, Stable.sorting_is_the_one}

-- ---- items that change places

module _ {X : Type 0} (number : X → ℕ) where
  runs_total : (p : X → Bool) (lt : X → X → Bool) (xs ys : List X) → IsSortingByRuns p lt xs ys → total number ys ≡ total number xs
  runs_total p lt xs ys (one_run a h) = permuted_total number xs ys h.same
  runs_total p lt xs ys (next_run run ordered bar rest others d e a h f more) =
      let moved : total number ordered ≡ total number run = permuted_total number run ordered h.same in
      let following : total number others ≡ total number rest = runs_total p lt rest others more in
      ap (total number) e ∙ (append_total number ordered (bar ∷ others)
      ∙ (both (λ m n. m + n) moved (ap (λ n. number bar + n) following) ∙ (sym (append_total number run (bar ∷ rest)) ∙ ap (total number) (sym d))))

module _ (number : Class → Bytes → ℕ) (nothing : (text : Bytes) → number c.String text ≡ 0) where
  abbrev whole : Expr → ℕ
  whole = token_sum number

  -- ---- by lists

  row_total : (s : _) (r : Row_of-Expr s) → row_token_sum number r ≡ total whole (items-the_row-Expr s r)
  row_total s end_of-Expr = refl
  row_total s (more_of-Expr x rest) = ap (λ a. token_sum number x + a) (row_total _ rest)

  sum_Form : (f : Form) → token_sum number (e.Form f) ≡ total whole f.parts + total whole f.seq.items
  sum_Form f =
      both (λ a b. a + b)
      (row_total _ (parts_after (e.Form f)).1 ∙ ap (total whole) (parts_are f))
      (row_total _ (items_after (e.Form f)).1 ∙ ap (total whole) (items_are f))

  -- ---- strings count nothing

  no_string : (class : Class) (text : Bytes) → is_class class c.String ≡ true → number class text ≡ 0
  no_string c.String text is = nothing text
  no_string _ text is = absurd (true≢false (sym is))

  text_sum : (x : Expr) → IsText x → whole x ≡ 0
  text_sum (Token t) is = no_string t.class t.text is
  text_sum (Form' kind s parts s' items end split open_break comments) is = absurd (true≢false (sym is))

  texts_sum : (xs : List Expr) → AllByRecursion IsText xs → total whole xs ≡ 0
  texts_sum [] h = refl
  texts_sum (x ∷ xs) h = both (λ a b. a + b) (text_sum x h.0) (texts_sum xs h.1)

  string_weighs : (text : Bytes) (x : Expr) → IsText x → whole (with_text text x) ≡ whole x
  string_weighs text (Token t) is = no_string t.class text is ∙ sym (no_string t.class t.text is)
  string_weighs text (Form' kind s parts s' items end split open_break comments) is = absurd (true≢false (sym is))

  weighs : Weighs whole
  weighs = record {
    form = λ f parts items split h i. sum_Form (made f.kind parts items f.seq.end split f.open_break f.comments) ∙ (both (λ a b. a + b) h i ∙ sym (sum_Form f));
    string = string_weighs;
  }

  -- a list that is to be sorted has strings alone
  list_sum : (taken : Bool) (old new : List Expr) → (taken ≡ true → AllByRecursion IsText old) → IsSameList taken old new → total whole new ≡ total whole old
  list_sum true old new strings h = texts_sum new (recursion_from_All IsText new h.strings) ∙ sym (texts_sum old (strings refl))
  list_sum false old new strings h = ap (total whole) h

  -- ---- the file

  abbrev item_sum : Item → ℕ
  item_sum (i.Block lines) = 0
  item_sum (i.Stmt x) = whole x

  taken_sum : (g : Expr → Expr) → Same whole g → (items new : List Item) → new ≡ on_taken g items → total item_sum new ≡ total item_sum items
  taken_sum g h items new e = ap (total item_sum) e ∙ taken_total whole weighs item_sum (λ x. refl) g h items

  mutual
    syntax_sum : (x : Expr) → whole (syntax_of x) ≡ whole x
    syntax_sum (Token t) = refl
    syntax_sum (Form' kind s parts s' items end split open_break comments) =
        sum_Form (made kind (each_syntax parts) (each_syntax items) [] false false no_comments) ∙ both (λ a b. a + b) (each_syntax_sum _ parts) (each_syntax_sum _ items)

    each_syntax_sum : (s : _) (r : Row_of-Expr s) → total whole (each_syntax r) ≡ row_token_sum number r
    each_syntax_sum s end_of-Expr = refl
    each_syntax_sum s (more_of-Expr x rest) = both (λ a b. a + b) (syntax_sum x) (each_syntax_sum _ rest)

  program_sum : (items : List Item) → total whole (program items) ≡ total item_sum items
  program_sum [] = refl
  program_sum (i.Block lines ∷ items) = program_sum items ∙ omega arith
  program_sum (i.Stmt x ∷ items) = both (λ a b. a + b) (syntax_sum x) (program_sum items)

  kept_sum : (before after : List Item) → PassesKeepProgram before after → total whole (program after) ≡ total whole (program before)
  kept_sum before after h =
      ap (total whole) h.flags
      ∙ (program_sum h.loaded
      ∙ (runs_total item_sum _ _ h.named h.loaded h.loads
      ∙ (taken_sum _ (symbols_same whole weighs h.symbols.change (λ xs. permuted_total whole xs (h.symbols.change xs) (h.symbols.each xs).same)) h.arranged h.named h.symbols.same
      ∙ (taken_sum _ (rule_same whole weighs (λ kind. h.arguments.change) (λ kind xs. runs_total whole _ _ xs (h.arguments.change xs) (h.arguments.each xs))) h.listed h.arranged h.arguments.same
      ∙ (taken_sum _ (list_values_same whole weighs h.lists.change (λ outside by_table xs. list_sum (is_taken outside by_table xs) xs (h.lists.change outside by_table xs) (taken_texts outside by_table xs) (h.lists.each outside by_table xs))) h.labelled h.listed h.lists.same
      ∙ (taken_sum _ (labels_same whole weighs h.labels.change) h.quoted h.labelled h.labels.same
      ∙ (taken_sum _ (strings_same whole weighs h.quotes.change) before h.quoted h.quotes.same ∙ sym (program_sum before))))))))

other_class : (class : Class) (text found : Bytes) → is_class c.String class ≡ false → one_if_token class text c.String found ≡ 0
other_class class text found is = ap (λ b. if b && bytes_eq found text then 1 else 0) is

pub tokens_kept : KeptProgramsKeepTokens
tokens_kept before after h class text is = elim (cases_Bool (has_newer before)) [
  | inl t ↦ ap (token_times class text) (h.0 t)
  | inr f ↦ kept_sum (one_if_token class text) (λ found. other_class class text found is) before after (h.1 f)
]

-- What each pass after the quotes leaves as it is stays the same program.
pub unmoved : (before after : List Item) (h : PassesKeepProgram before after) → h.quoted ≡ before
    → ((g : Bytes → Bytes) → on_taken (on_labels g) before ≡ before)
    → ((g : List Bytes → Bool → List Expr → List Expr) → on_taken (on_list_values g) before ≡ before)
    → on_taken arguments_in before ≡ before → on_taken symbols_in before ≡ before → loads before ≡ before → program after ≡ program before
unmoved before after h quoted labels lists arguments symbols own =
    let labelled : h.labelled ≡ before = h.labels.same ∙ ap (on_taken (on_labels h.labels.change)) quoted ∙ labels h.labels.change in
    let listed : h.listed ≡ before = h.lists.same ∙ ap (on_taken (on_list_values h.lists.change)) labelled ∙ lists h.lists.change in
    let sorts : h.arguments.change ≡ sort_by argument_precedes = fun_ext (λ xs. (sorting_is_the_one.2 xs (h.arguments.change xs)).0 (h.arguments.each xs)) in
    let arranged : h.arranged ≡ before = h.arguments.same ∙ ap (λ g. on_taken (on_rule_arguments (λ kind. g)) h.listed) sorts ∙ ap (on_taken arguments_in) listed ∙ arguments in
    let names : h.symbols.change ≡ sort_by symbol_precedes = fun_ext (λ xs. (sorting_is_the_one.1 xs (h.symbols.change xs)).0 (h.symbols.each xs)) in
    let named : h.named ≡ before = h.symbols.same ∙ ap (λ g. on_taken (on_items k.Load (on_rest g)) h.arranged) names ∙ ap (on_taken symbols_in) arranged ∙ symbols in
    let loaded : h.loaded ≡ before = (sorting_is_the_one.3 h.named h.loaded).0 h.loads ∙ ap loads named ∙ own in
    h.flags ∙ ap program loaded

-- ---- the texts of one argument

abbrev first_of : List Expr → Expr
first_of [] = e.Token (record { class = c.Name; text = []; line_break = false; comments = no_comments })
first_of (x ∷ xs) = x

abbrev third_of : List Expr → Expr
third_of (x ∷ y ∷ z ∷ xs) = z
third_of xs = first_of xs

abbrev first_argument : List Expr → Expr
first_argument statements = first_of (items_of (first_of (parts_of (first_of statements))))

abbrev pub argument_text : List Expr → Bytes
argument_text statements = text_of (first_argument statements)

-- of a named one
abbrev pub value_text : List Expr → Bytes
value_text statements = text_of (third_of (parts_of (first_argument statements)))

pub other_name : codes "b" ≡ codes "a" → ⊥
other_name h = let differ : ◌≡◌ {A = ℕ} 98 97 = same_first 98 97 [] [] h in absurd (omega arith)

pub other_body : codes "\"b\"" ≡ codes "\"a\"" → ⊥
other_body h = let differ : ◌≡◌ {A = ℕ} 98 97 = same_first 98 97 (34 ∷ []) (34 ∷ []) (same_after 34 34 (98 ∷ 34 ∷ []) (97 ∷ 34 ∷ []) h) in absurd (omega arith)

-- ---- a string in double quote marks stays

other_mark : (text : Bytes) → codes "\"a\"" ≡ 39 ∷ text → ⊥
other_mark text h = let differ : ◌≡◌ {A = ℕ} 34 39 = same_first 34 39 (97 ∷ 34 ∷ []) text h in absurd (omega arith)

double_stays : (new : Bytes) → IsSameString (codes "\"a\"") new → new ≡ codes "\"a\""
double_stays new (itself h) = h
double_stays new (turned body s f h i) = absurd (other_mark _ h)
double_stays new (turned_thrice body s f h i) = absurd (other_mark _ h)

pub body_stays : (before after : List Item) (h : PassesKeepProgram before after) → h.quotes.change (codes "\"a\"") ≡ codes "\"a\""
body_stays before after h = double_stays _ (h.quotes.each (codes "\"a\"") ([], codes "\"a\"", refl, refl, single 34 (codes "a") refl (short_plain refl short_end)))
