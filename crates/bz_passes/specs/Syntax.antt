-- What a compiler reads of a value: its kinds and tokens, without the comments and without the flags of the layout.
use Rattle.std.specs.Prelude.{ℕ, ◌+◌, false, ◌&&◌, List, [], ◌∷◌, bytes_eq, if◌then◌else◌}
use Rattle.bz_passes.specs.Words.{Class, is_class, Expr, Token, Form', Row_of-Expr, end_of-Expr, more_of-Expr, Item, Bytes, no_comments, total}
use Rattle.bz_value.specs.declared.value.Expr.TheVariants as e
use Rattle.bz_value.specs.declared.value.Item.TheVariants as i

abbrev mutual
  pub syntax_of : Expr → Expr
  syntax_of (Token t) = e.Token (record { class = t.class; text = t.text; line_break = false; comments = no_comments })
  syntax_of (Form' kind s parts s' items end split open_break comments) =
      e.Form (record { kind = kind; parts = each_syntax parts; seq = record { items = each_syntax items; end = []; split = false }; open_break = false; comments = no_comments })

  pub each_syntax : {n : _} → Row_of-Expr n → List Expr
  each_syntax end_of-Expr = []
  each_syntax (more_of-Expr x rest) = syntax_of x ∷ each_syntax rest

-- The program of a file: its statements. Comment lines on their own are none.
abbrev pub program : List Item → List Expr
program [] = []
program (i.Block lines ∷ items) = program items
program (i.Stmt x ∷ items) = syntax_of x ∷ program items

-- the sum of a number of each token
abbrev mutual
  pub token_sum : (Class → Bytes → ℕ) → Expr → ℕ
  token_sum number (Token t) = number t.class t.text
  token_sum number (Form' kind s parts s' items end split open_break comments) = row_token_sum number parts + row_token_sum number items

  pub row_token_sum : {n : _} → (Class → Bytes → ℕ) → Row_of-Expr n → ℕ
  row_token_sum number end_of-Expr = 0
  row_token_sum number (more_of-Expr x rest) = token_sum number x + row_token_sum number rest

abbrev pub one_if_token : Class → Bytes → Class → Bytes → ℕ
one_if_token class text other found = if is_class other class && bytes_eq found text then 1 else 0

-- how often a token of this class and text is in a program
abbrev pub token_times : Class → Bytes → List Expr → ℕ
token_times class text statements = total (token_sum (one_if_token class text)) statements
