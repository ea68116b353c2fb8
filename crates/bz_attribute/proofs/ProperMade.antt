-- New parts of a file value are proper where they go.
use Rattle.bz_attribute.proofs.Words.{[], ◌&&◌, ◌++◌, ◌<◌, ◌∙◌, ◌∷◌, ◌≡◌, AllByRecursion, ap, AreOf, AreUtf8, argument_of, arith, binds_looser, Bool, by_case, by_test, Bytes, Class, Class as c, codes, dotted_after, dotted_from, each_item, Expr, false, Fits, Form, Form', full_stop, function_of, Grammar, has_kind, inl, inr, is_kind, is_label_attribute, IsAttribute, IsItem, IsKind, IsUtf8, IsValue, items_again, KeepsRow, Kind, Kind as k, List, list_of, Listed, map, mark, name, nat_eq, nat_lt, no_comments, node, on_row, operand, plus, quoted_lexeme, quoted_of, quoted_utf8, rank, refl, row_within, rule_made, sequence, shortened, shortened_in, slice_split, string_of, string_text, Strung, subst, sym, Token, token, true, true≢false, value_shape, value_within, ℕ}
use Rattle.std.proofs.lemmas.List.Elements.{All-nil}
use Rattle.bz_token.specs.Lexemes.{IsLexeme, is_mark}
use Rattle.bz_grammar.specs.Shapes as s
use Rattle.bz_grammar.specs.{Legal.IsNonterminal, Spots.Spot, Spots.Begins, Spots.Within}
use Rattle.bz_value.specs.Frames.{Frame, row, frame, is_binary}
use Rattle.bz_value.specs.Proper.{IsComment, AreComments, comments_of, has_break, in_frame, is_operator_class, is_operator, after_expr, ProperExpr, IsProperItemIn}
use Rattle.bz_value.specs.Roots.{root, row_in}
use Rattle.bz_value.specs.Roots as r
use Rattle.bz_value.proofs.FormParts.{ArePartsBy, AsRowBy, AsSequenceBy, AsCompoundBy, form_proper_by}
use Rattle.bz_command_syntax.proofs.NameTests.{identifiers_are_names}
use Rattle.bz_rule.proofs.{Opened.made, ProperRules.IsFunction}
use Rattle.bz_attribute.proofs.ProperTexts.{one_ascii, shortened_utf8, IsFull, split_full, kind_pieces}

-- ---- tokens and lists

pub none_there : AreComments no_comments
none_there = (All-nil IsComment, tt)

pub quoted_string : (word : Bytes) → IsUtf8 word → Strung (quoted_of word)
quoted_string word u = (quoted_lexeme word, quoted_utf8 word u)

pub string_strung : (current attribute word : Bytes) → IsUtf8 word → Strung (string_text current attribute word)
string_strung current attribute word u =
    quoted_string (shortened_in current attribute word) (by_test IsUtf8 (is_label_attribute attribute) (shortened current word) word (shortened_utf8 current word u) u)

name_coded : IsUtf8 (codes "name")
unfolding lib.Utf8.encode
name_coded = (codes "name", (refl, refl))

tight_kind : (kind : Kind) → is_kind kind k.Sum ≡ false → nat_lt (rank k.Sum) (rank kind) ≡ false → s.nonterminal_has_kind s.test kind ≡ true → s.nonterminal_has_kind (s.level 2) kind ≡ true
tight_kind k.Sum n t h = cc
tight_kind _ n t h = cc

tight : (x : Expr) → has_kind k.Sum x ≡ false → binds_looser x ≡ false → IsNonterminal s.test (root x) → IsNonterminal (s.level 2) (root x)
tight (Token t) n b h = h
tight (Form' kind s parts s' items end split open_break comments) n b h = tight_kind kind n b h

-- `+` and a list after an operand
abbrev more_operands : List Expr → List Expr
more_operands items = mark (codes "+") ∷ list_of items ∷ []

word_class : (class : Class) (text : Bytes) → s.is_one_of s.simple (record { class = class; gap = []; token = text }) ≡ true → is_operator_class class ≡ false
word_class c.Mark text h = absurd (true≢false (sym h))
word_class c.Keyword text h = absurd (true≢false (sym h))
word_class _ text h = refl

no_sign : (x : Expr) → IsNonterminal (s.level 2) (root x) → is_operator x ≡ false
no_sign (Token t) h = word_class t.class t.text h
no_sign (Form' kind s parts s' items end split open_break comments) h = refl

abbrev Operands : List Expr → Type 0
Operands xs = Listed (IsNonterminal (s.level 2)) s.sums false (Fits IsNonterminal s.done) (map root xs)

module _ (grammar : Grammar) where
  -- What is new is proper at every spot, without comments and without a break.
  pub record IsNew (x : Expr) : Type 0 where
    pub proper : (here : Spot) → ProperExpr grammar here x
    pub comments : comments_of x ≡ no_comments
    pub breaks : has_break x ≡ false

  pub new_value : (x : Expr) → IsNew x → IsNonterminal s.test (root x) → IsValue grammar x
  new_value x n h = (((n.proper Within, subst AreComments (sym n.comments) none_there, n.breaks), h), n.comments)

  pub token_new : (class : Class) (text : Bytes) → IsLexeme class text → IsUtf8 text → IsNew (token class text)
  token_new class text l u = record { proper = λ here. (l, u); comments = refl; breaks = refl }

  mark_new : (byte : ℕ) → byte < 128 → is_mark (byte ∷ []) ≡ true → IsNew (mark (byte ∷ []))
  mark_new byte l h = token_new c.Mark (byte ∷ []) h (one_ascii byte l)

  name_new : (text : Bytes) → IsAttribute text → IsNew (name text)
  name_new text a = token_new c.Name text ((identifiers_are_names text).0 a.0) a.1

  -- a new part of a row before others
  pub new_part : (binary : Bool) (outer here : Spot) (x : Expr) (xs : List Expr) → IsNew x → ArePartsBy (value_shape grammar) binary outer (after_expr outer here x) xs → ArePartsBy (value_shape grammar) binary outer here (x ∷ xs)
  new_part binary outer here x xs n h = (n.proper here, n.comments, λ b. absurd (true≢false (sym b ∙ n.breaks)), h)

  new_parts : (binary : Bool) (outer here : Spot) (xs : List Expr) → AllByRecursion IsNew xs → ArePartsBy (value_shape grammar) binary outer here xs
  new_parts binary outer here [] n = tt
  new_parts binary outer here (x ∷ xs) n = new_part binary outer here x xs n.0 (new_parts binary outer (after_expr outer here x) xs n.1)

  -- a node of a row of parts
  pub row_proper : (here : Spot) (kind : Kind) (ps : List Expr) → frame kind ≡ row → Fits IsNonterminal (value_shape grammar kind) (row_in (frame kind) (map root ps) []) → ArePartsBy (value_shape grammar) (is_binary kind) here here ps → ProperExpr grammar here (node kind ps)
  row_proper here kind ps is fits parts =
      let f : Form = made kind ps [] [] false false no_comments in
      form_proper_by (value_shape grammar) here f fits (subst (λ (g : Frame). in_frame g (AsRowBy (value_shape grammar) here f) (AsSequenceBy (value_shape grammar) here f) (AsCompoundBy (value_shape grammar) f)) (sym is) (parts, tt, refl, refl, λ e. absurd (true≢false (sym e))))

  pub list_new : (items : List Expr) → AreOf grammar s.test items → IsNew (list_of items)
  list_new items h = record {
    proper = λ here.
        form_proper_by (value_shape grammar) here (record { kind = k.List; parts = []; seq = record { items = items; end = []; split = false }; open_break = false; comments = no_comments })
        (refl, items_again grammar s.test s.close_square (r.mark_leaf 93) refl items h) (tt, each_item grammar s.test s.close_square (r.mark_leaf 93) items h, All-nil IsComment, refl);
    comments = refl;
    breaks = refl;
  }

  pub list_value : (items : List Expr) → AreOf grammar s.test items → IsValue grammar (list_of items)
  list_value items h = new_value (list_of items) (list_new items h) refl

  -- ---- words as values

  pub string_value : (text : Bytes) → Strung text → IsValue grammar (token c.String text)
  string_value text h = new_value (token c.String text) (token_new c.String text h.0 h.1) refl

  pub words_are_items : (current attribute : Bytes) (words : List Bytes) → AreUtf8 words → AreOf grammar s.test (map (string_of current attribute) words)
  words_are_items current attribute [] u = tt
  words_are_items current attribute (word ∷ words) u =
      ((string_value (string_text current attribute word) (string_strung current attribute word u.0)).0, words_are_items current attribute words u.1)

  -- ---- arguments

  pub argument_item : (attribute : Bytes) (value : Expr) → IsAttribute attribute → IsValue grammar value → IsItem grammar s.argument (argument_of attribute value)
  argument_item attribute value a v =
      let last : ArePartsBy (value_shape grammar) false Within Within (value ∷ []) = (v.0.0.0, v.1, λ b. absurd (true≢false (sym b ∙ v.0.0.2)), tt) in
      let parts : ArePartsBy (value_shape grammar) false Within Within (name attribute ∷ mark (codes "=") ∷ value ∷ []) =
      new_part false Within Within (name attribute) (mark (codes "=") ∷ value ∷ []) (name_new attribute a) (new_part false Within Within (mark (codes "=")) (value ∷ []) (mark_new 61 (omega arith) refl) last) in
      ((row_proper Within k.Named (name attribute ∷ mark (codes "=") ∷ value ∷ []) refl (refl, (refl, (v.0.1, tt))) parts, none_there, refl), refl)

  -- ---- functions and rules

  dot_function : (front : Expr) (text : Bytes) → IsFunction grammar front → IsAttribute text → IsFunction grammar (node k.Dot (front ∷ mark (codes ".") ∷ name text ∷ []))
  dot_function front text f a =
      let ps : List Expr = front ∷ mark (codes ".") ∷ name text ∷ [] in
      let new : AllByRecursion IsNew ps = (record { proper = f.0; comments = f.1.0; breaks = f.1.1 }, (mark_new 46 (omega arith) refl, (name_new text a, tt))) in
      ((λ here. row_proper here k.Dot ps refl (f.2, (refl, (refl, tt))) (new_parts false here here ps new)), (refl, refl), refl)

  dotted_function : (front : Expr) (texts : List Bytes) → IsFunction grammar front → AllByRecursion IsAttribute texts → IsFunction grammar (dotted_after front texts)
  dotted_function front [] f h = f
  dotted_function front (text ∷ texts) f h = dotted_function (node k.Dot (front ∷ mark (codes ".") ∷ name text ∷ [])) texts (dot_function front text f h.0) h.1

  names_function : (texts : List Bytes) → IsFull texts → AllByRecursion IsAttribute texts → IsFunction grammar (dotted_from texts)
  names_function [] full h = absurd full
  names_function (text ∷ texts) full h = let n = name_new text h.0 in dotted_function (name text) texts (n.proper, (refl, refl), refl) h.1

  pub kind_function : (kind : Bytes) → IsKind kind → IsFunction grammar (function_of kind)
  kind_function kind h = names_function (slice_split (λ byte. nat_eq byte full_stop) kind) (split_full kind) (kind_pieces kind h)

  pub call_new : (function argument : Expr) → IsFunction grammar function → IsItem grammar s.argument argument → IsNew (sequence k.Call (function ∷ []) (argument ∷ []))
  call_new function argument f a = record {
    proper = λ here.
        form_proper_by (value_shape grammar) here (record { kind = k.Call; parts = function ∷ []; seq = record { items = argument ∷ []; end = []; split = false }; open_break = false; comments = no_comments })
        (f.2, (refl, items_again grammar s.argument s.close_round (r.mark_leaf 41) refl (argument ∷ []) (a, tt)))
        ((f.0 here, f.1, tt), each_item grammar s.argument s.close_round (r.mark_leaf 41) (argument ∷ []) (a, tt), All-nil IsComment, refl);
    comments = refl;
    breaks = refl;
  }

  pub made_rule : (kind word : Bytes) → IsKind kind → IsUtf8 word → IsProperItemIn grammar (rule_made kind word)
  made_rule kind word h u =
      let argument = argument_item (codes "name") (token c.String (quoted_of word)) (refl, name_coded) (string_value (quoted_of word) (quoted_string word u)) in
      let call : Expr = sequence k.Call (function_of kind ∷ []) (argument_of (codes "name") (token c.String (quoted_of word)) ∷ []) in
      let new : IsNew call = call_new (function_of kind) (argument_of (codes "name") (token c.String (quoted_of word))) (kind_function kind h) argument in
      (refl, row_proper Begins k.Bare (call ∷ []) refl (refl, tt) (new_part false Begins Begins call [] new tt), none_there)

  -- ---- sums

  -- what may be in a sum
  abbrev IsOperand : Expr → Type 0
  IsOperand x = (ProperExpr grammar Within x × (comments_of x ≡ no_comments) × (has_break x ≡ false)) × IsNonterminal (s.level 2) (root x)

  paren_operand : (x : Expr) → IsValue grammar x → IsOperand (node k.Paren (mark (codes "(") ∷ x ∷ mark (codes ")") ∷ []))
  paren_operand x v =
      let last : ArePartsBy (value_shape grammar) false Within (after_expr Within Within x) (mark (codes ")") ∷ []) = new_part false Within (after_expr Within Within x) (mark (codes ")")) [] (mark_new 41 (omega arith) refl) tt in
      let parts : ArePartsBy (value_shape grammar) false Within Within (mark (codes "(") ∷ x ∷ mark (codes ")") ∷ []) =
      new_part false Within Within (mark (codes "(")) (x ∷ mark (codes ")") ∷ []) (mark_new 40 (omega arith) refl) (v.0.0.0, v.1, λ b. absurd (true≢false (sym b ∙ v.0.0.2)), last) in
      ((row_proper Within k.Paren (mark (codes "(") ∷ x ∷ mark (codes ")") ∷ []) refl (refl, (v.0.1, (refl, tt))) parts, refl, refl), refl)

  operand_proper : (x : Expr) → has_kind k.Sum x ≡ false → IsValue grammar x → IsOperand (operand x)
  operand_proper x n v =
      by_case IsOperand (binds_looser x) (node k.Paren (mark (codes "(") ∷ x ∷ mark (codes ")") ∷ [])) x
      (λ b. paren_operand x v) (λ b. ((v.0.0.0, v.1, v.0.0.2), tight x n b v.0.1))

  more_parts : (outer here : Spot) (items : List Expr) → AreOf grammar s.test items → ArePartsBy (value_shape grammar) true outer here (more_operands items)
  more_parts outer here items h = new_parts true outer here (more_operands items) (mark_new 43 (omega arith) refl, (list_new items h, tt))

  sum_value : (first : Expr) (items : List Expr) → IsOperand first → AreOf grammar s.test items → IsValue grammar (node k.Sum (first ∷ more_operands items))
  sum_value first items o h =
      let parts : ArePartsBy (value_shape grammar) true Within Within (first ∷ more_operands items) = (o.0.0, o.0.1, λ b. absurd (true≢false (sym b ∙ o.0.2)), more_parts Within (after_expr Within Within first) items h) in
      (((row_proper Within k.Sum (first ∷ more_operands items) refl (o.1, (refl, (refl, tt))) parts, none_there, refl), refl), refl)

  -- a sum with a further operand

  module _ (items : List Expr) (are : AreOf grammar s.test items) where
    sum_more : (here : Spot) (xs : List Expr) → Operands xs → ArePartsBy (value_shape grammar) true Within here xs → Operands (xs ++ more_operands items) × ArePartsBy (value_shape grammar) true Within here (xs ++ more_operands items)
    sum_more here [] h a = absurd h
    sum_more here (x ∷ []) h a = (
      (h.0, inr (refl, inl (refl, tt))),
      (a.0, a.1, λ b. absurd (true≢false (sym (a.2 b).0 ∙ ap (λ z. z && true) (no_sign x h.0))), more_parts Within (after_expr Within here x) items are),
    )
    sum_more here (x ∷ y ∷ ys) (h, inl e) a = absurd e
    sum_more here (x ∷ y ∷ []) (h, inr (t, inl e)) a = absurd e
    sum_more here (x ∷ y ∷ z ∷ zs) (h, inr (t, inl e)) a =
        let more = sum_more (after_expr Within (after_expr Within here x) y) (z ∷ zs) e a.3.3 in ((h, inr (t, inl more.0)), (a.0, a.1, a.2, (a.3.0, a.3.1, a.3.2, more.1)))
    sum_more here (x ∷ y ∷ ys) (h, inr (t, inr e)) a = absurd (true≢false (sym e.0))

    sum_kept : KeepsRow grammar k.Sum (λ parts. parts ++ more_operands items)
    sum_kept end split open_break [] xs g = absurd g.0
    sum_kept end split open_break (x ∷ []) xs g = absurd g.0.1
    sum_kept end split open_break (x ∷ y ∷ []) xs g = absurd g.0.1.1
    sum_kept end split open_break (x ∷ y ∷ z ∷ zs) xs g =
        let row = g.1.0 in
        let more = sum_more (after_expr Within (after_expr Within Within x) y) (z ∷ zs) g.0.1.1 row.3.3 in
        ((g.0.0, (g.0.1.0, more.0)), ((row.0, row.1, row.2, (row.3.0, row.3.1, row.3.2, more.1)), g.1.1, g.1.2, g.1.3, g.1.4))

  pub plus_value : (x : Expr) (items : List Expr) → IsValue grammar x → AreOf grammar s.test items → IsValue grammar (plus x (list_of items))
  plus_value x items v h =
      let change : List Expr → List Expr = λ parts. parts ++ more_operands items in
      by_case (IsValue grammar) (has_kind k.Sum x) (on_row k.Sum change x) (node k.Sum (operand x ∷ more_operands items))
      (λ is. value_within grammar x (on_row k.Sum change x) (row_within grammar k.Sum refl change (sum_kept items h) x) v)
      (λ n. sum_value (operand x) items (operand_proper x n v) h)
