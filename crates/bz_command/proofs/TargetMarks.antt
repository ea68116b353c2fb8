-- Marks of items.
use Rattle.bz_command.proofs.Words.{[], ◌∙◌, ◌∷◌, ◌≡◌, ap, Bool, Bytes, Call, dotted_name, each_meant, Expr, false, first_mark, has_name, is_meant_at, is_rule, is_rule_of_kind, is_some, Item, item_line, length, length-map, lines_after_item, List, map, meant, named, None, on_line, Option, option_and_then, option_map, option_map_or, refl, Rule, Some, suc, true, Which, Which as t, ℕ}

abbrev made : List Expr → Bytes → Rule
made arguments kind = record { kind = kind; arguments = arguments }

-- a call is a rule by what is called
pub rule_of_call : (call : Option Call) → is_some (option_and_then named call) ≡ option_map_or (λ (c : Call). is_some (dotted_name c.function)) call false
rule_of_call None = refl
rule_of_call (Some call) = of (dotted_name call.function)
  where
    of : (kind : Option Bytes) → is_some (option_map (made call.arguments) kind) ≡ is_some kind
    of None = refl
    of (Some kind) = refl

-- ---- there are as many marks as items

line_marks : (line : ℕ) (lines : List ℕ) (items : List Item) → length (on_line line lines items) ≡ length items
line_marks line lines [] = refl
line_marks line lines (item ∷ items) = ap (λ n. suc n) (line_marks line (lines_after_item lines item) items)

first_marks : (marks : List Bool) → length (first_mark marks) ≡ length marks
first_marks [] = refl
first_marks (true ∷ marks) = ap (λ n. suc n) (length-map marks (λ _. false))
first_marks (false ∷ marks) = ap (λ n. suc n) (first_marks marks)

pub as_many : (which : Which) (lines : List ℕ) (items : List Item) → length (meant which lines items) ≡ length items
as_many t.All lines items = length-map items is_rule
as_many (t.Kind kind) lines items = length-map items (is_rule_of_kind kind)
as_many (t.Line line) lines items = line_marks line lines items
as_many t.Package lines items = first_marks (map (is_rule_of_kind _) items) ∙ length-map items (is_rule_of_kind _)
as_many (t.Name name) lines items = length-map items (has_name name)

-- ---- items one by one

pub next_meant : (which : Which) (lines : List ℕ) (item : Item) (items : List Item)
    → each_meant which lines (item ∷ items) ≡ is_meant_at which (item_line lines item) item ∷ each_meant which (lines_after_item lines item) items
next_meant t.All lines item items = refl
next_meant (t.Kind kind) lines item items = refl
next_meant (t.Line line) lines item items = refl
next_meant t.Package lines item items = refl
next_meant (t.Name name) lines item items = refl

pub none_meant : (which : Which) (lines : List ℕ) → each_meant which lines [] ≡ []
none_meant t.All lines = refl
none_meant (t.Kind kind) lines = refl
none_meant (t.Line line) lines = refl
none_meant t.Package lines = refl
none_meant (t.Name name) lines = refl
