-- What the private functions append and pass over, as they state it.
use Rattle.std.specs.Prelude.{ℕ, Bool, false, List, [], ◌∷◌, ◌&&◌, Option, codes, map, nat_eq}
use Rattle.std.specs.Option.{option_map_or}
use Rattle.bz_command.specs.Words.{Bytes, space, Which, Item}
use Rattle.bz_label.specs.declared.target.Which.TheVariants as t
use Rattle.bz_rule.specs.Rules as r
use Rattle.bz_command.specs.Effect.{is_rule, lines_after_item, meant}
use Rattle.bz_command.specs.declared.printing.Subject.{Subject}

-- the text, where there is one
abbrev pub text_or_nothing : Option Bytes → Bytes
text_or_nothing text = option_map_or (λ bytes. bytes) text []

-- a space, where others follow
abbrev pub space_between : {X : Type 0} → List X → Bytes
space_between [] = []
space_between (x ∷ xs) = space ∷ []

-- a rule that the code has found, as definitions see it
abbrev pub seen_rule : Subject → r.Rule
seen_rule found = record { kind = found.kind.now; arguments = found.arguments.now }

-- the lines of the statements after some items
abbrev pub lines_after_items : List ℕ → List Item → List ℕ
lines_after_items lines [] = lines
lines_after_items lines (item ∷ items) = lines_after_items (lines_after_item lines item) items

-- whether a target means an item that begins on a line, by the item alone
abbrev pub is_meant_at : Which → Option ℕ → Item → Bool
is_meant_at t.All begins item = is_rule item
is_meant_at (t.Kind kind) begins item = r.is_rule_of_kind kind item
is_meant_at (t.Line line) begins item = option_map_or (nat_eq line) begins false && is_rule item
is_meant_at t.Package begins item = r.is_rule_of_kind (codes "package") item
is_meant_at (t.Name name) begins item = r.has_name name item

-- the rules of which each is meant by itself
abbrev pub each_meant : Which → List ℕ → List Item → List Bool
each_meant t.Package lines items = map (r.is_rule_of_kind (codes "package")) items
each_meant which lines items = meant which lines items
