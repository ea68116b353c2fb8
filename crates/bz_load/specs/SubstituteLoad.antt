-- Paths of loads in which each match of a pattern is replaced. (Own profile of buildozer's `substitute_load`.)
use Rattle.std.specs.Prelude.{List, bytes_eq, if◌then◌else◌, map}
use Rattle.std.specs.Option.{option_map_or}
use Rattle.bz_grammar.specs.declared.kind.Kind.TheVariants as k
use Rattle.bz_load.specs.Words.{Expr, Item, Bytes, body_of, on_first, on_items, quoted_of, substituted, with_text}
use Rattle.bz_value.specs.declared.value.Item.TheVariants as i

-- the string with another body; an equal one leaves it as it is written
abbrev pub with_string_body : Bytes → Bytes → Expr → Expr
with_string_body body new x = if bytes_eq new body then x else with_text (quoted_of new) x

-- a plain string, with each match in its body replaced; anything else stays
abbrev pub string_substituted : Bytes → Bytes → Expr → Expr
string_substituted pattern template x = option_map_or (λ body. with_string_body body (substituted pattern template body) x) (body_of x) x

-- a load, with its path so
abbrev pub path_substituted : Bytes → Bytes → Item → Item
path_substituted pattern template (i.Block lines) = i.Block lines
path_substituted pattern template (i.Stmt x) = i.Stmt (on_items k.Load (on_first (string_substituted pattern template)) x)

-- Each load stays one: those that come to one path are not joined.
abbrev pub substitute_load : Bytes → Bytes → List Item → List Item
substitute_load pattern template items = map (path_substituted pattern template) items
