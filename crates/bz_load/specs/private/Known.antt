-- What the code keeps in sets: the symbols that are loaded already, the names that are used and paths, each as what is looked up in it.
use Rattle.std.specs.Prelude.{ℕ, ◌+◌, length, Bool, false, ◌||◌, List, [], ◌∷◌, Vec, bytes_eq, drop, take}
use Rattle.std.specs.List.{list_any}
use Rattle.std.specs.BTreeSet.{BTreeSet}
use Rattle.std.specs.declared.alloc.Global.{Global}
use Rattle.bz_load.specs.Words.{Kind, Bytes, Symbol, texts_of, Expr, Item, Window}
use Rattle.bz_load.specs.Loads.{is_load_from, is_symbol}
use Rattle.bz_load.specs.Paths.{has_local}
use Rattle.bz_load.specs.Fixes.{has_operand, is_operand_at}
use Rattle.bz_load.specs.declared.readings.Loaded.{Loaded}

-- a key of the set, as the symbol that it represents
abbrev pub symbol_of_key : Loaded → Symbol
symbol_of_key loaded = record { to = loaded.to.now; from = loaded.from.now }

abbrev pub knows : List Loaded → Symbol → Bool
knows keys symbol = list_any (λ key. is_symbol symbol (symbol_of_key key)) keys

abbrev pub knows_name : BTreeSet (Vec ℕ Global) → Bytes → Bool
knows_name names text = list_any (bytes_eq text) (texts_of names)

-- a load from this path, or with this local name
abbrev pub mentions : Bytes → Item → Bool
mentions text item = is_load_from text item || has_local text item

-- whether what came in windows has it
abbrev pub come_with : Bytes → List Window → List Item → Bool
come_with text [] items = false
come_with text (w ∷ ws) items = list_any (mentions text) (take w.come (drop w.from items)) || come_with text ws (drop w.come (drop w.from items))

-- whether a text is an operand among these parts of a node of this kind, from this place of that count on
abbrev pub operand_among : Kind → ℕ → ℕ → Bytes → List Expr → Bool
operand_among kind count at text [] = false
operand_among kind count at text (x ∷ xs) = has_operand (is_operand_at kind count at) text x || operand_among kind count (at + 1) text xs

abbrev pub operand_in : Kind → Bytes → List Expr → Bool
operand_in kind text xs = operand_among kind (length xs) 0 text xs
