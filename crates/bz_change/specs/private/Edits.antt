-- What is done to the value of an entry and to the entries of a dict, by the change that it is.
use Rattle.std.specs.Prelude.{List}
use Rattle.bz_change.specs.Words.{Expr, Bytes, string_of, on_first_that, with_strings}
use Rattle.bz_change.specs.Dicts.{entries_put, has_key, list_put, on_entry, value_again, value_replaced}
use Rattle.bz_change.specs.declared.dicts.ValueChange.{ValueChange}
use Rattle.bz_change.specs.declared.dicts.ValueChange.TheVariants as v
use Rattle.bz_change.specs.declared.dicts.Edit.{Edit}
use Rattle.bz_change.specs.declared.dicts.Edit.TheVariants.{Put, Extend, Replace}

abbrev pub value_edited : ValueChange → Bytes → Bytes → Expr → Expr
value_edited (v.Set word) current name old = string_of current name word.now
value_edited (v.Again word) current name old = value_again current name word.now old
value_edited (v.Extend words) current name old = with_strings current name words.now old
value_edited (v.Replace word new) current name old = value_replaced current name word.now new.now old

abbrev pub edited : Edit → Bytes → Bytes → List Expr → List Expr
edited (Put change entries) current name items = entries_put change current name entries.now items
edited (Extend key words) current name items = list_put current name key.now words.now items
edited (Replace key old new) current name items = on_first_that (has_key key.now) (on_entry (value_replaced current name old.now new.now)) items
