-- The pass over the flags: split becomes whether the sequence is broken.
use Rattle.std.specs.Prelude.{◌≡◌, Bool, List, [], ◌∷◌, map}
use Rattle.bz_layout.specs.Words.{Kind, Expr, Form', Row_of-Expr, end_of-Expr, more_of-Expr, items-the_row-Expr, Item, Bytes, Frame, sequence, frame}
use Rattle.bz_layout.specs.declared.breaks.Lines.{Lines}
use Rattle.bz_layout.specs.declared.breaks.Lines.TheVariants as l
use Rattle.bz_value.specs.declared.value.Expr.TheVariants as e
use Rattle.bz_value.specs.declared.value.Item.TheVariants as i
use Rattle.bz_layout.specs.Layout.{is_broken_in}

abbrev pub settled_split_in : Lines → Frame → Kind → Bool → List Expr → List Bytes → Bool
settled_split_in lines (sequence opener closer) kind split items end = is_broken_in lines kind split items end
settled_split_in lines _ kind split items end = split

abbrev mutual
  pub with_flags_in : Lines → Expr → Expr
  with_flags_in lines (e.Token t) = e.Token t
  with_flags_in lines (Form' kind s parts s' items end split open_break comments) = e.Form (record {
    kind = kind;
    parts = each_with_flags_in lines parts;
    seq = record {
      items = each_with_flags_in lines items;
      end = end;
      split = settled_split_in lines (frame kind) kind split (items-the_row-Expr _ items) end;
    };
    open_break = open_break;
    comments = comments;
  })

  pub each_with_flags_in : Lines → {n : _} → Row_of-Expr n → List Expr
  each_with_flags_in lines end_of-Expr = []
  each_with_flags_in lines (more_of-Expr x rest) = with_flags_in lines x ∷ each_with_flags_in lines rest

abbrev pub item_with_flags_in : Lines → Item → Item
item_with_flags_in lines (i.Block texts) = i.Block texts
item_with_flags_in lines (i.Stmt x) = i.Stmt (with_flags_in lines x)

-- the file value with its flags settled
abbrev pub flags_in : Lines → List Item → List Item
flags_in lines items = map (item_with_flags_in lines) items

-- ---- as lines are counted

abbrev pub settled_split : Frame → Kind → Bool → List Expr → List Bytes → Bool
settled_split f kind split items end = settled_split_in l.Counted f kind split items end

abbrev pub with_flags : Expr → Expr
with_flags x = with_flags_in l.Counted x

abbrev pub each_with_flags : {n : _} → Row_of-Expr n → List Expr
each_with_flags exprs = each_with_flags_in l.Counted exprs

abbrev pub item_with_flags : Item → Item
item_with_flags item = item_with_flags_in l.Counted item

abbrev pub flags : List Item → List Item
flags items = flags_in l.Counted items

-- A file value is settled where each of its sequences is split exactly where the layout breaks it.
abbrev pub IsSettled : List Item → Type 0
IsSettled items = flags items ≡ items
