-- How `Items` keeps its values, so that a type may hold itself in one: the values are those of the `Vec` inside, in order.
use mathlib.Core.Path.{◌≡◌, refl, sym}
use mathlib.Core.List.{List, []}
use mathlib.Core.Former.{Former, this, list, via, children}
use base.Stored.{code_map}
use denote.RattleType.{RattleType}
use denote.HoleLaws.{Alike}
use denote.HolePlaces.{Recodes, struct_places, laid}
use denote.Hole.Carrier.{listed, list-listed}
use denote.Hole.Fix.{over}
use denote.Param.Weighed.{Weighed, w_list}
use denote.Model.Placed.{view_places}
use Rattle.std.specs.formers.vec.Vec as vec
use Rattle.std.specs.declared.alloc.Global.{Global}
use Rattle.std.specs.contracts.alloc.Global as heap
use Rattle.std.specs.contracts.impls.GlobalAllocator.TheImpl.{ghosts}
use Rattle.bz_items.specs.declared.items.Items.TheInside.{Inside}
use Rattle.bz_items.specs.declared.items.Items.TheView.{view, invariant}
use Rattle.bz_items.specs.contracts.items.Items as C
use Rattle.bz_items.specs.contracts.items.Items.TheInside as I

abbrev pub the_former : Former {0} → Former {0}
the_former held = list held

abbrev pub the_weighed : {held : Former {0}} → Weighed held → Weighed (the_former held)
the_weighed measure = w_list measure

pub the_empty : List ⊥
the_empty = []

abbrev pub the_items : (X : Type 0) → List X → List X
the_items X values = values

pub the_items_listed : (X : Type 0) (values : List X) → listed _ (children (the_former this) X values) ≡ the_items X values
the_items_listed X values = list-listed X values

-- the one field, by way of its elements
abbrev the_field : Former {0}
the_field = via (vec.the_former this Global) Inside (λ X inside. inside.items) (λ X kept. record { items = kept }) (λ X inside. refl) (λ X kept. refl)

module _ (R S : RattleType) (change : R.Denot → S.Denot) where
  pub the_places : Alike R S change → Alike (C.the_row R) (C.the_row S) ((the_former this).map R.Denot S.Denot change)
  the_places alike = view_places the_field (list this) view (λ X Y k u. refl) (λ X u. refl) R.Denot S.Denot change (C.the_row R).coded (C.the_row S).coded
      (invariant R.Denot) (invariant S.Denot) (λ u p q. refl) (λ u p q. refl) (λ u e. tt) (λ u e. tt)
      (over (I.the_row R)) (over (I.the_row S))
      (struct_places (I.the_type R) (I.the_type S) (vec.mapped change, tt) _ (λ d. refl) refl (laid _ _ _ (vec.the_places heap.the_row ghosts R S change alike), tt))

  pub the_codes_placed : Recodes R S change → Recodes (C.the_row R) (C.the_row S) ((the_former this).map R.Denot S.Denot change)
  the_codes_placed recodes values = sym (code_map R.coded.code S.coded.code change (λ x. sym (recodes x)) values)
