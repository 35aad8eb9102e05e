-- `Items` as a list that may hold the type that holds it: a value is its list, and owns what the
-- `Vec` inside owns.
use mathlib.Core.Path.{◌≡◌, refl, sym}
use mathlib.Core.List.{List, []}
use mathlib.Core.Former.{Former, this, list, via, children}
use base.Stored.{code_map}
use denote.RattleType.{RattleType}
use denote.HoleLaws.{Alike}
use denote.HolePlaces.{Recodes, struct_places, laid}
use denote.Hole.Carrier.{listed, list-listed}
use denote.Hole.Fix.{over}
use denote.Param.Weighed.{Weighed, w_list}
use denote.Model.Placed.{view_places}
use Rattle.std.specs.formers.vec.Vec as vec
use Rattle.std.specs.declared.alloc.Global.{Global}
use Rattle.std.specs.contracts.alloc.Global as global
use Rattle.std.specs.contracts.impls.GlobalAllocator.TheImpl.{ghosts}
use Rattle.graphql_text.specs.declared.items.Items.TheInside.{Inside}
use Rattle.graphql_text.specs.declared.items.Items.TheView.{view, invariant}
use Rattle.graphql_text.specs.contracts.items.Items as items
use Rattle.graphql_text.specs.contracts.items.Items.TheInside as inside

-- the values that a list holds are its elements
abbrev pub the_former : Former {0} → Former {0}
the_former g = list g

abbrev pub the_weighed : {g : Former {0}} → Weighed g → Weighed (the_former g)
the_weighed w = w_list w

pub the_empty : List ⊥
the_empty = []

abbrev pub the_items : (X : Type 0) → List X → List X
the_items X xs = xs

pub the_items_listed : (X : Type 0) (xs : List X)
    → listed _ (children (the_former this) X xs) ≡ the_items X xs
the_items_listed X xs = list-listed X xs

-- the one field, a `Vec`
abbrev field : Former {0}
field = via (vec.the_former this Global) Inside (λ X a. a.held) (λ X v. record { held = v })
    (λ X a. refl) (λ X v. refl)

module _ (R S : RattleType) (h : R.Denot → S.Denot) where
  -- it owns and lends what its elements own and lend
  pub the_places : Alike R S h
      → Alike (items.the_row R) (items.the_row S) ((the_former this).map R.Denot S.Denot h)
  the_places same =
      view_places field (list this) view (λ X Y k u. refl) (λ X u. refl) R.Denot S.Denot h
      (items.the_row R).coded (items.the_row S).coded (invariant R.Denot) (invariant S.Denot)
      (λ u p q. refl) (λ u p q. refl) (λ u e. tt) (λ u e. tt) (over (inside.the_row R))
      (over (inside.the_row S))
      (struct_places (inside.the_type R) (inside.the_type S) (vec.mapped h, tt) _ (λ d. refl) refl
      (laid _ _ _ (vec.the_places global.the_row ghosts R S h same), tt))

  -- its code is that of its elements, one by one
  pub the_codes_placed : Recodes R S h
      → Recodes (items.the_row R) (items.the_row S) ((the_former this).map R.Denot S.Denot h)
  the_codes_placed same xs = sym (code_map R.coded.code S.coded.code h (λ x. sym (same x)) xs)
