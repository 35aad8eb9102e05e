-- What is asked of a list or an object once its next part was begun with, or where there is none.
use Rattle.std.proofs.Common.{◌≡◌, ◌&&◌, Bool, true, List, [], ◌∷◌, ◌++◌, Some, Result, Bor, length, ap, sym, subst, refl, ◌∙◌}
use Rattle.graphql_values.specs.declared.input_value.InputValue.{InputValue}
use Rattle.graphql_values.specs.InputValues.{Placed, Pair}
use Rattle.graphql_names.specs.declared.type_modifier.TypeModifier.{TypeModifier}
use Rattle.graphql_names.specs.declared.type_reference.«Type».{«Type»}
use Rattle.graphql_schema.specs.Scalars.{Scalars}
use Rattle.graphql_schema.specs.declared.meta.argument.Argument.{Argument}
use Rattle.graphql_schema.specs.declared.meta.MetaType.{MetaType}
use Rattle.graphql_names.specs.Names.{Bytes}
use Rattle.graphql_literal_checks.specs.declared.misfit.Misfit.{Misfit}
use Rattle.graphql_literal_checks.specs.declared.open_values.Open.{Open}
use Rattle.graphql_literal_checks.specs.declared.open_values.Open.TheVariants as around
use Rattle.graphql_literal_checks.specs.declared.open_values.OpenList.{OpenList}
use Rattle.graphql_literal_checks.specs.declared.open_values.OpenObject.{OpenObject}
use Rattle.graphql_literal_checks.specs.declared.source.Source.{Source}
use Rattle.graphql_literal_checks.specs.Conforms.{Conforms}
use Rattle.graphql_literal_checks.specs.InputTypes.{WholeFits, argument_named}
use Rattle.graphql_literal_checks.specs.Judged.{FieldFits, Judged, lent, is_constant, are_constant, have_constants}
use Rattle.graphql_literal_checks.specs.OpenValues.{ListOwes, ObjectOwes, LeavesAsked, list_constant, object_constant}
use Rattle.graphql_literal_checks.proofs.ConformsLemmas.{first_field, first_item, fits_field, field_fits, no_field_varies, no_item, no_item_varies, no_pair, with_field, with_item}
use Rattle.graphql_literal_checks.proofs.OpenLemmas.{constant_first, opens_none, opens_same, opens_within}

module _ {S C : Type 0} (scalars : Scalars S C) (types : List (MetaType S C)) (source : Source) where
  abbrev Opened : Type 0 → Bool → Result Bool Misfit → List (Open S C) → List (Open S C) → Type 0
  Opened = LeavesAsked scalars types source

  -- ---- lists

  module _ (l : OpenList S) (here : Bool) where
    pub list_ends : length l.rest.now ≡ 0 → ListOwes scalars types source l × ((l.constant && here) ≡ list_constant here l)
    list_ends none = (no_item scalars types source (lent l.asked) l.rest.now none, no_item_varies (l.constant && here) l.rest.now none)

    module _ (rest : Bor (List (Placed (InputValue S)))) (x : Placed (InputValue S)) (is : l.rest.now ≡ x ∷ rest.now) (asked : «Type» Bytes (Bor (List TypeModifier))) (same : lent asked ≡ lent l.asked) (r : Result Bool Misfit) (fs gs new : List (Open S C)) where
      -- the list without its first item
      abbrev list_behind : OpenList S
      list_behind = record { asked = l.asked; rest = rest; constant = l.constant && here }

      pub item_opens : gs ≡ fs ++ around.List list_behind ∷ [] → Opened (Conforms scalars types source (lent asked) x.item) (is_constant x.item) r gs new → Opened (ListOwes scalars types source l) (list_constant here l) r fs new
      item_opens pushed h =
          opens_same scalars types source
          (Conforms scalars types source (lent asked) x.item × ListOwes scalars types source list_behind) (ListOwes scalars types source l) (list_constant (is_constant x.item) list_behind) (list_constant here l) r fs new
          (λ w. with_item scalars types source (lent l.asked) l.rest.now x rest.now is (subst (λ t. Conforms scalars types source t x.item) same w.0) w.1)
          (λ each. let u = first_item scalars types source (lent l.asked) l.rest.now each x rest.now is in (subst (λ t. Conforms scalars types source t x.item) (sym same) u.0, u.1))
          (sym (constant_first l.constant here (is_constant x.item) (are_constant rest.now) (are_constant l.rest.now) (ap are_constant is)))
          (opens_within scalars types source (Conforms scalars types source (lent asked) x.item) (is_constant x.item) r fs gs new (around.List list_behind) pushed h)

  -- ---- objects

  module _ (o : OpenObject S C) (here : Bool) where
    abbrev declared : List (Argument S)
    declared = o.meta.now.input_fields

    -- what is asked of the object whose fields conform
    abbrev pub Whole : Bool → Type 0
    Whole constant = WholeFits scalars.accepts o.meta.now o.value.now o.pairs.now (constant ≡ true)

    pub object_ends : (r : Result Bool Misfit) (fs : List (Open S C)) → length o.rest.now ≡ 0 → Judged (Whole (o.constant && here)) (o.constant && here) r → Opened (ObjectOwes scalars types source here o) (object_constant here o) r fs fs
    object_ends r fs none h =
        let same : (o.constant && here) ≡ object_constant here o = no_field_varies (o.constant && here) o.rest.now none in
        opens_same scalars types source (Whole (o.constant && here)) (ObjectOwes scalars types source here o) (o.constant && here) (object_constant here o) r fs fs
        (λ w. (no_pair scalars types source declared o.rest.now none, (w.0, λ e. w.1 (same ∙ e)))) (λ owes. (owes.1.0, λ e. owes.1.1 (sym same ∙ e))) same
        (opens_none scalars types source (Whole (o.constant && here)) (o.constant && here) r fs h)

    module _ (rest : Bor (List (Pair (InputValue S)))) (p : Pair (InputValue S)) (is : o.rest.now ≡ p ∷ rest.now) (r : Result Bool Misfit) (fs new : List (Open S C)) where
      -- the object without its first field
      abbrev object_behind : OpenObject S C
      object_behind = record { meta = o.meta; value = o.value; pairs = o.pairs; rest = rest; field = o.field; constant = o.constant && here }

      pub pair_opens :
          Opened (FieldFits scalars types source declared p.0.item p.1.item × ObjectOwes scalars types source (is_constant p.1.item) object_behind) (object_constant (is_constant p.1.item) object_behind) r fs new
          → Opened (ObjectOwes scalars types source here o) (object_constant here o) r fs new
      pair_opens h =
          let same : object_constant (is_constant p.1.item) object_behind ≡ object_constant here o =
          sym (constant_first o.constant here (is_constant p.1.item) (have_constants rest.now) (have_constants o.rest.now) (ap have_constants is)) in
          opens_same scalars types source
          (FieldFits scalars types source declared p.0.item p.1.item × ObjectOwes scalars types source (is_constant p.1.item) object_behind) (ObjectOwes scalars types source here o)
          (object_constant (is_constant p.1.item) object_behind) (object_constant here o) r fs new
          (λ w. (with_field scalars types source declared o.rest.now p rest.now is w.0 w.1.0, (w.1.1.0, λ e. w.1.1.1 (same ∙ e))))
          (λ owes. let u = first_field scalars types source declared o.rest.now owes.0 p rest.now is in (u.0, (u.1, (owes.1.0, λ e. owes.1.1 (sym same ∙ e))))) same h

    -- a field's value was begun with, whose type is declared
    module _ (name : Bytes) (v : InputValue S) (a : Argument S) (there : argument_named declared name ≡ Some a) (asked : «Type» Bytes (Bor (List TypeModifier))) (same : lent asked ≡ a.arg_type) (r : Result Bool Misfit) (fs gs new : List (Open S C)) where
      pub field_opens : gs ≡ fs ++ around.Object o ∷ [] → Opened (Conforms scalars types source (lent asked) v) here r gs new → Opened (FieldFits scalars types source declared name v × ObjectOwes scalars types source here o) (object_constant here o) r fs new
      field_opens pushed h =
          opens_same scalars types source
          (Conforms scalars types source (lent asked) v × ObjectOwes scalars types source here o) (FieldFits scalars types source declared name v × ObjectOwes scalars types source here o) (object_constant here o) (object_constant here o) r fs new
          (λ w. (field_fits scalars types source declared name v a (lent asked) there same w.0, w.1)) (λ w. (fits_field scalars types source declared name v a (lent asked) there same w.0, w.1)) refl
          (opens_within scalars types source (Conforms scalars types source (lent asked) v) here r fs gs new (around.Object o) pushed h)
