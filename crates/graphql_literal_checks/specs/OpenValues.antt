-- What is still asked of the lists and objects around the part of a value that is being judged
-- (GraphQL October 2021, 5.6.1 Values of Correct Type).
use Rattle.std.specs.Prelude.{◌≡◌, ◌↔◌, ◌&&◌, ◌+◌, ◌*◌, ℕ, Bool, true, List, [], ◌∷◌, Result}
use Rattle.std.specs.List.{sum_by}
use Rattle.graphql_text.specs.Memory.{Answers}
use Rattle.graphql_values.specs.declared.input_value.InputValue.{InputValue}
use Rattle.graphql_values.specs.Counts.{value_count}
use Rattle.graphql_values.specs.InputValues.{Placed, Pair}
use Rattle.graphql_schema.specs.Scalars.{Scalars}
use Rattle.graphql_schema.specs.declared.meta.MetaType.{MetaType}
use Rattle.graphql_literal_checks.specs.declared.misfit.Misfit.{Misfit}
use Rattle.graphql_literal_checks.specs.declared.open_values.Open.{Open}
use Rattle.graphql_literal_checks.specs.declared.open_values.Open.TheVariants as around
use Rattle.graphql_literal_checks.specs.declared.open_values.OpenList.{OpenList}
use Rattle.graphql_literal_checks.specs.declared.open_values.OpenObject.{OpenObject}
use Rattle.graphql_literal_checks.specs.declared.source.Source.{Source}
use Rattle.graphql_literal_checks.specs.Conforms.{EachConforms, FieldsConform}
use Rattle.graphql_literal_checks.specs.InputTypes.{WholeFits}
use Rattle.graphql_literal_checks.specs.Judged.{IsMemory, lent, are_constant, have_constants}

module _ {S : Type 0} where
  -- no variable stands in a list: not in the items that were judged, in the one that is being
  -- judged (here), or in the rest
  abbrev pub list_constant : Bool → OpenList S → Bool
  list_constant here l = (l.constant && here) && are_constant l.rest.now

  -- how many turns a rest takes at most
  abbrev pub items_left : List (Placed (InputValue S)) → ℕ
  items_left xs = 1 + 2 * sum_by (λ x. value_count x.item) xs

  abbrev pub fields_left : List (Pair (InputValue S)) → ℕ
  fields_left ps = 1 + 2 * sum_by (λ p. value_count p.1.item) ps

module _ {S C : Type 0} where
  -- no variable stands in an object
  abbrev pub object_constant : Bool → OpenObject S C → Bool
  object_constant here o = (o.constant && here) && have_constants o.rest.now

  abbrev pub stays_constant : Bool → Open S C → Bool
  stays_constant here (around.List l) = list_constant here l
  stays_constant here (around.Object o) = object_constant here o

  -- nor in the outermost of those that are open
  abbrev pub all_constant : Bool → List (Open S C) → Bool
  all_constant here [] = here
  all_constant here (f ∷ fs) = stays_constant (all_constant here fs) f

  abbrev pub left_in : Open S C → ℕ
  left_in (around.List l) = items_left l.rest.now
  left_in (around.Object o) = fields_left o.rest.now

  -- how many turns the values that are open take at most
  abbrev pub all_left : List (Open S C) → ℕ
  all_left fs = sum_by left_in fs

module _ {S C : Type 0} (scalars : Scalars S C)
    (types : List (MetaType S C)) (source : Source) where
  -- the rest of the items conform
  abbrev pub ListOwes : OpenList S → Type 0
  ListOwes l = EachConforms scalars types source (lent l.asked) l.rest.now

  -- the rest of the fields conform, none is missing, and the type accepts the object where no
  -- variable stands in it
  abbrev pub ObjectOwes : Bool → OpenObject S C → Type 0
  ObjectOwes here o = FieldsConform scalars types source o.meta.now.input_fields o.rest.now
      × WholeFits scalars.accepts o.meta.now o.value.now o.pairs.now (object_constant here o ≡ true)

  abbrev pub Owes : Bool → Open S C → Type 0
  Owes here (around.List l) = ListOwes l
  Owes here (around.Object o) = ObjectOwes here o

  -- the same of all that are open, the innermost last
  abbrev pub Owed : Bool → List (Open S C) → Type 0
  Owed here [] = Unit {0}
  Owed here (f ∷ fs) = Owes (all_constant here fs) f × Owed here fs

  -- a value tells whether no variable stood in what was judged, and then the fact and what was
  -- asked before are what is asked now; a misfit, that the fact does not hold
  abbrev pub LeavesAsked : Type 0 → Bool → Result Bool Misfit → List (Open S C) → List (Open S C)
      → Type 0
  LeavesAsked Fact constant result old new =
      Answers (λ told. Owed told new ↔ (Fact × Owed constant old)) (λ _. Fact → ⊥) IsMemory result
