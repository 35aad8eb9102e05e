-- No fragment is spread in a value.
use Rattle.std.proofs.Common.{◌≡◌, refl, sym, subst, false, List, Option}
use Rattle.std.specs.List.{AllByRecursion as Each, flat_map}
use Rattle.graphql_text.specs.declared.position.SourcePosition.{SourcePosition}
use Rattle.graphql_values.specs.InputValues.{Placed, Pair}
use Rattle.graphql_values.specs.declared.input_value.InputValue.{InputValue}
use Rattle.graphql_values.specs.declared.input_value.InputValue.TheVariants as value
use Rattle.graphql_values.proofs.InputValueInduction.{value_ind, HoldsOfItems, HoldsOfPairs}
use Rattle.graphql_tree.specs.Arguments.{Argument}
use Rattle.graphql_schema.specs.declared.meta.argument.Argument.{Argument as Declared}
use Rattle.graphql_schema.specs.Declarations.{Declarations}
use Rattle.graphql_occurrences.specs.Lookups.{argument_place, field_place, item_place}
use Rattle.graphql_occurrences.specs.Occurrences.{placed_parts, value_parts}
use Rattle.graphql_occurrences.specs.Parts.{InputPlace, Part}
use Rattle.graphql_occurrences.proofs.OccurrenceEquations.{parts_null, parts_scalar, parts_enum, parts_variable, parts_list, parts_object}
use Rattle.graphql_rules_document.proofs.ListItems.{all-of}
use Rattle.graphql_plain_validity.specs.StemmingParts.{goes_away}
use Rattle.graphql_plain_validity.proofs.EachItem.{each-flat}

module _ {S C : Type 0} (schema : Declarations S C) where
  abbrev IsNoSpread : Part S C → Type 0
  IsNoSpread x = goes_away x ≡ false

  abbrev SpreadsNone : InputValue S → Type 0
  SpreadsNone v =
      (start : SourcePosition) (here : Option InputPlace) → Each IsNoSpread
      (value_parts schema v start here)

  none-in-list : (xs : List (Placed (InputValue S))) → HoldsOfItems SpreadsNone xs
      → SpreadsNone (value.List xs)
  none-in-list xs each start here =
      subst (Each IsNoSpread) (sym (parts_list schema xs start here))
      (each-flat IsNoSpread (λ x. value_parts schema x.item x.span.start (item_place here)) xs
      (λ x i. all-of (λ (y : Placed (InputValue S)). SpreadsNone y.item) xs each x i x.span.start
      (item_place here)))

  none-in-object : (ps : List (Pair (InputValue S))) → HoldsOfPairs SpreadsNone ps
      → SpreadsNone (value.Object ps)
  none-in-object ps each start here =
      subst (Each IsNoSpread) (sym (parts_object schema ps start here)) (
        refl,
        each-flat IsNoSpread
            (λ p. value_parts schema p.1.item p.1.span.start (field_place schema here p.0.item)) ps
            (λ p i. all-of
            (λ (q : Pair (InputValue S)). SpreadsNone q.1.item) ps each p i p.1.span.start
            (field_place schema here p.0.item)),
      )

  spreads-none : (v : InputValue S) → SpreadsNone v
  spreads-none = value_ind SpreadsNone
      (λ start here. subst (Each IsNoSpread) (sym (parts_null schema start here)) tt)
      (λ s start here. subst (Each IsNoSpread) (sym (parts_scalar schema s start here)) tt)
      (λ n start here. subst (Each IsNoSpread) (sym (parts_enum schema n start here)) tt)
      (λ n start here. subst (Each IsNoSpread) (sym (parts_variable schema n start here))
      (refl, tt))
      none-in-list
      none-in-object

  pub placed-spread-none : (here : Option InputPlace) (v : Placed (InputValue S))
      → Each IsNoSpread (placed_parts schema here v)
  placed-spread-none here v = spreads-none v.item v.span.start here

  pub given-spread-none : (declared : Option (List (Declared S))) (xs : List (Argument S))
      → Each IsNoSpread (flat_map (λ a. placed_parts schema (argument_place declared a.0.item) a.1) xs)
  given-spread-none declared xs =
      each-flat IsNoSpread (λ a. placed_parts schema (argument_place declared a.0.item) a.1) xs
      (λ a i. placed-spread-none (argument_place declared a.0.item) a.1)
