-- A fragment whose type has no possible type in common with the type of which it is selected
-- (GraphQL October 2021, 5.5.2.3 Fragment Spread Is Possible).
use Rattle.std.specs.Prelude.{[], ◌∷◌, not, Bool}
use Rattle.graphql_schema.specs.declared.meta.MetaType.{MetaType}
use Rattle.graphql_names.specs.Names.{Bytes, passes}
use Rattle.std.specs.Option.{option_map}
use Rattle.graphql_tree.specs.Definitions.{fragment_named}
use Rattle.graphql_occurrences.specs.Lookups.{known}
use Rattle.graphql_occurrences.specs.Parts.{ASpread, AnInline}
use Rattle.graphql_rule_errors.specs.Places.{error_if}
use Rattle.graphql_schema.specs.Declarations.{Declarations}
use Rattle.graphql_schema.specs.Possible.{overlap}
use Rattle.graphql_visitors.specs.Rules.{Rule}

module _ {S C : Type 0} where
  -- the type of this name is known, and has no possible type in common with the other one
  abbrev pub is_apart : Declarations S C → MetaType S C → Bytes → Bool
  is_apart schema parent name =
      passes (λ m. not (overlap schema.types parent m)) (known schema name)

  -- at the spread, or at the inline fragment
  abbrev pub possible_fragment_spreads_faults : Rule S C
  possible_fragment_spreads_faults subject (ASpread s) =
      error_if (passes (λ name. is_apart subject.schema s.parent name.item) (option_map
      (λ f. f.item.type_condition) (fragment_named subject.document s.name.item))) (s.place ∷ [])
  possible_fragment_spreads_faults subject (AnInline i) = error_if
      (passes (λ name. is_apart subject.schema i.parent name.item) i.condition) (i.place ∷ [])
  possible_fragment_spreads_faults subject _ = []
