-- A field that the type lacks of which it is selected (GraphQL October 2021, 5.3.1 Field
-- Selections).
use Rattle.std.specs.Prelude.{[], ◌∷◌}
use Rattle.std.specs.Option.{is_none}
use Rattle.graphql_occurrences.specs.Parts.{AField}
use Rattle.graphql_rule_errors.specs.Places.{error_if}
use Rattle.graphql_visitors.specs.Rules.{Rule}

module _ {S C : Type 0} where
  -- at the field
  abbrev pub fields_on_correct_type_faults : Rule S C
  fields_on_correct_type_faults subject (AField f) = error_if (is_none f.declared) (f.place ∷ [])
  fields_on_correct_type_faults subject _ = []
