-- The parts of a document without their places: each stands at the origin, and so does what it
-- holds of the document. What the schema declares there stays.
use Rattle.std.specs.Prelude.{map}
use Rattle.std.specs.Option.{option_map}
use Rattle.graphql_text.specs.Position.{origin}
use Rattle.graphql_values.specs.InputValues.{unlocated}
use Rattle.graphql_tree.specs.Unlocated.{without_place, unlocated_name, unlocated_argument}
use Rattle.graphql_occurrences.specs.Parts.{VariablePart, Part, VariableDefined, Condition, AField}
use Rattle.graphql_occurrences.specs.Parts.{ASpread, AnInline, ADirective, Given, ObjectOf}
use Rattle.graphql_occurrences.specs.Parts.{VariableUsed}

module _ {S : Type 0} where
  -- 2.10 Variables
  abbrev pub unlocated_variable_part : VariablePart S → VariablePart S
  unlocated_variable_part v = record {
    name = unlocated_name v.name;
    type_of = without_place (λ t. t) v.type_of;
    default = option_map (without_place unlocated) v.default;
  }

module _ {S C : Type 0} where
  -- the same part at no place
  abbrev pub unlocated_part : Part S C → Part S C
  unlocated_part (VariableDefined v) = VariableDefined (unlocated_variable_part v)
  unlocated_part (Condition name) = Condition (unlocated_name name)
  unlocated_part (AField f) = AField (record f { place = origin })
  unlocated_part (ASpread s) = ASpread (record s { name = unlocated_name s.name; place = origin })
  unlocated_part (AnInline i) =
      AnInline (record i { condition = option_map unlocated_name i.condition; place = origin })
  unlocated_part (ADirective d) = ADirective (record d { place = origin })
  unlocated_part (Given g) =
      Given (record g { given = map unlocated_argument g.given; place = origin })
  unlocated_part (ObjectOf names) = ObjectOf (map unlocated_name names)
  unlocated_part (VariableUsed u) = VariableUsed (record u { place = origin })
