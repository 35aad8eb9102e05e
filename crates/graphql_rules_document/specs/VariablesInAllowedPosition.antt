-- An operation, its variable, and a use that it reaches where the variable is not allowed (GraphQL
-- October 2021, 5.8.5 All Variable Usages Are Allowed).
use Rattle.std.specs.Prelude.{◌++◌, ◌&&◌, ◌||◌, Bool, true, false, not, List, [], ◌∷◌, Option, Some}
use Rattle.std.specs.Prelude.{None, if◌then◌else◌}
use Rattle.std.specs.List.{flat_map}
use Rattle.graphql_names.specs.Names.{named}
use Rattle.graphql_names.specs.TypeReference.{nullable}
use Rattle.graphql_names.specs.declared.type_modifier.TypeModifier.TheVariants as modifier
use Rattle.graphql_values.specs.InputValues.{Placed}
use Rattle.graphql_values.specs.declared.input_value.InputValue.{InputValue}
use Rattle.graphql_values.specs.declared.input_value.InputValue.TheVariants as value
use Rattle.graphql_schema.specs.Types.{TypeOf, refuses_null}
use Rattle.graphql_schema.specs.declared.meta.MetaType.{MetaType}
use Rattle.graphql_schema.specs.Subtypes.{is_subtype}
use Rattle.graphql_occurrences.specs.Parts.{InputPlace, Use, VariablePart}
use Rattle.graphql_rules_document.specs.Reached.{uses_from}
use Rattle.graphql_rules_document.specs.Scopes.{FragmentScope, OperationScope}
use Rattle.graphql_rule_errors.specs.Places.{Places, error_if}

-- the same type with `null`
abbrev pub with_null : TypeOf → TypeOf
with_null t = record { name = t.name; modifiers = nullable t.modifiers }

-- the same type without `null`
abbrev pub without_null : TypeOf → TypeOf
without_null t = record { name = t.name; modifiers = nullable t.modifiers ++ modifier.NonNull ∷ [] }

-- the type that is asked for at a place: without `null` at the one field that is given of an input
-- object (September 2025, 3.10.1 OneOf Input Objects)
abbrev pub expected_at : InputPlace → TypeOf
expected_at p = if p.is_only_field then without_null p.asked else p.asked

module _ {S : Type 0} where
  abbrev pub is_value : InputValue S → Bool
  is_value value.Null = false
  is_value _ = true

  -- a default that is not `null`
  abbrev pub has_value : Option (Placed (InputValue S)) → Bool
  has_value None = false
  has_value (Some default) = is_value default.item

module _ {S C : Type 0} (types : List (MetaType S C)) where
  -- At the one field that is given of an input object no default helps: the variable's type is
  -- below the field's without `null`. Where else `null` is refused, a variable that may be `null`
  -- stands only if a default stands in for it.
  abbrev pub is_allowed : VariablePart S → InputPlace → Bool
  is_allowed v p =
      if p.is_only_field then is_subtype types v.type_of.item (without_null p.asked)
      else if refuses_null p.asked && not (refuses_null v.type_of.item)
      then (has_value v.default || p.has_default)
      && is_subtype types v.type_of.item (with_null p.asked)
      else is_subtype types v.type_of.item p.asked

  abbrev pub disallowed_at : VariablePart S → Use → Option InputPlace → Places
  disallowed_at v u None = []
  disallowed_at v u (Some p) = error_if (not (is_allowed v p)) (v.name.span.start ∷ u.place ∷ [])

  -- nothing is said of a use without a definition, or where no type is asked for
  abbrev pub disallowed_by : Option (VariablePart S) → Use → Places
  disallowed_by None u = []
  disallowed_by (Some v) u = disallowed_at v u u.at

  -- of several definitions of one name the first counts
  abbrev pub disallowed_use : OperationScope S → Use → Places
  disallowed_use o u = disallowed_by (named (λ v. v.name.item) o.defined u.name) u

  abbrev pub disallowed_in : List FragmentScope → OperationScope S → Places
  disallowed_in fragments o = flat_map (disallowed_use o) (uses_from fragments o)

  -- each use of a variable at a place that does not allow its type
  abbrev pub variables_in_allowed_position_faults : List (OperationScope S) → List FragmentScope
      → Places
  variables_in_allowed_position_faults operations fragments =
      flat_map (disallowed_in fragments) operations
