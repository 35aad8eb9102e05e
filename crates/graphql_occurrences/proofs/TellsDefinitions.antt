-- What the events of a document tell of its parts.
use Rattle.std.proofs.Common.{◌≡◌, List, [], ◌∷◌, ◌++◌, Option, Some, None, refl, sym, ap, ◌∙◌, append-nil}
use Rattle.std.specs.Prelude.{unwrap_or}
use Rattle.std.specs.Option.{option_map, option_and_then, option_to_list}
use Rattle.std.specs.List.{flat_map}
use Rattle.std.proofs.lemmas.Grind.{flat_map-append}
use Rattle.std.proofs.lemmas.Slice.Eq.{bytes_eq-Decides}
use Rattle.graphql_names.specs.Names.{Bytes}
use Rattle.graphql_values.specs.InputValues.{Placed}
use Rattle.graphql_values.specs.declared.input_value.InputValue.{InputValue}
use Rattle.graphql_schema.specs.declared.directive_location.DirectiveLocation.TheVariants as location
use Rattle.graphql_schema.specs.declared.meta.MetaType.{MetaType}
use Rattle.graphql_occurrences.specs.DeclaredLookups.{Declarations}
use Rattle.graphql_occurrences.specs.DeclaredLookups.{type_named, own_name}
use Rattle.graphql_tree.specs.Variables.{Variable}
use Rattle.graphql_tree.specs.declared.document.OperationType.{OperationType}
use Rattle.graphql_tree.specs.declared.document.OperationType.TheVariants as operation
use Rattle.graphql_tree.specs.declared.document.Operation.{Operation}
use Rattle.graphql_tree.specs.declared.document.Fragment.{Fragment}
use Rattle.graphql_tree.specs.declared.document.Definition.{Definition}
use Rattle.graphql_tree.specs.declared.document.Definition.TheVariants as definition
use Rattle.graphql_occurrences.specs.Lookups.{bare_place, location_of, referred, root_of}
use Rattle.graphql_tree.specs.Documents.{variables_in}
use Rattle.graphql_occurrences.specs.Parts.{InputPlace, Part, Condition}
use Rattle.graphql_occurrences.specs.Occurrences.{placed_parts, directives_parts, set_parts, variable_parts, operation_parts, definition_parts, occurrences}
use Rattle.graphql_occurrences.specs.Nodes.{Around, Seen, Leave, AtDocument, AtOperation, AtFragment, AtVariableDefinition, placed_as, operation_head, fragment_head}
use Rattle.graphql_occurrences.specs.Events as walk
use Rattle.graphql_occurrences.specs.Events.{events, seen_event, through, through_each, asked, top}
use Rattle.graphql_occurrences.specs.PartsOf.{parts_of}
use Rattle.graphql_occurrences.proofs.Tells.{Tells, tells_nil, tells_append, tells_as, tells_three, tells_it, tells_each}
use Rattle.graphql_occurrences.proofs.TellsValues.{value_tells, directives_tell}
use Rattle.graphql_occurrences.proofs.TellsSelections.{any_set}
use Rattle.graphql_names.proofs.NameMaps.{found_is_in}

module _ {S C : Type 0} (schema : Declarations S C) where
  default_tells : (place : InputPlace) (around : Around S C) (x : Option (Placed (InputValue S))) → Tells (walk.default_events schema x (asked around (Some place))) (flat_map (placed_parts schema (Some place)) (option_to_list x))
  default_tells place around None = tells_nil
  default_tells place around (Some x) = tells_as _ _ _ _ refl (sym (append-nil (placed_parts schema (Some place) x))) (value_tells schema x.item x.span (asked around (Some place)))

  variable_tells : (around : Around S C) (v : Variable S) → Tells (walk.variable_events schema v around) (variable_parts schema v)
  variable_tells around v =
      let place = bare_place v.1.var_type.item in
      let inside = asked around (Some place) in
      tells_it (AtVariableDefinition v) _ inside _ (tells_append _ _ _ _ (default_tells place around v.1.default_value) (directives_tell schema location.VariableDefinition inside v.1.directives))

  -- a type by its own name
  own_is : (m : Option (MetaType S C)) (name : Bytes) → type_named schema.types name ≡ m → referred schema (top {S = S} {C = C} (option_map own_name m)).current ≡ m
  own_is None name e = refl
  own_is (Some m) name e = ap (type_named schema.types) ((bytes_eq-Decides (own_name m) name).0 (found_is_in own_name schema.types name m e).0) ∙ e

  own_of_some : (name : Option Bytes) → referred schema (top {S = S} {C = C} (option_map own_name (option_and_then (type_named schema.types) name))).current ≡ option_and_then (type_named schema.types) name
  own_of_some None = refl
  own_of_some (Some name) = own_is (type_named schema.types name) name refl

  root_is : (kind : OperationType) → referred schema (top {S = S} {C = C} (option_map own_name (root_of schema kind))).current ≡ root_of schema kind
  root_is operation.Query = own_is (type_named schema.types schema.roots.query) schema.roots.query refl
  root_is operation.Mutation = own_of_some schema.roots.mutation
  root_is operation.Subscription = own_of_some schema.roots.subscription

  -- what is within an operation
  abbrev pub within_operation : Placed (Operation S) → List (Seen S C)
  within_operation o =
      let inside = top (option_map own_name (root_of schema o.item.operation_type)) in
      through_each (walk.variable_events schema) (variables_in o.item.variable_definitions) inside
      ++ (walk.directives_events schema (location_of o.item.operation_type) (unwrap_or o.item.directives []) inside ++ walk.set_events schema o.item.selection_set inside)

  pub operation_tells : (o : Placed (Operation S)) → Tells (within_operation o) (operation_parts schema o.item)
  operation_tells o =
      let inside = top (option_map own_name (root_of schema o.item.operation_type)) in
      tells_three _ _ _ _ _ _ (tells_each (λ v. walk.variable_events schema v inside) (variable_parts schema) (variable_tells inside) (variables_in o.item.variable_definitions))
      (directives_tell schema (location_of o.item.operation_type) inside o.item.directives)
      (tells_as _ _ _ _ refl (ap (λ t. set_parts schema t o.item.selection_set) (root_is o.item.operation_type)) (any_set schema o.item.selection_set inside))

  -- what is within a fragment
  abbrev pub within_fragment : Placed (Fragment S) → List (Seen S C)
  within_fragment f =
      let inside = top (Some f.item.type_condition.item) in
      walk.directives_events schema location.FragmentDefinition (unwrap_or f.item.directives []) inside ++ walk.set_events schema f.item.selection_set inside

  abbrev pub fragment_inside : Placed (Fragment S) → List (Part S C)
  fragment_inside f = directives_parts schema location.FragmentDefinition f.item.directives ++ set_parts schema (type_named schema.types f.item.type_condition.item) f.item.selection_set

  pub fragment_tells : (f : Placed (Fragment S)) → Tells (within_fragment f) (fragment_inside f)
  fragment_tells f =
      let inside = top (Some f.item.type_condition.item) in
      tells_append _ _ _ _ (directives_tell schema location.FragmentDefinition inside f.item.directives) (any_set schema f.item.selection_set inside)

  -- the events of a definition tell its parts
  pub definition_told : (d : Definition S) → flat_map parts_of (walk.definition_events schema d) ≡ definition_parts schema d
  definition_told (definition.Operation o) =
      flat_map-append parts_of (within_operation o) (seen_event (top (option_map own_name (root_of schema o.item.operation_type))) (Leave (AtOperation (placed_as o (operation_head o.item)))) ∷ [])
      ∙ append-nil (flat_map parts_of (within_operation o)) ∙ (operation_tells o).told
  definition_told (definition.Fragment f) =
      ap (λ ps. Condition f.item.type_condition ∷ ps)
      (flat_map-append parts_of (within_fragment f) (seen_event (top (Some f.item.type_condition.item)) (Leave (AtFragment (placed_as f (fragment_head f.item)))) ∷ [])
      ∙ append-nil (flat_map parts_of (within_fragment f)) ∙ (fragment_tells f).told)

  definitions_told : (ds : List (Definition S)) → flat_map parts_of (flat_map (walk.definition_events schema) ds) ≡ flat_map (definition_parts schema) ds
  definitions_told [] = refl
  definitions_told (d ∷ ds) = flat_map-append parts_of (walk.definition_events schema d) (flat_map (walk.definition_events schema) ds) ∙ (λ i. definition_told d i ++ definitions_told ds i)

  -- the events of a document tell its parts
  pub events_told : (document : List (Definition S)) → flat_map parts_of (events schema document) ≡ occurrences schema document
  unfolding events occurrences
  events_told document =
      flat_map-append parts_of (flat_map (walk.definition_events schema) document) (seen_event (top None) (Leave (AtDocument document)) ∷ [])
      ∙ append-nil (flat_map parts_of (flat_map (walk.definition_events schema) document)) ∙ definitions_told document
