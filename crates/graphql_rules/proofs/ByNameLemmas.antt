-- What the rule on possible spreads says by names is what it says, where each parent is the type of its name.
use Rattle.std.proofs.Common.{◌≡◌, List, [], ◌∷◌, ◌++◌, Option, Some, None, map, get_or, refl, sym, ap, subst, ◌∙◌}
use Rattle.std.specs.Prelude.{IfSome, unwrap_or}
use Rattle.std.specs.Option.{option_map, option_to_list, option_and_then}
use Rattle.std.specs.List.{All, flat_map}
use Rattle.std.proofs.lemmas.Grind.{flat_map-append}
use Rattle.std.proofs.lemmas.List.Elements.{All-head, All-tail}
use Rattle.std.proofs.lemmas.List.Folds.{flat_map-map}
use Rattle.std.proofs.lemmas.Slice.Eq.{bytes_eq-Decides}
use Rattle.graphql_schema.specs.declared.directive_location.DirectiveLocation.{DirectiveLocation}
use Rattle.graphql_schema.specs.declared.directive_location.DirectiveLocation.TheVariants as location
use Rattle.graphql_schema.specs.declared.meta.argument.Argument.{Argument as Declared}
use Rattle.graphql_schema.specs.declared.meta.MetaType.{MetaType}
use Rattle.graphql_schema.specs.Types.{TypeOf, own_name}
use Rattle.graphql_names.proofs.NameMaps.{found_is_in}
use Rattle.graphql_names.specs.Names.{Bytes, passes}
use Rattle.graphql_occurrences.proofs.OccurrenceEquations.{parts_null, parts_scalar, parts_enum, parts_variable, parts_list, parts_object, parts_field, parts_spread, parts_inline}
use Rattle.graphql_occurrences.specs.Lookups.{argument_place, bare_place, directive_arguments, field_arguments, field_in, field_place, field_type, item_place, known, location_of, referred, root_of}
use Rattle.graphql_occurrences.specs.Occurrences.{definition_parts, directive_parts, directives_parts, field_layer, fragment_parts, given_parts, inline_layer, occurrences, operation_parts, placed_parts, selection_parts, set_parts, parts_under, value_parts, variable_parts}
use Rattle.graphql_occurrences.specs.Parts.{ASpread, AnInline, Condition, InlinePart, InputPlace, Part, SpreadPart}
use Rattle.graphql_rule_errors.specs.Places.{error_if}
use Rattle.graphql_rules.specs.Overlaps.{are_apart}
use Rattle.graphql_rules.specs.PossibleByNames.{impossible_by_names}
use Rattle.graphql_rules.specs.PossibleFragmentSpreads.{possible_fragment_spreads_faults, is_apart}
use Rattle.graphql_schema.specs.Declarations.{Declarations}
use Rattle.graphql_text.specs.declared.position.SourcePosition.{SourcePosition}
use Rattle.graphql_tree.proofs.SelectionEquations.{field_layer as layer_of_field, inline_layer as layer_of_inline}
use Rattle.graphql_tree.proofs.SelectionInduction.{selection_ind}
use Rattle.graphql_tree.specs.Arguments.{Argument}
use Rattle.graphql_tree.specs.declared.directive.Directive.{Directive}
use Rattle.graphql_tree.specs.declared.document.Definition.{Definition}
use Rattle.graphql_tree.specs.declared.document.Definition.TheVariants as definition
use Rattle.graphql_tree.specs.declared.document.Fragment.{Fragment}
use Rattle.graphql_tree.specs.declared.document.Operation.{Operation}
use Rattle.graphql_tree.specs.declared.document.OperationType.{OperationType}
use Rattle.graphql_tree.specs.declared.document.OperationType.TheVariants as operation
use Rattle.graphql_tree.specs.declared.selection.Field.{Field}
use Rattle.graphql_tree.specs.declared.selection.InlineFragment.{InlineFragment}
use Rattle.graphql_tree.specs.declared.selection.Selection.{Selection}
use Rattle.graphql_tree.specs.Definitions.{fragment_named}
use Rattle.graphql_tree.specs.Documents.{arguments_in, variables_in}
use Rattle.graphql_tree.specs.Variables.{Variable}
use Rattle.graphql_values.proofs.InputValueInduction.{value_ind}
use Rattle.graphql_values.specs.declared.input_value.InputValue.{InputValue}
use Rattle.graphql_values.specs.InputValues.{Placed}
use Rattle.graphql_visitors.specs.Subjects.{Subject}

module _ {S C : Type 0} (subject : Subject S C) where
  abbrev schema : Declarations S C
  schema = subject.schema

  -- of these parts the same is said by names
  pub record SaysSame (parts : List (Part S C)) : Type 0 where
    pub same : flat_map (impossible_by_names schema subject) parts ≡ flat_map (possible_fragment_spreads_faults subject) parts

  same_none : SaysSame []
  same_none = record { same = refl }

  same_as : (ps qs : List (Part S C)) → ps ≡ qs → SaysSame ps → SaysSame qs
  same_as ps qs e h = subst SaysSame e h

  same_append : (ps qs : List (Part S C)) → SaysSame ps → SaysSame qs → SaysSame (ps ++ qs)
  same_append ps qs h k = record {
    same = flat_map-append (impossible_by_names schema subject) ps qs ∙ (λ i. h.same i ++ k.same i) ∙ sym (flat_map-append (possible_fragment_spreads_faults subject) ps qs);
  }

  -- a part of which both say the same, and others
  same_with : (p : Part S C) (ps : List (Part S C)) → impossible_by_names schema subject p ≡ possible_fragment_spreads_faults subject p → SaysSame ps → SaysSame (p ∷ ps)
  same_with p ps e h = record { same = λ i. e i ++ h.same i }

  same_all : {A : Type 0} (f : A → List (Part S C)) (xs : List A) → All (λ x. SaysSame (f x)) xs → SaysSame (flat_map f xs)
  same_all f [] h = same_none
  same_all f (x ∷ xs) h = same_append (f x) (flat_map f xs) (All-head (λ y. SaysSame (f y)) x xs h) (same_all f xs (All-tail (λ y. SaysSame (f y)) x xs h))

  same_each : {A : Type 0} (f : A → List (Part S C)) → ((x : A) → SaysSame (f x)) → (xs : List A) → SaysSame (flat_map f xs)
  same_each f h [] = same_none
  same_each f h (x ∷ xs) = same_append (f x) (flat_map f xs) (h x) (same_each f h xs)

  -- no fragment stands in a value
  abbrev ValueSame : InputValue S → Type 0
  ValueSame v = (start : SourcePosition) (here : Option InputPlace) → SaysSame (value_parts schema v start here)

  value_same : (v : InputValue S) → ValueSame v
  value_same = value_ind ValueSame
      (λ start here. same_as _ _ (sym (parts_null schema start here)) same_none)
      (λ s start here. same_as _ _ (sym (parts_scalar schema s start here)) same_none)
      (λ n start here. same_as _ _ (sym (parts_enum schema n start here)) same_none)
      (λ n start here. same_as _ _ (sym (parts_variable schema n start here)) (same_with _ _ refl same_none))
      (λ xs h start here. same_as _ _ (sym (parts_list schema xs start here))
      (same_all (λ x. value_parts schema x.item x.span.start (item_place here)) xs (λ k d l. h k d l (get_or xs k d).span.start (item_place here))))
      (λ ps h start here. same_as _ _ (sym (parts_object schema ps start here))
      (same_with _ _ refl (same_all (λ p. value_parts schema p.1.item p.1.span.start (field_place schema here p.0.item)) ps
      (λ k d l. h k d l (get_or ps k d).1.span.start (field_place schema here (get_or ps k d).0.item)))))

  given_same : (place : SourcePosition) (declared : Option (List (Declared S))) (xs : List (Argument S)) → SaysSame (given_parts schema place declared xs)
  given_same place declared xs =
      same_with _ _ refl (same_each (λ a. placed_parts schema (argument_place declared a.0.item) a.1) (λ a. value_same a.1.item a.1.span.start (argument_place declared a.0.item)) xs)

  directives_same : (at : DirectiveLocation) (ds : Option (List (Placed (Directive S)))) → SaysSame (directives_parts schema at ds)
  directives_same at ds = same_each (directive_parts schema at) (λ d. same_with _ _ refl (given_same _ _ _)) (unwrap_or ds [])

  -- the type is that of its name
  abbrev IsOwn : MetaType S C → Type 0
  IsOwn parent = known schema (own_name parent) ≡ Some parent

  own_of : (name : Bytes) (m : MetaType S C) → known schema name ≡ Some m → IsOwn m
  own_of name m e =
      let there = found_is_in own_name schema.types name m e in
      subst (λ n. known schema n ≡ Some m) (sym ((bytes_eq-Decides (own_name m) name).0 there.0)) e

  own_of_some : (name : Option Bytes) (m : MetaType S C) → option_and_then (known schema) name ≡ Some m → IsOwn m
  own_of_some None m e = absurd (cc)
  own_of_some (Some name) m e = own_of name m e

  own_referred : (t : Option TypeOf) (m : MetaType S C) → referred schema t ≡ Some m → IsOwn m
  own_referred None m e = absurd (cc)
  own_referred (Some t) m e = own_of t.name m e

  own_root : (o : OperationType) (m : MetaType S C) → root_of schema o ≡ Some m → IsOwn m
  own_root operation.Query m e = own_of schema.roots.query m e
  own_root operation.Mutation m e = own_of_some schema.roots.mutation m e
  own_root operation.Subscription m e = own_of_some schema.roots.subscription m e

  apart_same : (parent : MetaType S C) → IsOwn parent → (name : Bytes) → are_apart schema (own_name parent) name ≡ is_apart schema parent name
  apart_same parent own name = ap (passes (λ m. is_apart schema m name)) own

  spread_same : (s : SpreadPart S C) → IsOwn s.parent → impossible_by_names schema subject (ASpread s) ≡ possible_fragment_spreads_faults subject (ASpread s)
  spread_same s own = λ i. error_if (passes (λ name. apart_same s.parent own name.item i) (option_map (λ f. f.item.type_condition) (fragment_named subject.document s.name.item))) (s.place ∷ [])

  inline_same : (x : InlinePart S C) → IsOwn x.parent → impossible_by_names schema subject (AnInline x) ≡ possible_fragment_spreads_faults subject (AnInline x)
  inline_same x own = λ i. error_if (passes (λ name. apart_same x.parent own name.item i) x.condition) (x.place ∷ [])

  abbrev SelectionSame : Selection S → Type 0
  SelectionSame x = (parent : MetaType S C) → IsOwn parent → SaysSame (selection_parts schema x parent)

  known_set : (xs : List (Selection S)) → All SelectionSame xs → (parent : MetaType S C) → IsOwn parent → SaysSame (set_parts schema (Some parent) xs)
  known_set xs h parent own =
      same_as _ _ (sym (flat_map-map (λ s. s parent) (selection_parts schema) xs)) (same_all (λ x. selection_parts schema x parent) xs (λ k d l. h k d l parent own))

  any_set : (xs : List (Selection S)) → All SelectionSame xs → (m : Option (MetaType S C)) → ((t : MetaType S C) → m ≡ Some t → IsOwn t) → SaysSame (set_parts schema m xs)
  any_set xs h None own = same_none
  any_set xs h (Some t) own = known_set xs h t (own t refl)

  nothing_under : (m : Option (MetaType S C)) → SaysSame (parts_under schema m [])
  nothing_under None = same_none
  nothing_under (Some t) = same_none

  -- what is within a field
  set_same : (set : Option (List (Selection S))) → IfSome set (All SelectionSame) → (t : Option TypeOf) → SaysSame (parts_under schema (referred schema t) (unwrap_or (option_map (map (selection_parts schema)) set) []))
  set_same None h t = nothing_under (referred schema t)
  set_same (Some xs) h t = any_set xs h (referred schema t) (own_referred t)

  field_same : (f : Field S) → IfSome f.selection_set (All SelectionSame) → (place : SourcePosition) (parent : MetaType S C) →
      SaysSame (field_layer schema (layer_of_field f (option_map (map (selection_parts schema)) f.selection_set)) place parent)
  field_same f h place parent =
      let declared = field_in parent f.name.item in
      same_with _ _ refl
      (same_append _ _ (same_append _ _ (given_same place (field_arguments declared) (arguments_in f.arguments)) (directives_same location.Field f.directives)) (set_same f.selection_set h (field_type declared)))

  condition_same : (condition : Option (Placed Bytes)) → SaysSame (map Condition (option_to_list condition))
  condition_same None = same_none
  condition_same (Some name) = same_with _ _ refl same_none

  inline_at : (i : InlineFragment S) (condition : Option (Placed Bytes)) → All SelectionSame i.selection_set → (place : SourcePosition) (parent : MetaType S C) → IsOwn parent →
      SaysSame (inline_layer schema (layer_of_inline (record i { type_condition = condition }) (map (selection_parts schema) i.selection_set)) place parent)
  inline_at i None h place parent own =
      same_with _ _ (inline_same (record { condition = None; place = place; parent = parent }) own) (same_append _ _ (same_append _ _ (condition_same None) (directives_same location.InlineFragment i.directives)) (known_set i.selection_set h parent own))
  inline_at i (Some name) h place parent own =
      same_with _ _ (inline_same (record { condition = Some name; place = place; parent = parent }) own) (same_append _ _ (same_append _ _ (condition_same (Some name)) (directives_same location.InlineFragment i.directives)) (any_set i.selection_set h (known schema name.item) (own_of name.item)))

  selection_same : (x : Selection S) → SelectionSame x
  selection_same = selection_ind SelectionSame
      (λ x h parent own. same_as _ _ (sym (parts_field schema x parent)) (field_same x.item h x.span.start parent))
      (λ x parent own. same_as _ _ (sym (parts_spread schema x parent)) (same_with _ _ (spread_same (record { name = x.item.name; place = x.span.start; parent = parent }) own) (directives_same location.FragmentSpread x.item.directives)))
      (λ x h parent own. same_as _ _ (sym (parts_inline schema x parent)) (inline_at x.item x.item.type_condition h x.span.start parent own))

  selections_same : (xs : List (Selection S)) → All SelectionSame xs
  selections_same xs = λ k d l. selection_same (get_or xs k d)

  default_same : (here : Option InputPlace) (default : Option (Placed (InputValue S))) → SaysSame (flat_map (placed_parts schema here) (option_to_list default))
  default_same here default = same_each (placed_parts schema here) (λ v. value_same v.item v.span.start here) (option_to_list default)

  variable_same : (v : Variable S) → SaysSame (variable_parts schema v)
  variable_same v = same_with _ _ refl (same_append _ _ (default_same (Some (bare_place v.1.var_type.item)) v.1.default_value) (directives_same location.VariableDefinition v.1.directives))

  operation_same : (o : Operation S) → SaysSame (operation_parts schema o)
  operation_same o =
      same_append _ _ (same_append _ _ (same_each (variable_parts schema) variable_same (variables_in o.variable_definitions)) (directives_same (location_of o.operation_type) o.directives))
      (any_set o.selection_set (selections_same o.selection_set) (root_of schema o.operation_type) (own_root o.operation_type))

  fragment_same : (f : Fragment S) → SaysSame (fragment_parts schema f)
  fragment_same f =
      same_with _ _ refl (same_append _ _ (directives_same location.FragmentDefinition f.directives)
      (any_set f.selection_set (selections_same f.selection_set) (known schema f.type_condition.item) (own_of f.type_condition.item)))

  definition_same : (d : Definition S) → SaysSame (definition_parts schema d)
  definition_same (definition.Operation o) = operation_same o.item
  definition_same (definition.Fragment f) = fragment_same f.item

  pub document_same : (document : List (Definition S)) → SaysSame (occurrences schema document)
  unfolding occurrences
  document_same document = same_each (definition_parts schema) definition_same document
