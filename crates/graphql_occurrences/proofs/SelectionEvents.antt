-- The events of a selection, form by form.
use Rattle.std.proofs.Common.{◌≡◌, List, Option, Some, None, [], map, refl, sym, ap, ◌∙◌, ◌++◌}
use Rattle.std.specs.Option.{option_map}
use Rattle.std.proofs.lemmas.List.Folds.{flat_map-map}
use Rattle.graphql_text.specs.declared.position.Span.{Span}
use Rattle.graphql_values.specs.InputValues.{Placed}
use Rattle.graphql_schema.specs.declared.directive_location.DirectiveLocation.TheVariants as location
use Rattle.graphql_schema.specs.declared.meta.MetaType.{MetaType}
use Rattle.graphql_tree.specs.declared.selection.Field.{Field}
use Rattle.graphql_tree.specs.declared.selection.FragmentSpread.{FragmentSpread}
use Rattle.graphql_tree.specs.declared.selection.InlineFragment.{InlineFragment}
use Rattle.graphql_tree.specs.declared.selection.Selection.{Selection}
use Rattle.graphql_tree.specs.declared.selection.Selection.TheVariants as selection
use Rattle.graphql_tree.proofs.SelectionEquations.{field_layer as layer_of_field, fold_field, fold_spread, fold_inline, fold_in_field, fold_in_inline}
use Rattle.graphql_occurrences.specs.DeclaredLookups.{Declarations}
use Rattle.graphql_occurrences.specs.Nodes.{Around, Inner, AtSelectionSet, AtField, AtInlineFragment, OfField}
use Rattle.graphql_occurrences.specs.Nodes.{field_head, inline_head}
use Rattle.graphql_occurrences.specs.Lookups.{field_arguments, field_of}
use Rattle.graphql_occurrences.specs.Events.{through_each, set_within, set_events, set_around, selection_layer, field_layer, inline_layer, selection_events, field_events, inline_events, spread_events, if_known, through, field_around, condition_around, arguments_events, directives_events}
use Rattle.std.specs.Prelude.{unwrap_or}
use Rattle.graphql_tree.specs.Documents.{arguments_in}

module _ {S C : Type 0} (schema : Declarations S C) where
  set_is : (xs : List (Selection S)) (around : Around S C) → set_within schema (through_each (λ s. s) (map (selection_events schema) xs)) around ≡ set_events schema xs around
  set_is xs around =
      ap (λ es. if_known (set_around schema around).parent (through (Inner AtSelectionSet) es (set_around schema around))) (flat_map-map (λ s. s (set_around schema around)) (selection_events schema) xs)

  field_at : (f : Field S) (set : Option (List (Selection S))) (span : Span) (outer : Around S C) →
      field_layer schema (layer_of_field (record f { selection_set = set }) (option_map (map (selection_events schema)) set)) span outer
      ≡ field_events schema (record { item = record f { selection_set = set }; span = span }) outer
  field_at f None span outer = refl
  field_at f (Some xs) span outer =
      let inside = field_around outer f.name.item in
      let before = arguments_events schema (OfField f.name.item) (field_arguments (field_of outer.parent f.name.item)) (arguments_in f.arguments) inside in
      let between = directives_events schema location.Field (unwrap_or f.directives []) inside in
      ap (λ es. through (Inner (AtField (field_of outer.parent f.name.item) (record { item = field_head (record f { selection_set = Some xs }); span = span }))) (before ++ (between ++ es)) inside) (set_is xs inside)

  pub selection_field : (x : Placed (Field S)) (around : Around S C) → selection_events schema (selection.Field x) around ≡ field_events schema x around
  unfolding selection_events
  selection_field x around =
      (λ i. fold_field (selection_layer schema) (field_layer schema) (inline_layer schema) x i around)
      ∙ (λ i. fold_in_field (selection_layer schema) (field_layer schema) (inline_layer schema) x.item i x.span around)
      ∙ field_at x.item x.item.selection_set x.span around

  pub selection_spread : (x : Placed (FragmentSpread S)) (around : Around S C) → selection_events schema (selection.FragmentSpread x) around ≡ spread_events schema x around
  unfolding selection_events
  selection_spread x around = λ i. fold_spread (selection_layer schema) (field_layer schema) (inline_layer schema) x i around

  pub selection_inline : (x : Placed (InlineFragment S)) (around : Around S C) → selection_events schema (selection.InlineFragment x) around ≡ inline_events schema x around
  unfolding selection_events
  selection_inline x around =
      (λ i. fold_inline (selection_layer schema) (field_layer schema) (inline_layer schema) x i around)
      ∙ (λ i. fold_in_inline (selection_layer schema) (field_layer schema) (inline_layer schema) x.item i x.span around)
      ∙ (let inside = condition_around around x.item.type_condition in
      let before = directives_events schema location.InlineFragment (unwrap_or x.item.directives []) inside in
      ap (λ es. through (Inner (AtInlineFragment (record { item = inline_head x.item; span = x.span }))) (before ++ es) inside) (set_is x.item.selection_set inside))

  -- nothing is within a set whose type is unknown
  pub set_unknown : (xs : List (Selection S)) (around inside : Around S C) → inside ≡ set_around schema around → inside.parent ≡ None → set_events schema xs around ≡ []
  set_unknown xs around inside same none =
      ap (λ t. if_known t.parent (through (Inner AtSelectionSet) (through_each (selection_events schema) xs t) t)) (sym same)
      ∙ ap (λ p. if_known p (through (Inner AtSelectionSet) (through_each (selection_events schema) xs inside) inside)) none

  pub set_known : (xs : List (Selection S)) (around inside : Around S C) (m : MetaType S C) → inside ≡ set_around schema around → inside.parent ≡ Some m → set_events schema xs around ≡ through (Inner AtSelectionSet) (through_each (selection_events schema) xs inside) inside
  set_known xs around inside m same some =
      ap (λ t. if_known t.parent (through (Inner AtSelectionSet) (through_each (selection_events schema) xs t) t)) (sym same)
      ∙ ap (λ p. if_known p (through (Inner AtSelectionSet) (through_each (selection_events schema) xs inside) inside)) some
