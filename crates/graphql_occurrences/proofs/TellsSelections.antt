-- What the events of selections tell of their parts.
use Rattle.std.proofs.Common.{◌≡◌, List, [], Option, Some, None, map, get_or, refl, sym, ap}
use Rattle.std.specs.Prelude.{IfSome}
use Rattle.std.specs.Option.{option_map}
use Rattle.std.specs.List.{All}
use Rattle.std.proofs.lemmas.List.Folds.{flat_map-map}
use Rattle.graphql_text.specs.declared.position.Span.{Span}
use Rattle.graphql_names.specs.Names.{Bytes}
use Rattle.graphql_values.specs.InputValues.{Placed}
use Rattle.graphql_schema.specs.declared.directive_location.DirectiveLocation.TheVariants as location
use Rattle.graphql_schema.specs.declared.meta.MetaType.{MetaType}
use Rattle.graphql_schema.specs.Types.{TypeOf, reference_to}
use Rattle.graphql_occurrences.specs.DeclaredLookups.{Declarations}
use Rattle.graphql_tree.specs.declared.selection.Field.{Field}
use Rattle.graphql_tree.specs.declared.selection.InlineFragment.{InlineFragment}
use Rattle.graphql_tree.specs.declared.selection.Selection.{Selection}
use Rattle.graphql_tree.proofs.SelectionEquations.{field_layer as layer_of_field, inline_layer as layer_of_inline}
use Rattle.graphql_tree.proofs.SelectionInduction.{selection_ind}
use Rattle.graphql_occurrences.specs.Lookups.{field_arguments, field_in, field_type, referred}
use Rattle.graphql_tree.specs.Documents.{arguments_in}
use Rattle.graphql_occurrences.specs.Parts.{InputPlace}
use Rattle.graphql_occurrences.specs.Occurrences.{selection_parts, field_layer, inline_layer, parts_under, set_parts}
use Rattle.graphql_occurrences.specs.Nodes.{OfField, Around, AtSelectionSet, AtField, AtFragmentSpread, AtInlineFragment, placed_as, field_head, inline_head, spread_head}
use Rattle.graphql_occurrences.specs.Events as walk
use Rattle.graphql_occurrences.specs.Events.{events, seen_event, through, through_each, asked, top}
use Rattle.graphql_occurrences.proofs.OccurrenceEquations.{parts_field, parts_spread, parts_inline}
use Rattle.graphql_occurrences.proofs.SelectionEvents.{selection_field, selection_spread, selection_inline, set_unknown, set_known}
use Rattle.graphql_occurrences.proofs.Tells.{Tells, tells_nil, tells_append, tells_as, tells_three, tells_it, tells_all}
use Rattle.graphql_occurrences.proofs.TellsValues.{arguments_tell, directives_tell}

module _ {S C : Type 0} (schema : Declarations S C) where
  -- the types around a selection whose parent is known
  abbrev at : Option TypeOf → MetaType S C → Option InputPlace → Around S C
  at current parent input = record { current = current; parent = Some parent; input = input }

  abbrev SelectionTells : Selection S → Type 0
  SelectionTells x = (current : Option TypeOf) (parent : MetaType S C) (input : Option InputPlace) → referred schema current ≡ Some parent →
      Tells (walk.selection_events schema x (at current parent input)) (selection_parts schema x parent)

  set_at : (xs : List (Selection S)) → All SelectionTells xs → (around : Around S C) (m : Option (MetaType S C)) → referred schema around.current ≡ m → Tells (walk.set_events schema xs around) (set_parts schema m xs)
  set_at xs h around None e = tells_as _ _ _ _ (sym (set_unknown schema xs around (walk.set_around schema around) refl e)) refl tells_nil
  set_at xs h around (Some m) e =
      let inside = at around.current m None in
      let same : inside ≡ walk.set_around schema around = ap (λ p. record { current = around.current; parent = p; input = None }) (sym e) in
      tells_as _ _ _ _ (sym (set_known schema xs around inside m same refl)) (sym (flat_map-map (λ s. s m) (selection_parts schema) xs))
      (tells_it AtSelectionSet (through_each (walk.selection_events schema) xs inside) inside _
      (tells_all (λ x. walk.selection_events schema x inside) (λ x. selection_parts schema x m) xs (λ k d l. h k d l around.current m None e)))

  set_tells : (xs : List (Selection S)) → All SelectionTells xs → (around : Around S C) → Tells (walk.set_events schema xs around) (set_parts schema (referred schema around.current) xs)
  set_tells xs h around = set_at xs h around (referred schema around.current) refl

  nothing_tells : (m : Option (MetaType S C)) → Tells [] (parts_under schema m [])
  nothing_tells None = tells_nil
  nothing_tells (Some m) = tells_nil

  field_at : (f : Field S) (set : Option (List (Selection S))) → IfSome set (All SelectionTells) → (span : Span) (current : Option TypeOf) (m : MetaType S C) (input : Option InputPlace) →
      Tells (walk.field_events schema (record { item = record f { selection_set = set }; span = span }) (at current m input))
      (field_layer schema (layer_of_field (record f { selection_set = set }) (option_map (map (selection_parts schema)) set)) span.start m)
  field_at f None h span current m input =
      let known = field_in m f.name.item in
      let inside = at (field_type known) m None in
      let arguments = arguments_tell schema (OfField f.name.item) (field_arguments known) inside (arguments_in f.arguments) in
      let directives = directives_tell schema location.Field inside f.directives in
      tells_it (AtField known (record { item = field_head (record f { selection_set = None }); span = span })) _ inside _
      (tells_three _ _ _ _ _ _ arguments directives (nothing_tells (referred schema (field_type known))))
  field_at f (Some xs) h span current m input =
      let known = field_in m f.name.item in
      let inside = at (field_type known) m None in
      let arguments = arguments_tell schema (OfField f.name.item) (field_arguments known) inside (arguments_in f.arguments) in
      let directives = directives_tell schema location.Field inside f.directives in
      tells_it (AtField known (record { item = field_head (record f { selection_set = Some xs }); span = span })) _ inside _
      (tells_three _ _ _ _ _ _ arguments directives (set_tells xs h inside))

  inline_at : (i : InlineFragment S) (condition : Option (Placed Bytes)) → All SelectionTells i.selection_set → (span : Span) (current : Option TypeOf) (m : MetaType S C) (input : Option InputPlace) → referred schema current ≡ Some m →
      Tells (walk.inline_events schema (record { item = record i { type_condition = condition }; span = span }) (at current m input))
      (inline_layer schema (layer_of_inline (record i { type_condition = condition }) (map (selection_parts schema) i.selection_set)) span.start m)
  inline_at i None h span current m input e =
      let inside = at current m input in
      tells_it (AtInlineFragment (record { item = inline_head (record i { type_condition = None }); span = span })) _ inside _
      (tells_append _ _ _ _ (directives_tell schema location.InlineFragment inside i.directives) (set_at i.selection_set h inside (Some m) e))
  inline_at i (Some name) h span current m input e =
      let inside = at (Some (reference_to name.item)) m None in
      tells_it (AtInlineFragment (record { item = inline_head (record i { type_condition = Some name }); span = span })) _ inside _
      (tells_append _ _ _ _ (directives_tell schema location.InlineFragment inside i.directives) (set_tells i.selection_set h inside))

  pub selection_tells : (x : Selection S) → SelectionTells x
  selection_tells = selection_ind SelectionTells
      (λ x h current m input e. tells_as _ _ _ _ (sym (selection_field schema x (at current m input))) (sym (parts_field schema x m)) (field_at x.item x.item.selection_set h x.span current m input))
      (λ x current m input e. tells_as _ _ _ _ (sym (selection_spread schema x (at current m input))) (sym (parts_spread schema x m))
      (tells_it (AtFragmentSpread (placed_as x (spread_head x.item))) _ (at current m input) _ (directives_tell schema location.FragmentSpread (at current m input) x.item.directives)))
      (λ x h current m input e. tells_as _ _ _ _ (sym (selection_inline schema x (at current m input))) (sym (parts_inline schema x m)) (inline_at x.item x.item.type_condition h x.span current m input e))

  pub any_set : (xs : List (Selection S)) (around : Around S C) → Tells (walk.set_events schema xs around) (set_parts schema (referred schema around.current) xs)
  any_set xs around = set_tells xs (λ k d l. selection_tells (get_or xs k d)) around
