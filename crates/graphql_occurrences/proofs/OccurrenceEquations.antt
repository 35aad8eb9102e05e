-- The occurrences of each form of a value, and of a selection.
use Rattle.std.proofs.Common.{◌≡◌, ap, ◌∙◌}
use Rattle.std.specs.Prelude.{List, [], ◌∷◌, map, Option}
use Rattle.std.specs.List.{flat_map}
use Rattle.std.specs.Option.{option_map}
use Rattle.std.proofs.lemmas.List.Folds.{flat_map-map}
use Rattle.std.proofs.lemmas.Simd.{map-map}
use Rattle.graphql_text.specs.declared.text.Text.{Text}
use Rattle.graphql_schema.specs.declared.meta.MetaType.{MetaType}
use Rattle.graphql_occurrences.specs.DeclaredLookups.{Declarations}
use Rattle.graphql_text.specs.declared.position.SourcePosition.{SourcePosition}
use Rattle.graphql_tree.specs.declared.selection.Field.{Field}
use Rattle.graphql_tree.specs.declared.selection.FragmentSpread.{FragmentSpread}
use Rattle.graphql_tree.specs.declared.selection.InlineFragment.{InlineFragment}
use Rattle.graphql_tree.specs.declared.selection.Selection.TheVariants as selection
use Rattle.graphql_tree.proofs.SelectionEquations.{fold_field, fold_spread, fold_inline, fold_in_field, fold_in_inline, field_layer as layer_of_field, inline_layer as layer_of_inline}
use Rattle.graphql_values.specs.declared.input_value.InputValue.{InputValue}
use Rattle.graphql_values.specs.declared.input_value.InputValue.TheVariants as value
use Rattle.graphql_values.specs.InputValues.{Placed, Pair}
use Rattle.graphql_values.proofs.InputValueEquations.{on_item, on_value, fold_null, fold_scalar, fold_enum, fold_variable, fold_list, fold_object}
use Rattle.graphql_occurrences.specs.Lookups.{field_place, item_place}
use Rattle.graphql_occurrences.specs.Occurrences.{value_parts, value_layer, selection_parts, selection_layer, field_layer, inline_layer, spread_parts}
use Rattle.graphql_occurrences.specs.Parts.{Part, InputPlace, VariableUsed, ObjectOf}

module _ {S C : Type 0} (schema : Declarations S C) where
  -- 2.9 Input Values
  pub parts_null : (start : SourcePosition) (here : Option InputPlace) → value_parts schema value.Null start here ≡ []
  unfolding value_parts
  parts_null start here = λ i. fold_null (value_layer schema) i start here

  pub parts_scalar : (s : S) (start : SourcePosition) (here : Option InputPlace) → value_parts schema (value.Scalar s) start here ≡ []
  unfolding value_parts
  parts_scalar s start here = λ i. fold_scalar (value_layer schema) s i start here

  pub parts_enum : (n : Text) (start : SourcePosition) (here : Option InputPlace) → value_parts schema (value.Enum n) start here ≡ []
  unfolding value_parts
  parts_enum n start here = λ i. fold_enum (value_layer schema) n i start here

  pub parts_variable : (n : Text) (start : SourcePosition) (here : Option InputPlace) → value_parts schema (value.Variable n) start here ≡ VariableUsed (record { name = n; place = start; at = here }) ∷ []
  unfolding value_parts
  parts_variable n start here = λ i. fold_variable (value_layer schema) n i start here

  pub parts_list : (xs : List (Placed (InputValue S))) (start : SourcePosition) (here : Option InputPlace) →
      value_parts schema (value.List xs) start here ≡ flat_map (λ x. value_parts schema x.item x.span.start (item_place here)) xs
  unfolding value_parts
  parts_list xs start here =
      (λ i. fold_list (value_layer schema) xs i start here)
      ∙ flat_map-map (λ x. x.item x.span.start (item_place here)) (on_item (value_parts schema)) xs

  pub parts_object : (ps : List (Pair (InputValue S))) (start : SourcePosition) (here : Option InputPlace) →
      value_parts schema (value.Object ps) start here ≡ ObjectOf (map (λ p. p.0) ps) ∷ flat_map (λ p. value_parts schema p.1.item p.1.span.start (field_place schema here p.0.item)) ps
  unfolding value_parts
  parts_object ps start here =
      (λ i. fold_object (value_layer schema) ps i start here)
      ∙ (λ i. ObjectOf (map-map (λ p. p.0) (on_value (value_parts schema)) ps i)
      ∷ flat_map-map (λ p. p.1.item p.1.span.start (field_place schema here p.0.item)) (on_value (value_parts schema)) ps i)

  -- 2.4 Selection Sets
  abbrev pub field_parts : Placed (Field S) → MetaType S C → List (Part S C)
  field_parts x = field_layer schema (layer_of_field x.item (option_map (map (selection_parts schema)) x.item.selection_set)) x.span.start

  abbrev pub inline_parts : Placed (InlineFragment S) → MetaType S C → List (Part S C)
  inline_parts x = inline_layer schema (layer_of_inline x.item (map (selection_parts schema) x.item.selection_set)) x.span.start

  pub parts_field : (x : Placed (Field S)) (parent : MetaType S C) → selection_parts schema (selection.Field x) parent ≡ field_parts x parent
  unfolding selection_parts
  parts_field x parent =
      ap (λ f. f parent) (fold_field (selection_layer schema) (field_layer schema) (inline_layer schema) x)
      ∙ ap (λ f. f x.span.start parent) (fold_in_field (selection_layer schema) (field_layer schema) (inline_layer schema) x.item)

  pub parts_spread : (x : Placed (FragmentSpread S)) (parent : MetaType S C) → selection_parts schema (selection.FragmentSpread x) parent ≡ spread_parts schema x parent
  unfolding selection_parts
  parts_spread x parent = ap (λ f. f parent) (fold_spread (selection_layer schema) (field_layer schema) (inline_layer schema) x)

  pub parts_inline : (x : Placed (InlineFragment S)) (parent : MetaType S C) → selection_parts schema (selection.InlineFragment x) parent ≡ inline_parts x parent
  unfolding selection_parts
  parts_inline x parent =
      ap (λ f. f parent) (fold_inline (selection_layer schema) (field_layer schema) (inline_layer schema) x)
      ∙ ap (λ f. f x.span.start parent) (fold_in_inline (selection_layer schema) (field_layer schema) (inline_layer schema) x.item)
