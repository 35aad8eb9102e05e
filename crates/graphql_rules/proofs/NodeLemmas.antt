-- The literals that the nodes of a document tell.
use Rattle.std.proofs.Common.{◌≡◌, List, [], ◌++◌, map, Option, Some, None, Bor, true, refl, ap, append-nil}
use Rattle.std.specs.List.{flat_map}
use Rattle.std.specs.Option.{is_some, option_copied, option_map, option_to_list}
use Rattle.std.proofs.lemmas.Bool.{false≢true}
use Rattle.graphql_schema.specs.declared.directive.DirectiveType.{DirectiveType}
use Rattle.graphql_schema.specs.declared.directive_location.DirectiveLocation.{DirectiveLocation}
use Rattle.graphql_schema.specs.declared.meta.MetaType.{MetaType}
use Rattle.graphql_schema.specs.declared.meta.field.Field as declared
use Rattle.graphql_names.specs.Names.{Bytes}
use Rattle.graphql_tree.specs.Documents.{arguments_in}
use Rattle.graphql_occurrences.specs.Lent.{field_of_known, node_of}
use Rattle.graphql_occurrences.specs.Lookups.{field_arguments}
use Rattle.graphql_occurrences.specs.Nodes.{Around, Enter, placed_as, field_head, inline_head, spread_head, value_head}
use Rattle.graphql_occurrences.specs.Parts.{InputPlace, Part, Use, Condition, VariableUsed, ObjectOf}
use Rattle.graphql_occurrences.specs.PartsOf.{parts_of_event, parts_of_field, parts_of_inline, parts_of_spread, parts_of_value, under_known}
use Rattle.graphql_occurrences.specs.declared.fields.KnownField.{KnownField}
use Rattle.graphql_occurrences.specs.declared.event.Node.{Node}
use Rattle.graphql_occurrences.specs.declared.event.Node.TheVariants as node
use Rattle.graphql_schema.specs.Declarations.{Declarations}
use Rattle.graphql_text.specs.declared.position.SourcePosition.{SourcePosition}
use Rattle.graphql_tree.specs.Variables.{Variable}
use Rattle.graphql_tree.specs.declared.directive.Directive.{Directive}
use Rattle.graphql_tree.specs.declared.selection.Field.{Field}
use Rattle.graphql_tree.specs.declared.selection.FragmentSpread.{FragmentSpread}
use Rattle.graphql_tree.specs.declared.selection.InlineFragment.{InlineFragment}
use Rattle.graphql_values.specs.InputValues.{Placed}
use Rattle.graphql_values.specs.declared.input_value.InputValue.{out-InputValue}
use Rattle.graphql_values.specs.declared.input_value.InputValue.TheOpen.{InputValue-F}
use Rattle.graphql_rules.specs.ArgumentsOfCorrectType.{literals_among, literals_at}
use Rattle.graphql_rules.specs.DefaultValuesOfCorrectType.{defaults_at}
use Rattle.graphql_rules.specs.Literals.{Asked}

-- what is said of variables, of objects and of conditions is nothing
module _ {S C X : Type 0} (said : Part S C → List X) (of_use : (u : Use) → said (VariableUsed u) ≡ []) (of_object : (names : List (Placed Bytes)) → said (ObjectOf names) ≡ []) (of_condition : (name : Placed Bytes) → said (Condition name) ≡ []) where
  none_in_value : {A : Type 0} (m : InputValue-F S A) (start : SourcePosition) (here : Option InputPlace) → flat_map said (parts_of_value m start here) ≡ []
  none_in_value InputValue-F.Null start here = refl
  none_in_value (InputValue-F.Scalar s) start here = refl
  none_in_value (InputValue-F.Enum n) start here = refl
  none_in_value (InputValue-F.Variable n) start here = ap (λ told. told ++ []) (of_use (record { name = n; place = start; at = here }))
  none_in_value (InputValue-F.List xs) start here = refl
  none_in_value (InputValue-F.Object ps) start here = ap (λ told. told ++ []) (of_object (map (λ p. p.0) ps))

  none_in_condition : (condition : Option (Placed Bytes)) → flat_map said (map Condition (option_to_list condition)) ≡ []
  none_in_condition None = refl
  none_in_condition (Some name) = ap (λ told. told ++ []) (of_condition name)

module _ {S C : Type 0} where
  literals_in_inline : (i : Placed (InlineFragment S)) (parent : Option (MetaType S C)) → flat_map literals_at (under_known parent (parts_of_inline i)) ≡ []
  literals_in_inline i None = refl
  literals_in_inline i (Some m) = none_in_condition literals_at (λ u. refl) (λ names. refl) (λ name. refl) i.item.type_condition

  literals_in_spread : (s : Placed (FragmentSpread S)) (parent : Option (MetaType S C)) → flat_map literals_at (under_known parent (parts_of_spread s)) ≡ []
  literals_in_spread s None = refl
  literals_in_spread s (Some m) = refl

  -- no node but a field and a directive tells a literal of an argument
  pub no_literals : (around : Around S C) (n : Node S) → ((known : Option (KnownField S)) (f : Bor (Placed (Field S))) → n ≡ node.Field known f → ⊥)
      → ((place : DirectiveLocation) (known : Option (Bor (DirectiveType S))) (d : Bor (Placed (Directive S))) → n ≡ node.Directive place known d → ⊥) → flat_map literals_at (parts_of_event around (Enter (node_of n))) ≡ []
  no_literals around (node.Document d) no_field no_directive = refl
  no_literals around (node.Operation o) no_field no_directive = refl
  no_literals around (node.Fragment f) no_field no_directive = refl
  no_literals around (node.VariableDefinition v) no_field no_directive = refl
  no_literals around (node.Directive place known d) no_field no_directive = absurd (no_directive place known d refl)
  no_literals around (node.Argument owner declared a) no_field no_directive = refl
  no_literals around (node.SelectionSet s) no_field no_directive = refl
  no_literals around (node.Field known f) no_field no_directive = absurd (no_field known f refl)
  no_literals around (node.FragmentSpread s) no_field no_directive = literals_in_spread (placed_as s.now (spread_head s.now.item)) around.parent
  no_literals around (node.InlineFragment i) no_field no_directive = literals_in_inline (placed_as i.now (inline_head i.now.item)) around.parent
  no_literals around (node.Value v) no_field no_directive = none_in_value literals_at (λ u. refl) (λ names. refl) (λ name. refl) (out-InputValue S (value_head v.now.item)) v.now.span.start around.input
  no_literals around (node.ObjectField p) no_field no_directive = refl

  -- a field of a known type tells of what it is given
  pub literals_of_field : (parent : Option (Bor (MetaType S C))) (known : Option (declared.Field S)) (f : Placed (Field S)) → is_some parent ≡ true
      → flat_map literals_at (under_known (option_copied parent) (parts_of_field known f)) ≡ literals_among (field_arguments known) (arguments_in f.item.arguments)
  literals_of_field None known f there = absurd (false≢true there)
  literals_of_field (Some m) known f there = append-nil (literals_among (field_arguments known) (arguments_in f.item.arguments))

module _ {S C : Type 0} (schema : Declarations S C) where
  abbrev defaults : Part S C → List (Asked S)
  defaults = defaults_at schema

  defaults_in_inline : (i : Placed (InlineFragment S)) (parent : Option (MetaType S C)) → flat_map defaults (under_known parent (parts_of_inline i)) ≡ []
  defaults_in_inline i None = refl
  defaults_in_inline i (Some m) = none_in_condition defaults (λ u. refl) (λ names. refl) (λ name. refl) i.item.type_condition

  defaults_in_spread : (s : Placed (FragmentSpread S)) (parent : Option (MetaType S C)) → flat_map defaults (under_known parent (parts_of_spread s)) ≡ []
  defaults_in_spread s None = refl
  defaults_in_spread s (Some m) = refl

  defaults_in_field : (known : Option (declared.Field S)) (f : Placed (Field S)) (parent : Option (MetaType S C)) → flat_map defaults (under_known parent (parts_of_field known f)) ≡ []
  defaults_in_field known f None = refl
  defaults_in_field known f (Some m) = refl

  -- no node but the definition of a variable tells a default
  pub no_defaults : (around : Around S C) (n : Node S) → ((v : Bor (Variable S)) → n ≡ node.VariableDefinition v → ⊥) → flat_map defaults (parts_of_event around (Enter (node_of n))) ≡ []
  no_defaults around (node.Document d) no_variable = refl
  no_defaults around (node.Operation o) no_variable = refl
  no_defaults around (node.Fragment f) no_variable = refl
  no_defaults around (node.VariableDefinition v) no_variable = absurd (no_variable v refl)
  no_defaults around (node.Directive place known d) no_variable = refl
  no_defaults around (node.Argument owner declared a) no_variable = refl
  no_defaults around (node.SelectionSet s) no_variable = refl
  no_defaults around (node.Field known f) no_variable = defaults_in_field (option_map field_of_known known) (placed_as f.now (field_head f.now.item)) around.parent
  no_defaults around (node.FragmentSpread s) no_variable = defaults_in_spread (placed_as s.now (spread_head s.now.item)) around.parent
  no_defaults around (node.InlineFragment i) no_variable = defaults_in_inline (placed_as i.now (inline_head i.now.item)) around.parent
  no_defaults around (node.Value v) no_variable = none_in_value defaults (λ u. refl) (λ names. refl) (λ name. refl) (out-InputValue S (value_head v.now.item)) v.now.span.start around.input
  no_defaults around (node.ObjectField p) no_variable = refl
