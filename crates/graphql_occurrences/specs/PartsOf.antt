-- The parts of which the rules speak, that an event tells.
use Rattle.std.specs.Prelude.{List, [], ◌∷◌, map, Option, Some, None}
use Rattle.std.specs.Option.{option_to_list, is_some}
use Rattle.graphql_text.specs.declared.position.SourcePosition.{SourcePosition}
use Rattle.graphql_values.specs.InputValues.{Placed}
use Rattle.graphql_values.specs.declared.input_value.InputValue.{out-InputValue}
use Rattle.graphql_values.specs.declared.input_value.InputValue.TheOpen.{InputValue-F}
use Rattle.graphql_schema.specs.declared.meta.MetaType.{MetaType}
use Rattle.graphql_schema.specs.declared.meta.field.Field as declared
use Rattle.graphql_tree.specs.declared.selection.Field.{Field}
use Rattle.graphql_tree.specs.declared.selection.FragmentSpread.{FragmentSpread}
use Rattle.graphql_tree.specs.declared.selection.InlineFragment.{InlineFragment}
use Rattle.graphql_occurrences.specs.Lookups.{directive_arguments, field_arguments}
use Rattle.graphql_tree.specs.Documents.{arguments_in}
use Rattle.graphql_occurrences.specs.Nodes.{Head, AtVariableDefinition, AtDirective, AtField}
use Rattle.graphql_occurrences.specs.Nodes.{AtFragmentSpread, AtInlineFragment, AtValue, Event}
use Rattle.graphql_occurrences.specs.Nodes.{Enter, Inner, AtFragment, Around, Seen}
use Rattle.graphql_occurrences.specs.Occurrences.{variable_part}
use Rattle.graphql_occurrences.specs.Parts.{InputPlace, Part, VariableDefined, Condition, AField}
use Rattle.graphql_occurrences.specs.Parts.{ASpread, AnInline, ADirective, Given, ObjectOf}
use Rattle.graphql_occurrences.specs.Parts.{VariableUsed}

module _ {S C : Type 0} where
  -- a field, and what it is given
  abbrev pub parts_of_field : Option (declared.Field S) → Placed (Field S) → MetaType S C
      → List (Part S C)
  parts_of_field known f parent =
      AField (record {
        name = f.item.name.item;
        place = f.span.start;
        parent = parent;
        declared = known;
        has_set = is_some f.item.selection_set;
      })
      ∷ Given (record {
        place = f.span.start;
        given = arguments_in f.item.arguments;
        declared = field_arguments known;
      }) ∷ []

  abbrev pub parts_of_spread : Placed (FragmentSpread S) → MetaType S C → List (Part S C)
  parts_of_spread s parent =
      ASpread (record { name = s.item.name; place = s.span.start; parent = parent }) ∷ []

  -- an inline fragment, and its condition
  abbrev pub parts_of_inline : Placed (InlineFragment S) → MetaType S C → List (Part S C)
  parts_of_inline i parent =
      AnInline (record { condition = i.item.type_condition; place = i.span.start; parent = parent })
      ∷ map Condition (option_to_list i.item.type_condition)

  abbrev pub parts_of_value : {A : Type 0} → InputValue-F S A → SourcePosition → Option InputPlace
      → List (Part S C)
  parts_of_value (InputValue-F.Variable name) start here =
      VariableUsed (record { name = name; place = start; at = here }) ∷ []
  parts_of_value (InputValue-F.Object pairs) start here = ObjectOf (map (λ p. p.0) pairs) ∷ []
  parts_of_value _ start here = []

  -- where the parent is known
  abbrev pub under_known : Option (MetaType S C) → (MetaType S C → List (Part S C))
      → List (Part S C)
  under_known None parts = []
  under_known (Some parent) parts = parts parent

  abbrev pub parts_at : Around S C → Head S → List (Part S C)
  parts_at around (AtVariableDefinition v) = VariableDefined (variable_part v) ∷ []
  parts_at around (AtDirective place known d) =
      ADirective (record {
        name = d.item.name.item;
        place = d.span.start;
        location = place;
        declared = known;
      })
      ∷ Given (record {
        place = d.span.start;
        given = arguments_in d.item.arguments;
        declared = directive_arguments known;
      }) ∷ []
  parts_at around (AtField known f) = under_known around.parent (parts_of_field known f)
  parts_at around (AtFragmentSpread s) = under_known around.parent (parts_of_spread s)
  parts_at around (AtInlineFragment i) = under_known around.parent (parts_of_inline i)
  parts_at around (AtValue v) = parts_of_value (out-InputValue S v.item) v.span.start around.input
  parts_at around _ = []

  abbrev pub parts_of_event : Around S C → Event S → List (Part S C)
  parts_of_event around (Enter (Inner head)) = parts_at around head
  parts_of_event around (Enter (AtFragment f)) = Condition f.item.type_condition ∷ []
  parts_of_event around _ = []

  -- the parts that an event tells: none, one or two
  abbrev pub parts_of : Seen S C → List (Part S C)
  parts_of s = parts_of_event s.around s.event
