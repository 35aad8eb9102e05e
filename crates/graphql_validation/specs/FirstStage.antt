-- The errors of the rules of the first stage: all rules for documents but the one that fields merge
-- (GraphQL October 2021, 5 Validation).
use Rattle.graphql_schema.specs.Scalars.{Scalars}
use Rattle.std.specs.Prelude.{List, [], ◌∷◌, ◌++◌, IsPermutation}
use Rattle.std.specs.List.{flat_map}
use Rattle.graphql_occurrences.specs.Occurrences.{occurrences}
use Rattle.graphql_occurrences.specs.Parts.{Part}
use Rattle.graphql_rule_errors.specs.Places.{Places}
use Rattle.graphql_rules_document.specs.Scopes.{Scopes, scopes_in}
use Rattle.graphql_visitors.specs.Rules.{Rule, Tell}
use Rattle.graphql_visitors.specs.Subjects.{Subject}
use Rattle.graphql_rules.specs.DisableIntrospection.{disable_introspection_faults}
use Rattle.graphql_rules.specs.FieldsOnCorrectType.{fields_on_correct_type_faults}
use Rattle.graphql_rules.specs.FragmentsOnCompositeTypes.{fragments_on_composite_types_faults}
use Rattle.graphql_rules.specs.KnownArgumentNames.{known_argument_names_faults}
use Rattle.graphql_rules.specs.KnownDirectives.{known_directives_faults}
use Rattle.graphql_rules.specs.KnownFragmentNames.{known_fragment_names_faults}
use Rattle.graphql_rules.specs.KnownTypeNames.{known_type_names_faults}
use Rattle.graphql_rules.specs.PossibleFragmentSpreads.{possible_fragment_spreads_faults}
use Rattle.graphql_rules.specs.ProvidedNonNullArguments.{provided_non_null_arguments_faults}
use Rattle.graphql_rules.specs.ScalarLeafs.{scalar_leafs_faults}
use Rattle.graphql_rules.specs.UniqueArgumentNames.{unique_argument_names_faults}
use Rattle.graphql_rules.specs.UniqueInputFieldNames.{unique_input_field_names_faults}
use Rattle.graphql_rules.specs.VariablesAreInputTypes.{variables_are_input_types_faults}
use Rattle.graphql_rules.specs.ArgumentsOfCorrectType.{arguments_of_correct_type_faults}
use Rattle.graphql_rules.specs.DefaultValuesOfCorrectType.{default_values_of_correct_type_faults}
use Rattle.graphql_rules_document.specs.AllRules.{document_places}

-- the rules that look at one part at a time, and ask no check
abbrev pub local_rules : {S C : Type 0} → List (Rule S C)
local_rules =
    fields_on_correct_type_faults ∷ scalar_leafs_faults ∷ fragments_on_composite_types_faults
    ∷ known_type_names_faults ∷ variables_are_input_types_faults ∷ known_fragment_names_faults
    ∷ possible_fragment_spreads_faults ∷ known_directives_faults ∷ known_argument_names_faults
    ∷ provided_non_null_arguments_faults
    ∷ unique_argument_names_faults ∷ unique_input_field_names_faults ∷ []

module _ {S C : Type 0} (subject : Subject S C) where
  -- the parts of what is validated
  abbrev pub parts : List (Part S C)
  parts = occurrences subject.schema subject.document

  -- the scopes of what is validated
  abbrev pub scopes : Scopes S
  scopes = scopes_in subject.schema subject.document

  -- what a rule says of all parts of a document
  abbrev pub places_of : Rule S C → Places
  places_of rule = flat_map (rule subject) parts

  abbrev pub local_places : Places
  local_places = flat_map places_of local_rules

  -- where fields ask for the schema (4.1 Schema Introspection)
  abbrev pub introspection_places : Places
  introspection_places = places_of disable_introspection_faults

module _ {S C : Type 0} (scalars : Scalars S C) (subject : Subject S C) where
  abbrev pub ArgumentsTold : Places → Type 0
  ArgumentsTold = Tell (arguments_of_correct_type_faults scalars subject) (parts subject)

  abbrev pub DefaultsTold : Places → Type 0
  DefaultsTold = Tell (default_values_of_correct_type_faults scalars subject) (parts subject)

  -- what the rules tell that look at one part at a time, in some order
  pub record PartsTold (told : Places) : Type 0 where
    pub arguments : Places
    pub arguments_told : ArgumentsTold arguments
    pub defaults : Places
    pub defaults_told : DefaultsTold defaults
    pub all : IsPermutation (arguments ++ (defaults ++ local_places subject)) told

  -- what all rules of the first stage tell, in some order
  pub record FirstStage (told : Places) : Type 0 where
    pub of_parts : Places
    pub parts_told : PartsTold of_parts
    pub all : IsPermutation (of_parts ++ document_places subject.schema.types (scopes subject)) told
