-- Rules that find no fault in a document find none in its plain document (GraphQL October 2021, 5
-- Validation).
use Rattle.std.specs.Prelude.{◌≡◌, Bool, true, List, []}
use Rattle.graphql_scalars.specs.ScalarAnswers.{ScalarAnswer}
use Rattle.graphql_tree.specs.declared.document.Definition.{Definition}
use Rattle.graphql_schema.specs.Scalars.{Scalars}
use Rattle.graphql_schema.specs.Declarations.{Declarations}
use Rattle.graphql_schema.specs.Directives.{has_standard_conditions}
use Rattle.graphql_occurrences.specs.Occurrences.{occurrences}
use Rattle.graphql_rules_document.specs.Scopes.{fragment_scopes, operation_scopes}
use Rattle.graphql_visitors.specs.Rules.{Rule, Tell}
use Rattle.graphql_visitors.specs.Subjects.{Subject}
use Rattle.graphql_rules.specs.KnownDirectives.{known_directives_faults}
use Rattle.graphql_rules.specs.Laws.{FindsNoFault}
use Rattle.graphql_rules.specs.ArgumentsOfCorrectType.{arguments_of_correct_type_faults}
use Rattle.graphql_rules.specs.DefaultValuesOfCorrectType.{default_values_of_correct_type_faults}
use Rattle.graphql_rules_document.specs.LoneAnonymousOperation.{lone_anonymous_operation_faults}
use Rattle.graphql_rules_document.specs.NoFragmentCycles.{no_fragment_cycles_faults}
use Rattle.graphql_rules_document.specs.NoUnusedFragments.{no_unused_fragments_faults}
use Rattle.graphql_rules_document.specs.UniqueFragmentNames.{unique_fragment_names_faults}
use Rattle.graphql_rules_document.specs.UniqueOperationNames.{unique_operation_names_faults}
use Rattle.graphql_plain_validity.specs.PlainRequests.{IsPlainDocument}
use Rattle.graphql_plain_validity.specs.Schemas.{TakesTrue}

module _ {S C : Type 0} (schema : Declarations S C) where
  abbrev pub subject_of : List (Definition S) → Subject S C
  subject_of document = record { schema = schema; document = document }

  -- the rule finds no fault in a document
  abbrev pub IsSilent : Rule S C → List (Definition S) → Type 0
  IsSilent rule document = FindsNoFault rule (subject_of document) (occurrences schema document)

  -- nor do the rules on the names of operations and fragments
  pub record HasOneOperation (document : List (Definition S)) : Type 0 where
    -- 5.2.1.1 Operation Name Uniqueness
    pub unique_operation_names : unique_operation_names_faults (operation_scopes schema document)
        ≡ []
    -- 5.2.2.1 Lone Anonymous Operation
    pub lone_anonymous_operation : lone_anonymous_operation_faults
        (operation_scopes schema document) ≡ []
    -- 5.5.1.1 Fragment Name Uniqueness
    pub unique_fragment_names : unique_fragment_names_faults (fragment_scopes schema document) ≡ []
    -- 5.5.1.4 Fragments Must Be Used
    pub no_unused_fragments :
        no_unused_fragments_faults (operation_scopes schema document)
        (fragment_scopes schema document) ≡ []
    -- 5.5.2.2 Fragment Spreads Must Not Form Cycles
    pub no_fragment_cycles : no_fragment_cycles_faults (fragment_scopes schema document) ≡ []

  -- by what scalars mean
  module _ (scalars : Scalars S C) where
    -- 5.6.1 Values of Correct Type
    abbrev pub ArgumentsConform : List (Definition S) → Type 0
    ArgumentsConform document =
        Tell (arguments_of_correct_type_faults scalars (subject_of document))
        (occurrences schema document) []

    abbrev pub DefaultsConform : List (Definition S) → Type 0
    DefaultsConform document =
        Tell (default_values_of_correct_type_faults scalars (subject_of document))
        (occurrences schema document) []

-- `answer`: what a scalar answers; `of_bool`: the scalar of a boolean
module _ {S C : Type 0} (answer : S → ScalarAnswer) (of_bool : Bool → S)
    (schema : Declarations S C) where
  -- where the rule finds no fault in a document it finds none in its plain document
  abbrev pub StaysSilent : Rule S C → Type 0
  StaysSilent rule =
      (document again : List (Definition S)) → IsPlainDocument answer of_bool document again
      → IsSilent schema rule document → IsSilent schema rule again

  -- likewise where the schema's `skip` is the standard's
  abbrev pub StaysSilentBesideSkip : Rule S C → Type 0
  StaysSilentBesideSkip rule = has_standard_conditions schema.directives ≡ true → StaysSilent rule

  -- 5.7 Directives: it finds none in a plain document, which has the directives of stand-ins alone
  abbrev pub DirectivesArePlaced : Type 0
  DirectivesArePlaced =
      has_standard_conditions schema.directives ≡ true
      → (document again : List (Definition S)) → IsPlainDocument answer of_bool document again
      → IsSilent schema known_directives_faults again

  -- a plain document is one operation
  abbrev pub OneOperationIsLeft : Type 0
  OneOperationIsLeft =
      (document again : List (Definition S)) → IsPlainDocument answer of_bool document again
      → HasOneOperation schema again

-- by what scalars mean
module _ {S C : Type 0} (scalars : Scalars S C) (schema : Declarations S C) where
  -- where the rule finds no fault in a document it finds none in its plain document, if the
  -- schema's `skip` is the standard's and its `Boolean` takes `true` (5.6.1 Values of Correct Type)
  abbrev pub ArgumentsStayConforming : Type 0
  ArgumentsStayConforming =
      has_standard_conditions schema.directives ≡ true
      → TakesTrue scalars.accepts schema scalars.of_bool
      → (document again : List (Definition S))
      → IsPlainDocument scalars.answer scalars.of_bool document again
      → ArgumentsConform schema scalars document → ArgumentsConform schema scalars again

  -- likewise of each schema
  abbrev pub DefaultsStayConforming : Type 0
  DefaultsStayConforming =
      (document again : List (Definition S))
      → IsPlainDocument scalars.answer scalars.of_bool document again
      → DefaultsConform schema scalars document → DefaultsConform schema scalars again
