-- Documents, production by production (GraphQL October 2021, 2.2 Document, 2.3 Operations, 2.8
-- Fragments).
use Rattle.std.specs.Prelude.{Bool, false, List, Result}
use Rattle.graphql_text.specs.declared.token.ScalarToken.{ScalarToken}
use Rattle.graphql_text.specs.declared.parse_error.ParseError.{ParseError}
use Rattle.graphql_tree.specs.declared.document.Operation.{Operation}
use Rattle.graphql_tree.specs.declared.document.Fragment as fragments
use Rattle.graphql_tree.specs.declared.document.Definition.{Definition}
use Rattle.graphql_tree.specs.declared.document.Definition.TheVariants as d
use Rattle.graphql_grammar.specs.declared.kind.Kind.TheVariants as k
use Rattle.graphql_grammar.specs.Input.{At, Located}
use Rattle.graphql_grammar.specs.Relations.{TokenOf, Then, Made, Placed, OptionOf, SomeOf, EitherOf}
use Rattle.graphql_language.specs.ReadDocuments.{operation_words, operation_type_of, query_of}
use Rattle.graphql_value_syntax.specs.Directives.{Sign, Named, DirectivesOf, VariableDefinitionsOf}
use Rattle.graphql_language.specs.Selections.{FragmentNamed, TypeConditionOf, SetOf}

module _ (S : Type 0) (reads : ScalarToken → Result S ParseError) (of_bool : Bool → S) where
  -- OperationType Name? VariableDefinitions? Directives? SelectionSet
  abbrev pub FullOperationOf : List Located → Operation S → Type 0
  FullOperationOf = Then (TokenOf operation_words operation_type_of)
      (λ t. Then (OptionOf Named) (λ n. Then (OptionOf (VariableDefinitionsOf S reads of_bool))
      (λ vs. Then (DirectivesOf S reads of_bool false) (λ ds.
      Made (λ ss. record {
        operation_type = t;
        name = n;
        variable_definitions = vs;
        directives = ds;
        selection_set = ss;
      }) (SetOf S reads of_bool)))))

  -- OperationDefinition : the above, or SelectionSet, which is a query
  abbrev pub OperationOf : List Located → At (Operation S) → Type 0
  OperationOf = Placed (EitherOf (Made (query_of {S = S}) (SetOf S reads of_bool)) FullOperationOf)

  -- FragmentDefinition : `fragment` FragmentName TypeCondition Directives? SelectionSet
  abbrev pub FragmentOf : List Located → At (fragments.Fragment S) → Type 0
  FragmentOf = Placed (Then (Sign k.Fragment) (λ u. Then FragmentNamed
      (λ n. Then TypeConditionOf (λ c. Then (DirectivesOf S reads of_bool false) (λ ds.
      Made (λ ss. record { name = n; type_condition = c; directives = ds; selection_set = ss })
      (SetOf S reads of_bool))))))

  -- Definition : FragmentDefinition, OperationDefinition
  abbrev pub DefinitionOf : List Located → Definition S → Type 0
  DefinitionOf = EitherOf (Made d.Fragment FragmentOf) (Made d.Operation OperationOf)

  -- Document : Definition+
  abbrev pub DocumentOf : List Located → List (Definition S) → Type 0
  DocumentOf = SomeOf DefinitionOf
