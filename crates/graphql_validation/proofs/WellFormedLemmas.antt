-- What holds of a document in which no rule of the first stage finds a fault.
use Rattle.graphql_schema.specs.Scalars.{Scalars}
use Rattle.graphql_rules_document.proofs.CycleLaws.{fragments_end}
use Rattle.graphql_rules_document.proofs.RuleLaws.{distinct_fragments, distinct_operations, distinct_variables}
use Rattle.graphql_rules.proofs.LawLemmas.{arguments_distinct, fields_declared_and_selected, spreads_known, types_known_as}
use Rattle.graphql_visitors.specs.Subjects.{Subject}
use Rattle.graphql_validation.specs.FirstStage.{parts, scopes}
use Rattle.graphql_validation.specs.Valid.{HasNoFault}
use Rattle.graphql_validation.specs.WellFormed.{IsWellFormed}

module _ {S C : Type 0} (scalars : Scalars S C) (subject : Subject S C) where
  pub well_formed : HasNoFault scalars subject → IsWellFormed subject
  well_formed h =
      let types = (types_known_as subject (parts subject)).0 (h.known_type_names, h.variables_are_input_types, h.fragments_on_composite_types) in
      record {
        operation_names = (distinct_operations (scopes subject).operations).0 h.in_scopes.unique_operation_names;
        fragment_names = (distinct_fragments (scopes subject).fragments).0 h.in_scopes.unique_fragment_names;
        variable_names = (distinct_variables (scopes subject).operations).0 h.in_scopes.unique_variable_names;
        argument_names = (arguments_distinct subject (parts subject)).0 h.unique_argument_names;
        spreads = (spreads_known subject (parts subject)).0 h.known_fragment_names;
        fragments_end = (fragments_end (scopes subject).fragments).0 h.in_scopes.no_fragment_cycles;
        variable_types = types.0;
        conditions = types.1;
        fields = (fields_declared_and_selected subject (parts subject)).0 (h.fields_on_correct_type, h.scalar_leafs);
      }
