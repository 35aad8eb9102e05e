-- No error exactly where no rule finds a fault.
use Rattle.graphql_schema.specs.Scalars.{Scalars}
use Rattle.std.proofs.Common.{◌≡◌, ◌↔◌, List, [], ◌++◌, length, sym, ap, subst, ◌∙◌}
use Rattle.std.specs.Prelude.{IsPermutation}
use Rattle.std.proofs.lemmas.List.{nil_from_length}
use Rattle.std.proofs.lemmas.List.Sorted.{IsPermutation-trans, length_permutation}
use Rattle.graphql_rule_errors.proofs.NoFaultLemmas.{append_none}
use Rattle.graphql_rule_errors.specs.Places.{Places}
use Rattle.graphql_visitors.specs.Subjects.{Subject}
use Rattle.graphql_rules_document.specs.AllRules.{document_places, fragment_places, operation_places, variable_places}
use Rattle.graphql_rules.proofs.LiteralLaws.{arguments_one, defaults_one}
use Rattle.graphql_validation.specs.FirstStage.{ArgumentsTold, DefaultsTold, FirstStage, PartsTold, local_places, parts, scopes}
use Rattle.graphql_validation.specs.Valid.{HasNoFault, HasNoFaultInScopes}

module _ {A : Type 0} where
  none_both : (xs ys : List A) → xs ≡ [] → ys ≡ [] → xs ++ ys ≡ []
  none_both xs ys h k = (λ i. h i ++ k i)

  none_before : (xs ys : List A) → IsPermutation xs ys → ys ≡ [] → xs ≡ []
  none_before xs ys p h = nil_from_length xs (sym (length_permutation xs ys p) ∙ ap length h)

  none_after : (xs ys : List A) → IsPermutation xs ys → xs ≡ [] → ys ≡ []
  none_after xs ys p h = nil_from_length ys (length_permutation xs ys p ∙ ap length h)

module _ {S C : Type 0} (scalars : Scalars S C) (subject : Subject S C) where
  -- what the rules say of one part at a time
  abbrev pub OfParts : Type 0
  OfParts = ArgumentsTold scalars subject [] × DefaultsTold scalars subject [] × (local_places subject ≡ [])

  parts_none : (told : Places) → PartsTold scalars subject told → told ≡ [] → OfParts
  parts_none told h none =
      let all : h.arguments ++ (h.defaults ++ local_places subject) ≡ [] = none_before _ told h.all none in
      let rest : h.defaults ++ local_places subject ≡ [] = (append_none h.arguments (h.defaults ++ local_places subject) all).1 in (
        subst (ArgumentsTold scalars subject) ((append_none h.arguments (h.defaults ++ local_places subject) all).0) h.arguments_told,
        subst (DefaultsTold scalars subject) ((append_none h.defaults (local_places subject) rest).0) h.defaults_told,
        (append_none h.defaults (local_places subject) rest).1,
      )

  parts_then : (told : Places) → PartsTold scalars subject told → OfParts → told ≡ []
  parts_then told h k =
      none_after (h.arguments ++ (h.defaults ++ local_places subject)) told h.all
      (none_both h.arguments (h.defaults ++ local_places subject) (arguments_one scalars subject (parts subject) h.arguments [] h.arguments_told k.0)
      (none_both h.defaults (local_places subject) (defaults_one scalars subject (parts subject) h.defaults [] h.defaults_told k.1) k.2))

  -- what the rules say of operations and fragments
  abbrev of_scopes : Places
  of_scopes = document_places subject.schema.types (scopes subject)

  -- by the sections of the standard
  abbrev for_operations : Places
  for_operations = operation_places (scopes subject).operations

  abbrev for_fragments : Places
  for_fragments = fragment_places (scopes subject).operations (scopes subject).fragments

  abbrev for_variables : Places
  for_variables = variable_places subject.schema.types (scopes subject).operations (scopes subject).fragments

  scopes_none : of_scopes ≡ [] → HasNoFaultInScopes subject
  scopes_none h =
      let outer = append_none (for_operations ++ for_fragments) for_variables h in
      let two = append_none for_operations for_fragments outer.0 in
      let operations = append_none _ _ two.0 in
      let fragments = append_none _ _ two.1 in
      let first_fragments = append_none _ _ fragments.0 in
      let variables = append_none _ _ outer.1 in
      let three_variables = append_none _ _ variables.0 in
      let two_variables = append_none _ _ three_variables.0 in
      record {
        unique_operation_names = operations.0;
        lone_anonymous_operation = operations.1;
        unique_fragment_names = first_fragments.0;
        no_unused_fragments = first_fragments.1;
        no_fragment_cycles = fragments.1;
        unique_variable_names = two_variables.0;
        no_undefined_variables = two_variables.1;
        no_unused_variables = three_variables.1;
        variables_in_allowed_position = variables.1;
      }

  scopes_then : HasNoFaultInScopes subject → of_scopes ≡ []
  scopes_then h = λ i.
      h.unique_operation_names i
      ++ h.lone_anonymous_operation i
      ++ (h.unique_fragment_names i ++ h.no_unused_fragments i ++ h.no_fragment_cycles i)
      ++ (h.unique_variable_names i ++ h.no_undefined_variables i ++ h.no_unused_variables i ++ h.variables_in_allowed_position i)

  -- no error of the first stage exactly where no rule finds a fault
  pub first_none : (told : Places) → FirstStage scalars subject told → told ≡ [] → HasNoFault scalars subject
  first_none told h none =
      let all : h.of_parts ++ of_scopes ≡ [] = none_before _ told h.all none in
      let of_parts = parts_none h.of_parts h.parts_told ((append_none h.of_parts of_scopes all).0) in
      let l1 = of_parts.2 in
      let l2 = (append_none _ _ l1).1 in
      let l3 = (append_none _ _ l2).1 in
      let l4 = (append_none _ _ l3).1 in
      let l5 = (append_none _ _ l4).1 in
      let l6 = (append_none _ _ l5).1 in
      let l7 = (append_none _ _ l6).1 in
      let l8 = (append_none _ _ l7).1 in
      let l9 = (append_none _ _ l8).1 in
      let l10 = (append_none _ _ l9).1 in
      let l11 = (append_none _ _ l10).1 in
      let l12 = (append_none _ _ l11).1 in
      record {
        arguments_of_correct_type = of_parts.0;
        default_values_of_correct_type = of_parts.1;
        fields_on_correct_type = (append_none _ _ l1).0;
        scalar_leafs = (append_none _ _ l2).0;
        fragments_on_composite_types = (append_none _ _ l3).0;
        known_type_names = (append_none _ _ l4).0;
        variables_are_input_types = (append_none _ _ l5).0;
        known_fragment_names = (append_none _ _ l6).0;
        possible_fragment_spreads = (append_none _ _ l7).0;
        known_directives = (append_none _ _ l8).0;
        known_argument_names = (append_none _ _ l9).0;
        provided_non_null_arguments = (append_none _ _ l10).0;
        unique_argument_names = (append_none _ _ l11).0;
        unique_input_field_names = (append_none _ _ l12).0;
        in_scopes = scopes_none ((append_none h.of_parts of_scopes all).1);
      }

  locals_then : HasNoFault scalars subject → local_places subject ≡ []
  locals_then h = λ i.
      h.fields_on_correct_type i ++ (h.scalar_leafs i ++ (h.fragments_on_composite_types i ++ (h.known_type_names i ++ (h.variables_are_input_types i ++ (h.known_fragment_names i ++ (h.possible_fragment_spreads i ++ (h.known_directives i ++ (h.known_argument_names i ++ (h.provided_non_null_arguments i ++ (h.unique_argument_names i ++ (h.unique_input_field_names i ++ [])))))))))))

  pub first_then : (told : Places) → FirstStage scalars subject told → HasNoFault scalars subject → told ≡ []
  first_then told h k =
      none_after (h.of_parts ++ of_scopes) told h.all
      (none_both h.of_parts of_scopes (parts_then h.of_parts h.parts_told (k.arguments_of_correct_type, k.default_values_of_correct_type, locals_then k)) (scopes_then k.in_scopes))

  -- of errors in some other order the same holds
  pub first_permuted : (told other : Places) → IsPermutation told other → FirstStage scalars subject told → FirstStage scalars subject other
  first_permuted told other p h = record { of_parts = h.of_parts; parts_told = h.parts_told; all = IsPermutation-trans (h.of_parts ++ of_scopes) told other h.all p }

  pub first_exactly : (told : Places) → FirstStage scalars subject told → (told ≡ []) ↔ HasNoFault scalars subject
  first_exactly told h = (first_none told h, first_then told h)
