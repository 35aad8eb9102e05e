-- What the rules of the first stage tell in one pass.
use Rattle.std.proofs.Common.{◌≡◌, Bool, List, [], ◌++◌, sym, ap, subst, ◌∙◌}
use Rattle.std.specs.Prelude.{IsPermutation}
use Rattle.std.specs.List.{flat_map}
use Rattle.std.proofs.lemmas.List.Sorted.{IsPermutation-append_right, IsPermutation-refl, IsPermutation-trans}
use Rattle.graphql_occurrences.proofs.TellsDefinitions.{events_told}
use Rattle.graphql_occurrences.specs.Events.{events}
use Rattle.graphql_occurrences.specs.Nodes.{Seen}
use Rattle.graphql_rule_errors.specs.Places.{Places, places}
use Rattle.graphql_visitors.proofs.RuleLemmas.{runs_both, runs_local, runs_locally, runs_silent}
use Rattle.graphql_visitors.specs.Rules.{Relation, Rule, Tell, both_steps, local, locally, silent}
use Rattle.graphql_visitors.specs.Runs.{VisitorStep, Runs, joined}
use Rattle.graphql_visitors.specs.Subjects.{Subject}
use Rattle.graphql_visitors.specs.declared.multi.MultiVisitorCons.{MultiVisitorCons}
use Rattle.graphql_visitors.specs.declared.multi.MultiVisitorNil.{MultiVisitorNil}
use Rattle.graphql_rules.specs.FieldsOnCorrectType.{fields_on_correct_type_faults}
use Rattle.graphql_rules.specs.FragmentsOnCompositeTypes.{fragments_on_composite_types_faults}
use Rattle.graphql_rules.specs.KnownArgumentNames.{known_argument_names_faults}
use Rattle.graphql_rules.specs.KnownDirectives.{known_directives_faults}
use Rattle.graphql_rules.specs.KnownFragmentNames.{known_fragment_names_faults}
use Rattle.graphql_rules.specs.KnownTypeNames.{known_type_names_faults}
use Rattle.graphql_rules.proofs.SpreadLemmas.{spreads_told}
use Rattle.graphql_rules.specs.PossibleFragmentSpreads.{possible_fragment_spreads_faults}
use Rattle.graphql_rules.specs.PossibleVisitor.{by_names}
use Rattle.graphql_rules.specs.declared.possible_fragment_spreads.PossibleFragmentSpreads.{PossibleFragmentSpreads}
use Rattle.graphql_schema.specs.Scalars.{Scalars}
use Rattle.graphql_schema.specs.Declarations.{declarations_of}
use Rattle.graphql_rules.specs.ProvidedNonNullArguments.{provided_non_null_arguments_faults}
use Rattle.graphql_rules.specs.ScalarLeafs.{scalar_leafs_faults}
use Rattle.graphql_rules.specs.UniqueArgumentNames.{unique_argument_names_faults}
use Rattle.graphql_rules.specs.UniqueInputFieldNames.{unique_input_field_names_faults}
use Rattle.graphql_rules.specs.VariablesAreInputTypes.{variables_are_input_types_faults}
use Rattle.graphql_rules.specs.ArgumentsOfCorrectType.{arguments_of_correct_type_faults}
use Rattle.graphql_rules.specs.DefaultValuesOfCorrectType.{default_values_of_correct_type_faults}
use Rattle.graphql_validation.proofs.ApartLemmas.{apart_silent, kept_of_document}
use Rattle.graphql_validation.specs.Apart.{keeps_apart, asked_places}
use Rattle.graphql_validation.specs.declared.introspection.Introspection.{Introspection}
use Rattle.graphql_validation.specs.FirstStage.{PartsTold, local_places, parts, places_of}

module _ {S C : Type 0} (subject : Subject S C) where
  abbrev document_events : List (Seen S C)
  document_events = events subject.schema subject.document

  -- over the document, a visitor that is made so tells these places, in some order
  record Tells {V : Type 0} (step : VisitorStep V S C) (Made : V → Type 0) (told : Places) : Type 0 where
    all : (v w : V) (ts : List Places) → Made v → Runs step subject v document_events w ts → IsPermutation told (joined ts)

  tells_none : Tells silent (λ v. Unit {0}) []
  tells_none = record { all = λ v w ts made runs. subst (IsPermutation []) (sym (runs_silent subject v w document_events ts runs)) (IsPermutation-refl []) }

  -- one visitor's places, and those of others
  module _ {A B : Type 0} (one : VisitorStep A S C) (others : VisitorStep B S C) (Made : A → Type 0) (MadeSo : B → Type 0) (here told : Places) where
    tells_before : ((v w : A) (ts : List Places) → Made v → Runs one subject v document_events w ts → joined ts ≡ here) → Tells others MadeSo told
        → Tells (both_steps one others) (λ v. Made v.first × MadeSo v.second) (here ++ told)
    tells_before first rest = record {
      all = λ v w ts made runs.
          let split = runs_both one others subject v w document_events ts runs in
          IsPermutation-trans (here ++ told) (joined split.0 ++ joined split.1) (joined ts)
          (subst (λ x. IsPermutation (here ++ told) (x ++ joined split.1)) (sym (first v.first w.first split.0 made.0 split.2)) (IsPermutation-append_right here told (joined split.1) (rest.all v.second w.second split.1 made.1 split.3)))
          split.4;
    }

  -- a rule before other visitors
  tells_rule : {A B : Type 0} (rule : Rule S C) (others : VisitorStep B S C) (Made : B → Type 0) (told : Places) → Tells others Made told → Tells (both_steps (local {V = A} rule) others) (λ v. Unit {0} × Made v.second) (places_of subject rule ++ told)
  tells_rule rule others Made told rest =
      tells_before (local rule) others (λ v. Unit {0}) Made (places_of subject rule) told (λ v w ts made runs. runs_local rule subject v w document_events ts runs ∙ ap (flat_map (rule subject)) (events_told subject.schema subject.document)) rest

  -- the visitor is made for the document's schema
  abbrev pub IsMadeFor : PossibleFragmentSpreads S C → Type 0
  IsMadeFor v = declarations_of v.overlaps.schema.now ≡ subject.schema

  -- the rule that keeps its answers before other visitors
  tells_spreads : {B : Type 0} (others : VisitorStep B S C) (Made : B → Type 0) (told : Places) → Tells others Made told → Tells (both_steps by_names others) (λ v. IsMadeFor v.first × Made v.second) (places_of subject possible_fragment_spreads_faults ++ told)
  tells_spreads others Made told rest = tells_before by_names others IsMadeFor Made (places_of subject possible_fragment_spreads_faults) told (spreads_told subject) rest

  module _ {A B : Type 0} (Says : Relation S C) (others : VisitorStep B S C) where
    -- a rule that asks checks before other visitors
    asks_before : (v w : MultiVisitorCons A B) (ts : List Places) → Runs (both_steps (locally {V = A} Says) others) subject v document_events w ts →
        (first : Places) × (rest : List Places) × Tell (Says subject) (parts subject) first × Runs others subject v.second document_events w.second rest × IsPermutation (first ++ joined rest) (joined ts)
    asks_before v w ts runs =
        let split = runs_both (locally Says) others subject v w document_events ts runs in (
          joined split.0,
          split.1,
          subst (λ ps. Tell (Says subject) ps (joined split.0)) (events_told subject.schema subject.document) (runs_locally Says subject v.first w.first document_events split.0 split.2),
          split.3,
          split.4,
        )

  -- the visitors of the rules, in the order of the list
  module _ (A1 A2 A3 A4 A5 A6 A8 A9 A10 A11 A12 : Type 0) where
    abbrev LocalVisitors : Type 0
    LocalVisitors =
        MultiVisitorCons A1 (MultiVisitorCons A2 (MultiVisitorCons A3 (MultiVisitorCons A4 (MultiVisitorCons A5 (MultiVisitorCons A6
        (MultiVisitorCons (PossibleFragmentSpreads S C) (MultiVisitorCons A8 (MultiVisitorCons A9 (MultiVisitorCons A10 (MultiVisitorCons A11 (MultiVisitorCons A12 MultiVisitorNil)))))))))))

    abbrev local_step : VisitorStep LocalVisitors S C
    local_step =
        both_steps (local {V = A1} fields_on_correct_type_faults) (both_steps (local {V = A2} scalar_leafs_faults) (both_steps (local {V = A3} fragments_on_composite_types_faults) (both_steps (local {V = A4} known_type_names_faults) (both_steps (local {V = A5} variables_are_input_types_faults)
        (both_steps (local {V = A6} known_fragment_names_faults) (both_steps by_names (both_steps (local {V = A8} known_directives_faults) (both_steps (local {V = A9} known_argument_names_faults)
        (both_steps (local {V = A10} provided_non_null_arguments_faults) (both_steps (local {V = A11} unique_argument_names_faults) (both_steps (local {V = A12} unique_input_field_names_faults) silent)))))))))))

    -- that of the rule that keeps its answers
    abbrev pub spreads_among : LocalVisitors → PossibleFragmentSpreads S C
    spreads_among v = v.second.second.second.second.second.second.first

    tells_locals : (v w : LocalVisitors) (ts : List Places) → IsMadeFor (spreads_among v) → Runs local_step subject v document_events w ts → IsPermutation (local_places subject) (joined ts)
    tells_locals v w ts made runs =
        (tells_rule fields_on_correct_type_faults _ _ _ (tells_rule scalar_leafs_faults _ _ _ (tells_rule fragments_on_composite_types_faults _ _ _ (tells_rule known_type_names_faults _ _ _ (tells_rule variables_are_input_types_faults _ _ _
        (tells_rule known_fragment_names_faults _ _ _ (tells_spreads _ _ _ (tells_rule known_directives_faults _ _ _ (tells_rule known_argument_names_faults _ _ _
        (tells_rule provided_non_null_arguments_faults _ _ _ (tells_rule unique_argument_names_faults _ _ _ (tells_rule unique_input_field_names_faults _ _ _ tells_none)))))))))))).all v w ts
        (tt, (tt, (tt, (tt, (tt, (tt, (made, (tt, (tt, (tt, (tt, (tt, tt)))))))))))) runs

    module _ (A B : Type 0) (scalars : Scalars S C) where
      abbrev first_step : VisitorStep (MultiVisitorCons A (MultiVisitorCons B LocalVisitors)) S C
      first_step = both_steps (locally {V = A} (arguments_of_correct_type_faults scalars)) (both_steps (locally {V = B} (default_values_of_correct_type_faults scalars)) local_step)

      pub parts_told : (v w : MultiVisitorCons A (MultiVisitorCons B LocalVisitors)) (ts : List Places) → IsMadeFor (spreads_among v.second.second) → Runs first_step subject v document_events w ts → PartsTold scalars subject (joined ts)
      parts_told v w ts made runs =
          let one = asks_before (arguments_of_correct_type_faults scalars) (both_steps (locally {V = B} (default_values_of_correct_type_faults scalars)) local_step) v w ts runs in
          let two = asks_before (default_values_of_correct_type_faults scalars) local_step v.second w.second one.1 one.3 in
          record {
            arguments = one.0;
            arguments_told = one.2;
            defaults = two.0;
            defaults_told = two.2;
            all = IsPermutation-trans (one.0 ++ (two.0 ++ local_places subject)) (one.0 ++ joined one.1) (joined ts)
                (IsPermutation-append_right one.0 (two.0 ++ local_places subject) (joined one.1)
                (IsPermutation-trans (two.0 ++ local_places subject) (two.0 ++ joined two.1) (joined one.1)
                (IsPermutation-append_right two.0 (local_places subject) (joined two.1) (tells_locals v.second.second w.second.second two.1 made two.3))
                two.4))
                one.4;
          }

      -- the same, where the rule against introspection keeps its errors apart before them
      pub parts_told_beside : (v w : MultiVisitorCons Introspection (MultiVisitorCons A (MultiVisitorCons B LocalVisitors))) (ts : List Places) → IsMadeFor (spreads_among v.second.second.second)
          → Runs (both_steps keeps_apart first_step) subject v document_events w ts → PartsTold scalars subject (joined ts)
      parts_told_beside v w ts made runs =
          let split = runs_both keeps_apart first_step subject v w document_events ts runs in
          let told = parts_told v.second w.second split.1 made split.3 in
          record {
            arguments = told.arguments;
            arguments_told = told.arguments_told;
            defaults = told.defaults;
            defaults_told = told.defaults_told;
            all = IsPermutation-trans (told.arguments ++ (told.defaults ++ local_places subject)) (joined split.1) (joined ts) told.all
                (subst (λ x. IsPermutation (x ++ joined split.1) (joined ts)) (apart_silent subject v.first w.first document_events split.0 split.2) split.4);
          }

      -- and what that rule keeps is what it tells of the document
      pub kept_beside : (q : Bool) (v w : MultiVisitorCons Introspection (MultiVisitorCons A (MultiVisitorCons B LocalVisitors))) (ts : List Places) → v.first ≡ record { is_asked = q; errors = [] }
          → Runs (both_steps keeps_apart first_step) subject v document_events w ts → places w.first.errors ≡ asked_places q subject
      kept_beside q v w ts made runs =
          let split = runs_both keeps_apart first_step subject v w document_events ts runs in
          kept_of_document subject q v.first w.first split.0 made split.2
