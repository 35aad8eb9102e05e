-- Rules that look at one part at a time find as many faults in a document without its places.
use Rattle.std.proofs.Common.{◌≡◌, refl, sym, ◌∙◌, ap, Bool, not, ◌||◌, List, [], ◌∷◌, map, Option, Some, None, unwrap_or}
use Rattle.std.specs.List.{flat_map}
use Rattle.std.specs.Option.{is_none, is_some, option_map}
use Rattle.std.proofs.lemmas.Simd.{map-map}
use Rattle.graphql_names.specs.Names.{Bytes, is_one_of, named, passes}
use Rattle.graphql_values.specs.InputValues.{Placed}
use Rattle.graphql_tree.specs.Arguments.{Argument}
use Rattle.graphql_tree.specs.Definitions.{fragment_named, fragments_of}
use Rattle.graphql_tree.specs.Unlocated.{without_place, unlocated_argument, unlocated_document, unlocated_fragment, unlocated_name}
use Rattle.graphql_tree.specs.declared.document.Definition.{Definition}
use Rattle.graphql_tree.specs.declared.document.Definition.TheVariants as definition
use Rattle.graphql_tree.specs.declared.document.Fragment.{Fragment}
use Rattle.graphql_schema.specs.declared.meta.argument.Argument.{Argument as Declared}
use Rattle.graphql_schema.specs.Declarations.{Declarations}
use Rattle.graphql_schema.specs.Directives.{is_place}
use Rattle.graphql_schema.specs.Executable.{is_optional}
use Rattle.graphql_schema.specs.Faults.{is_composite}
use Rattle.graphql_occurrences.specs.Lookups.{argument_named, field_type, known, referred}
use Rattle.graphql_occurrences.specs.Occurrences.{occurrences}
use Rattle.graphql_occurrences.specs.Parts.{ADirective, AField, AnInline, ASpread, Condition, Given, GivenPart, ObjectOf, Part, VariableDefined}
use Rattle.graphql_occurrences.specs.Unlocated.{unlocated_part}
use Rattle.graphql_occurrences.proofs.UnlocatedParts.{document_unlocated}
use Rattle.graphql_rule_errors.specs.Places.{Places, error_if}
use Rattle.graphql_rule_errors.specs.Repeats.{mention, repeats}
use Rattle.graphql_visitors.specs.Rules.{Rule}
use Rattle.graphql_visitors.specs.Subjects.{Subject}
use Rattle.graphql_rules.specs.DisableIntrospection.{disable_introspection_faults, introspects}
use Rattle.graphql_rules.specs.FieldsOnCorrectType.{fields_on_correct_type_faults}
use Rattle.graphql_rules.specs.FragmentsOnCompositeTypes.{is_no_composite, fragments_on_composite_types_faults}
use Rattle.graphql_rules.specs.Givens.{of_given}
use Rattle.graphql_rules.specs.KnownArgumentNames.{known_argument_names_faults, undeclared, undeclared_among, undeclared_in}
use Rattle.graphql_rules.specs.KnownDirectives.{known_directives_faults}
use Rattle.graphql_rules.specs.KnownFragmentNames.{known_fragment_names_faults}
use Rattle.graphql_rules.specs.KnownTypeNames.{known_type_names_faults}
use Rattle.graphql_rules.specs.PossibleFragmentSpreads.{possible_fragment_spreads_faults, is_apart}
use Rattle.graphql_rules.specs.ProvidedNonNullArguments.{missing, missing_in, provided_non_null_arguments_faults}
use Rattle.graphql_rules.specs.ScalarLeafs.{mistakes_set, scalar_leafs_faults}
use Rattle.graphql_rules.specs.UniqueArgumentNames.{repeated_in, unique_argument_names_faults}
use Rattle.graphql_rules.specs.UniqueInputFieldNames.{unique_input_field_names_faults}
use Rattle.graphql_rules.specs.VariablesAreInputTypes.{variables_are_input_types_faults}
use Rattle.graphql_plain_validity.specs.RuleLaws.{IsSilent, subject_of}
use Rattle.graphql_moved.proofs.Unlocated.{nowhere}
use Rattle.graphql_plain_requests.proofs.Erased.{all-erased, unlocated_mention, each-erased, erase, error-erased, named-mapped, none-erased, repeats-erased}

pub some-mapped : {A B : Type 0} (g : A → B) (o : Option A) → is_some (option_map g o) ≡ is_some o
some-mapped g None = refl
some-mapped g (Some x) = refl

module _ {S : Type 0} where
  abbrev placeless_fragment : Placed (Fragment S) → Placed (Fragment S)
  placeless_fragment = without_place unlocated_fragment

  pub fragments-unlocated : (d : List (Definition S)) → fragments_of (unlocated_document d)
      ≡ map placeless_fragment (fragments_of d)
  fragments-unlocated [] = refl
  fragments-unlocated (definition.Operation o ∷ d) = fragments-unlocated d
  fragments-unlocated (definition.Fragment f ∷ d) = ap (λ fs. placeless_fragment f ∷ fs) (fragments-unlocated d)

  fragment-unlocated : (d : List (Definition S)) (name : Bytes)
      → fragment_named (unlocated_document d) name
      ≡ option_map placeless_fragment (fragment_named d name)
  fragment-unlocated d name =
      ap (λ (fs : List (Placed (Fragment S))). named-of fs name) (fragments-unlocated d)
      ∙ named-mapped placeless_fragment (λ (f : Placed (Fragment S)). f.item.name.item)
      (λ (f : Placed (Fragment S)). f.item.name.item) (λ f. refl) (fragments_of d) name
    where
      named-of : List (Placed (Fragment S)) → Bytes → Option (Placed (Fragment S))
      named-of fs n = named (λ (f : Placed (Fragment S)). f.item.name.item) fs n

  condition-passes : (test : Bytes → Bool) (o : Option (Placed (Fragment S)))
      → passes (λ (n : Placed Bytes). test n.item)
      (option_map (λ (f : Placed (Fragment S)). f.item.type_condition) (option_map placeless_fragment o))
      ≡ passes (λ (n : Placed Bytes). test n.item) (option_map (λ f. f.item.type_condition) o)
  condition-passes test None = refl
  condition-passes test (Some f) = refl

  -- ---- what is given

  abbrev unlocated_given : GivenPart S → GivenPart S
  unlocated_given g = record g { given = map unlocated_argument g.given; place = nowhere g.place }

  undeclared-erased : (declared : Option (List (Declared S))) (xs : List (Argument S))
      → undeclared_among declared (map unlocated_argument xs) ≡ erase (undeclared_among declared xs)
  undeclared-erased None xs = refl
  undeclared-erased (Some ds) xs =
      each-erased unlocated_argument (undeclared ds) (undeclared ds)
      (λ a. error-erased (not (is_some (argument_named ds a.0.item))) (a.0.span.start ∷ [])) xs

  names-same : (xs : List (Argument S)) → map (λ (a : Argument S). a.0.item)
      (map unlocated_argument xs) ≡ map (λ a. a.0.item) xs
  names-same xs = map-map (λ (a : Argument S). a.0.item) unlocated_argument xs

  missing-erased : (g : GivenPart S) → missing_in (unlocated_given g) ≡ erase (missing_in g)
  missing-erased g =
      ap (λ names. flat_map (missing (nowhere g.place) (is_one_of names)) (unwrap_or g.declared []))
      (names-same g.given)
      ∙ all-erased (missing g.place (is_one_of (map (λ a. a.0.item) g.given)))
      (missing (nowhere g.place) (is_one_of (map (λ a. a.0.item) g.given)))
      (λ a. error-erased (not (is_optional a || is_one_of
      (map (λ (b : Argument S). b.0.item) g.given) a.name)) (g.place ∷ []))
      (unwrap_or g.declared [])

  repeated-erased : (g : GivenPart S) → repeated_in (unlocated_given g) ≡ erase (repeated_in g)
  repeated-erased g =
      ap repeats (map-map (λ (a : Argument S). mention a.0) unlocated_argument g.given
      ∙ sym (map-map unlocated_mention (λ (a : Argument S). mention a.0) g.given))
      ∙ repeats-erased (map (λ (a : Argument S). mention a.0) g.given)

module _ {S C : Type 0} where
  abbrev unlocated_subject : Subject S C → Subject S C
  unlocated_subject s = record { schema = s.schema; document = unlocated_document s.document }

  -- at a part without its places the rule finds as many faults
  abbrev IsBlind : Rule S C → Type 0
  IsBlind rule = (s : Subject S C) (x : Part S C) → rule (unlocated_subject s) (unlocated_part x)
      ≡ erase (rule s x)

  of-given-blind : (says : GivenPart S → Places)
      → ((g : GivenPart S) → says (unlocated_given g) ≡ erase (says g)) → IsBlind (of_given says)
  of-given-blind says h s (Given g) = each-erased unlocated_given says says h (g ∷ [])
  of-given-blind says h s _ = refl

  unknown-field : IsBlind fields_on_correct_type_faults
  unknown-field s (AField f) = error-erased (is_none f.declared) (f.place ∷ [])
  unknown-field s _ = refl

  wrong-leaf : IsBlind scalar_leafs_faults
  wrong-leaf s (AField f) = error-erased (passes (mistakes_set f.has_set)
      (referred s.schema (field_type f.declared))) (f.place ∷ [])
  wrong-leaf s _ = refl

  introspection : IsBlind disable_introspection_faults
  introspection s (AField f) = error-erased (introspects f.name) (f.place ∷ [])
  introspection s _ = refl

  no-composite : IsBlind fragments_on_composite_types_faults
  no-composite s (Condition n) = error-erased (is_no_composite s.schema n.item) (n.span.start ∷ [])
  no-composite s _ = refl

  unknown-type : IsBlind known_type_names_faults
  unknown-type s (Condition n) = error-erased (is_none (known s.schema n.item)) (n.span.start ∷ [])
  unknown-type s (VariableDefined v) = error-erased (is_none (known s.schema v.type_of.item.name))
      (v.type_of.span.start ∷ [])
  unknown-type s _ = refl

  no-input-type : IsBlind variables_are_input_types_faults
  no-input-type s (VariableDefined v) = error-erased
      (passes is_composite (known s.schema v.type_of.item.name)) (v.type_of.span.start ∷ [])
  no-input-type s _ = refl

  unknown-fragment : IsBlind known_fragment_names_faults
  unknown-fragment s (ASpread x) =
      ap (λ (o : Option (Placed (Fragment S))).
      error_if (not (is_some o)) (nowhere x.name.span.start ∷ []))
      (fragment-unlocated s.document x.name.item)
      ∙ ap (λ b. error_if (not b) (nowhere x.name.span.start ∷ []))
      (some-mapped placeless_fragment (fragment_named s.document x.name.item))
      ∙ error-erased (not (is_some (fragment_named s.document x.name.item)))
      (x.name.span.start ∷ [])
  unknown-fragment s _ = refl

  impossible-spread : IsBlind possible_fragment_spreads_faults
  impossible-spread s (ASpread x) =
      ap (λ (o : Option (Placed (Fragment S))).
      error_if (passes (λ (n : Placed Bytes). is_apart s.schema x.parent n.item)
      (option_map (λ (f : Placed (Fragment S)). f.item.type_condition) o)) (nowhere x.place ∷ []))
      (fragment-unlocated s.document x.name.item)
      ∙ ap (λ b. error_if b (nowhere x.place ∷ []))
      (condition-passes (is_apart s.schema x.parent) (fragment_named s.document x.name.item))
      ∙ error-erased _ (x.place ∷ [])
  impossible-spread s (AnInline x) =
      ap (λ b. error_if b (nowhere x.place ∷ []))
      (name-passes (is_apart s.schema x.parent) x.condition)
      ∙ error-erased (passes (λ (n : Placed Bytes). is_apart s.schema x.parent n.item) x.condition)
      (x.place ∷ [])
    where
      name-passes : (test : Bytes → Bool) (o : Option (Placed Bytes))
          → passes (λ (n : Placed Bytes). test n.item) (option_map unlocated_name o)
          ≡ passes (λ (n : Placed Bytes). test n.item) o
      name-passes test None = refl
      name-passes test (Some n) = refl
  impossible-spread s _ = refl

  misplaced-directive : IsBlind known_directives_faults
  misplaced-directive s (ADirective x) = error-erased
      (not (passes (λ k. is_place k.locations x.location) x.declared)) (x.place ∷ [])
  misplaced-directive s _ = refl

  argument-names : IsBlind known_argument_names_faults
  argument-names = of-given-blind undeclared_in (λ g. undeclared-erased g.declared g.given)

  required-arguments : IsBlind provided_non_null_arguments_faults
  required-arguments = of-given-blind missing_in missing-erased

  unique-arguments : IsBlind unique_argument_names_faults
  unique-arguments = of-given-blind repeated_in repeated-erased

  unique-input-fields : IsBlind unique_input_field_names_faults
  unique-input-fields s (ObjectOf names) =
      ap repeats (map-map mention unlocated_name names ∙ sym (map-map unlocated_mention mention names))
      ∙ repeats-erased (map mention names)
  unique-input-fields s _ = refl

module _ {S C : Type 0} (schema : Declarations S C) (document again : List (Definition S))
    (same : unlocated_document document ≡ unlocated_document again) where
  abbrev Silent : Rule S C → List (Definition S) → Type 0
  Silent = IsSilent schema

  erased-is : (rule : Rule S C) → IsBlind rule → (d : List (Definition S))
      → flat_map (rule (unlocated_subject (subject_of schema d)))
      (occurrences schema (unlocated_document d))
      ≡ erase (flat_map (rule (subject_of schema d)) (occurrences schema d))
  erased-is rule blind d =
      ap (flat_map (rule (unlocated_subject (subject_of schema d)))) (document_unlocated schema d)
      ∙ each-erased unlocated_part (rule (subject_of schema d))
      (rule (unlocated_subject (subject_of schema d))) (blind (subject_of schema d))
      (occurrences schema d)

  -- a rule that is blind finds no fault in the one where it finds none in the other
  silent-alike : (rule : Rule S C) → IsBlind rule → Silent rule document → Silent rule again
  silent-alike rule blind silent =
      none-erased (flat_map (rule (subject_of schema again)) (occurrences schema again))
      (sym (erased-is rule blind again)
      ∙ (λ i. flat_map (rule (subject_of schema (sym same i))) (occurrences schema (sym same i)))
      ∙ erased-is rule blind document ∙ ap erase silent)

  pub fields-alike : Silent fields_on_correct_type_faults document → Silent fields_on_correct_type_faults again
  fields-alike = silent-alike fields_on_correct_type_faults unknown-field

  pub leaves-alike : Silent scalar_leafs_faults document → Silent scalar_leafs_faults again
  leaves-alike = silent-alike scalar_leafs_faults wrong-leaf

  pub introspection-alike : Silent disable_introspection_faults document → Silent disable_introspection_faults again
  introspection-alike = silent-alike disable_introspection_faults introspection

  pub conditions-alike : Silent fragments_on_composite_types_faults document → Silent fragments_on_composite_types_faults again
  conditions-alike = silent-alike fragments_on_composite_types_faults no-composite

  pub types-alike : Silent known_type_names_faults document → Silent known_type_names_faults again
  types-alike = silent-alike known_type_names_faults unknown-type

  pub input-types-alike : Silent variables_are_input_types_faults document → Silent variables_are_input_types_faults again
  input-types-alike = silent-alike variables_are_input_types_faults no-input-type

  pub fragments-alike : Silent known_fragment_names_faults document → Silent known_fragment_names_faults again
  fragments-alike = silent-alike known_fragment_names_faults unknown-fragment

  pub spreads-alike : Silent possible_fragment_spreads_faults document → Silent possible_fragment_spreads_faults again
  spreads-alike = silent-alike possible_fragment_spreads_faults impossible-spread

  pub directives-alike : Silent known_directives_faults document → Silent known_directives_faults again
  directives-alike = silent-alike known_directives_faults misplaced-directive

  pub argument-names-alike : Silent known_argument_names_faults document
      → Silent known_argument_names_faults again
  argument-names-alike = silent-alike known_argument_names_faults argument-names

  pub required-alike : Silent provided_non_null_arguments_faults document
      → Silent provided_non_null_arguments_faults again
  required-alike = silent-alike provided_non_null_arguments_faults required-arguments

  pub unique-arguments-alike : Silent unique_argument_names_faults document
      → Silent unique_argument_names_faults again
  unique-arguments-alike = silent-alike unique_argument_names_faults unique-arguments

  pub unique-fields-alike : Silent unique_input_field_names_faults document
      → Silent unique_input_field_names_faults again
  unique-fields-alike = silent-alike unique_input_field_names_faults unique-input-fields
