-- Rules that look at one part at a time, one by one.
use Rattle.std.proofs.Common.{◌≡◌, refl, sym, ◌∙◌, ap, subst, Bool, true, false, List, [], ◌∷◌, map, Some, codes, rules}
use Rattle.std.specs.List.{Contains, IsDistinct}
use Rattle.std.specs.Option.{ForSome, IsSome}
use Rattle.std.specs.Str.{bytes_eq}
use Rattle.std.proofs.lemmas.Option.{same_Some}
use Rattle.std.proofs.lemmas.Simd.{map-map}
use Rattle.graphql_names.specs.Names.{Bytes, is_one_of}
use Rattle.graphql_scalars.specs.ScalarAnswers.{ScalarAnswer}
use Rattle.graphql_values.specs.InputValues.{Placed}
use Rattle.graphql_tree.specs.Arguments.{Argument}
use Rattle.graphql_tree.specs.Unlocated.{unlocated_argument, unlocated_name}
use Rattle.graphql_tree.specs.declared.document.Definition.{Definition}
use Rattle.graphql_schema.specs.declared.meta.argument.Argument.{Argument as Declared}
use Rattle.graphql_schema.specs.Declarations.{Declarations}
use Rattle.graphql_schema.specs.Directives.{has_standard_conditions}
use Rattle.graphql_schema.specs.Faults.{is_composite}
use Rattle.graphql_occurrences.specs.Lookups.{argument_named, known}
use Rattle.graphql_occurrences.specs.Occurrences.{occurrences}
use Rattle.graphql_occurrences.specs.Parts.{Part, GivenPart}
use Rattle.graphql_visitors.specs.Subjects.{Subject}
use Rattle.graphql_rules.specs.DisableIntrospection.{disable_introspection_faults, introspects}
use Rattle.graphql_rules.specs.FieldsOnCorrectType.{fields_on_correct_type_faults}
use Rattle.graphql_rules.specs.FragmentsOnCompositeTypes.{fragments_on_composite_types_faults}
use Rattle.graphql_rules.specs.KnownArgumentNames.{known_argument_names_faults}
use Rattle.graphql_rules.specs.KnownDirectives.{known_directives_faults}
use Rattle.graphql_rules.specs.KnownFragmentNames.{known_fragment_names_faults}
use Rattle.graphql_rules.specs.KnownTypeNames.{known_type_names_faults}
use Rattle.graphql_rules.specs.Laws.{AreDeclared, AreDistinct, AreProvided, IsPlaced, IsSelected}
use Rattle.graphql_rules.specs.ProvidedNonNullArguments.{provided_non_null_arguments_faults}
use Rattle.graphql_rules.specs.ScalarLeafs.{scalar_leafs_faults}
use Rattle.graphql_rules.specs.UniqueArgumentNames.{unique_argument_names_faults}
use Rattle.graphql_rules.specs.UniqueInputFieldNames.{unique_input_field_names_faults}
use Rattle.graphql_rules.specs.VariablesAreInputTypes.{variables_are_input_types_faults}
use Rattle.graphql_rules.proofs.LawLemmas.{arguments_declared, arguments_distinct, arguments_provided, conditions_composite, directives_placed, fields_declared, fields_selected, input_fields_distinct, no_introspection, spreads_known, types_known, variables_input}
use Rattle.graphql_rules_document.proofs.ListItems.{contains-map, image-of, only-one}
use Rattle.graphql_plain_validity.specs.StemmingParts.{skip_given}
use Rattle.graphql_plain_validity.specs.PartKinds.{unplaced_given}
use Rattle.graphql_plain_validity.specs.PlainRequests.{IsPlainDocument}
use Rattle.graphql_plain_validity.proofs.PartKinds.{no-spread-stems}
use Rattle.graphql_plain_validity.specs.RuleLaws.{IsSilent, StaysSilent, subject_of}
use Rattle.graphql_plain_validity.proofs.KindsStay.{Respects, conditions-stay, directives-are, fields-stay, givens-stay, objects-stay, stems, variables-stay}
use Rattle.graphql_plain_validity.proofs.StandIns.{if_argument, skip-at-field, skip-at-inline, skip-declares}

-- names do not depend on places
names-of : (ns : List (Placed Bytes))
    → map (λ n. n.item) (map unlocated_name ns) ≡ map (λ n. n.item) ns
names-of ns = map-map (λ (n : Placed Bytes). n.item) unlocated_name ns

module _ {S : Type 0} where
  argument-names-of : (xs : List (Argument S))
      → map (λ a. a.0.item) (map unlocated_argument xs) ≡ map (λ a. a.0.item) xs
  argument-names-of xs = map-map (λ (a : Argument S). a.0.item) unlocated_argument xs

  -- ---- what holds of what is given without its places holds of it

  same-names : (g h : GivenPart S) → unplaced_given h ≡ unplaced_given g
      → map (λ a. a.0.item) g.given ≡ map (λ a. a.0.item) h.given
  same-names g h same =
      sym (argument-names-of g.given)
      ∙ ap (λ (x : GivenPart S). map (λ a. a.0.item) x.given) (sym same) ∙ argument-names-of h.given

  distinct-respects : Respects unplaced_given (AreDistinct {S = S})
  distinct-respects g h same d = subst (IsDistinct bytes_eq) (same-names g h same) d

  provided-respects : Respects unplaced_given (AreProvided {S = S})
  provided-respects g h same p declared is a there required =
      subst (λ names. is_one_of names a.name ≡ true) (same-names g h same)
      (p declared (sym (ap (λ (x : GivenPart S). x.declared) same) ∙ is) a there required)

  -- an argument that is given stands, places aside, also in what is the same without its places
  pub also-given : (g h : GivenPart S) → unplaced_given h ≡ unplaced_given g → (a : Argument S)
      → Contains h.given a
      → (b : Argument S) × Contains g.given b × (unlocated_argument b ≡ unlocated_argument a)
  also-given g h same a there =
      image-of unlocated_argument g.given (unlocated_argument a)
      (subst (λ xs. Contains xs (unlocated_argument a)) (ap (λ (x : GivenPart S). x.given) same)
      (contains-map unlocated_argument h.given a there))

  declared-respects : Respects unplaced_given (AreDeclared {S = S})
  declared-respects g h same d declared is a there =
      let b = also-given g h same a there in
      subst (λ name. IsSome (argument_named declared name)) (ap (λ (x : Argument S). x.0.item) b.2)
      (d declared (sym (ap (λ (x : GivenPart S). x.declared) same) ∙ is) b.0 b.1)

module _ {S C : Type 0} (answer : S → ScalarAnswer) (of_bool : Bool → S)
    (schema : Declarations S C) where
  abbrev s : List (Definition S) → Subject S C
  s = subject_of schema

  abbrev parts : List (Definition S) → List (Part S C)
  parts = occurrences schema

  -- 5.3.1 Field Selections
  pub declared-fields-stay : StaysSilent answer of_bool schema fields_on_correct_type_faults
  declared-fields-stay document again is e =
      (fields_declared (s again) (parts again)).1
      (fields-stay answer of_bool schema document again is (λ f. IsSome f.declared)
      (λ f g same. subst (λ x. IsSome x.declared) (sym same))
      ((fields_declared (s document) (parts document)).0 e))

  -- 5.3.3 Leaf Field Selections
  pub leaves-stay : StaysSilent answer of_bool schema scalar_leafs_faults
  leaves-stay document again is e =
      (fields_selected (s again) (parts again)).1
      (fields-stay answer of_bool schema document again is (IsSelected schema)
      (λ f g same. subst (IsSelected schema) (sym same))
      ((fields_selected (s document) (parts document)).0 e))

  -- 4.2 Schema Introspection
  pub introspection-stays : StaysSilent answer of_bool schema disable_introspection_faults
  introspection-stays document again is e =
      (no_introspection (s again) (parts again)).1
      (fields-stay answer of_bool schema document again is (λ f. introspects f.name ≡ false)
      (λ f g same. subst (λ x. introspects x.name ≡ false) (sym same))
      ((no_introspection (s document) (parts document)).0 e))

  -- 5.5.1.3 Fragments on Composite Types
  pub conditions-stay-composite : StaysSilent answer of_bool schema fragments_on_composite_types_faults
  conditions-stay-composite document again is e =
      (conditions_composite (s again) (parts again)).1
      (conditions-stay answer of_bool schema document again is
      (λ n. ForSome (known schema n.item) (λ m. is_composite m ≡ true))
      (λ n o same. subst (λ x. ForSome (known schema x.item) (λ m. is_composite m ≡ true))
      (sym same)) ((conditions_composite (s document) (parts document)).0 e))

  -- 5.5.1.2 Fragment Spread Type Existence, 5.8.2 Variables Are Input Types
  pub types-stay-known : StaysSilent answer of_bool schema known_type_names_faults
  types-stay-known document again is e =
      let old = (types_known (s document) (parts document)).0 e in
      (types_known (s again) (parts again)).1 (
        variables-stay answer of_bool schema document again is
            (λ v. IsSome (known schema v.type_of.item.name))
            (λ v w same. subst (λ x. IsSome (known schema x.type_of.item.name)) (sym same)) old.0,
        conditions-stay answer of_bool schema document again is (λ n. IsSome (known schema n.item))
            (λ n o same. subst (λ x. IsSome (known schema x.item)) (sym same)) old.1,
      )

  -- 5.8.2 Variables Are Input Types
  pub variables-stay-input : StaysSilent answer of_bool schema variables_are_input_types_faults
  variables-stay-input document again is e =
      (variables_input (s again) (parts again)).1
      (variables-stay answer of_bool schema document again is
      (λ v. ForSome (known schema v.type_of.item.name) (λ m. is_composite m ≡ false))
      (λ v w same. subst
      (λ x. ForSome (known schema x.type_of.item.name) (λ m. is_composite m ≡ false)) (sym same))
      ((variables_input (s document) (parts document)).0 e))

  -- 5.5.2.1 Fragment Spread Target Defined: no spread is left
  pub no-spread-is-left : StaysSilent answer of_bool schema known_fragment_names_faults
  no-spread-is-left document again is e =
      (spreads_known (s again) (parts again)).1
      (λ x there. absurd
      (no-spread-stems schema document is.operation of_bool x
      (stems answer of_bool schema document again is _ there)))

  -- 5.6.3 Input Object Field Uniqueness
  pub input-fields-stay-distinct : StaysSilent answer of_bool schema unique_input_field_names_faults
  input-fields-stay-distinct document again is e =
      (input_fields_distinct (s again) (parts again)).1
      (objects-stay answer of_bool schema document again is
      (λ names. IsDistinct bytes_eq (map (λ n. n.item) names))
      (λ ns ms same. subst (IsDistinct bytes_eq)
      (sym (names-of ns) ∙ ap (map (λ n. n.item)) (sym same) ∙ names-of ms))
      ((input_fields_distinct (s document) (parts document)).0 e))

  one-argument : AreDistinct (skip_given schema of_bool)
  unfolding IsDistinct
  one-argument = search rules

  -- 5.4.2 Argument Uniqueness
  pub arguments-stay-distinct : StaysSilent answer of_bool schema unique_argument_names_faults
  arguments-stay-distinct document again is e =
      (arguments_distinct (s again) (parts again)).1
      (givens-stay answer of_bool schema document again is AreDistinct distinct-respects one-argument
      ((arguments_distinct (s document) (parts document)).0 e))

  module _ (standard : has_standard_conditions schema.directives ≡ true) where
    abbrev skip : GivenPart S
    skip = skip_given schema of_bool

    -- what the standard's `skip` declares is what the stand-in gives
    declares : (declared : List (Declared S)) → skip.declared ≡ Some declared
        → if_argument (skip-declares schema standard).0 ∷ [] ≡ declared
    declares declared is = same_Some _ declared (sym (skip-declares schema standard).1 ∙ is)

    -- 5.7 Directives
    pub directives-are-placed : (document again : List (Definition S))
        → IsPlainDocument answer of_bool document again → IsSilent schema known_directives_faults again
    directives-are-placed document again is =
        (directives_placed (s again) (parts again)).1
        (directives-are answer of_bool schema document again is IsPlaced
        (λ d f same. subst IsPlaced (sym same)) (skip-at-field schema standard)
        (skip-at-inline schema standard))

    skip-declared : AreDeclared skip
    skip-declared declared is a there =
        let name : codes "if" ≡ a.0.item = ap (λ (x : Argument S). x.0.item) (only-one _ a there) in
        subst (λ n. IsSome (argument_named declared n)) name
        (subst (λ ds. IsSome (argument_named ds (codes "if"))) (declares declared is) refl)

    -- 5.4.1 Argument Names
    pub arguments-stay-declared : StaysSilent answer of_bool schema known_argument_names_faults
    arguments-stay-declared document again is e =
        (arguments_declared (s again) (parts again)).1
        (givens-stay answer of_bool schema document again is AreDeclared declared-respects skip-declared
        ((arguments_declared (s document) (parts document)).0 e))

    skip-provided : AreProvided skip
    skip-provided declared is a there required =
        let given : List Bytes = map (λ b. b.0.item) skip.given in
        let name : codes "if" ≡ a.name =
        ap (λ (x : Declared S). x.name)
        (only-one _ a (subst (λ ds. Contains ds a) (sym (declares declared is)) there)) in
        subst (λ n. is_one_of given n ≡ true) name refl

    -- 5.4.2.1 Required Arguments
    pub arguments-stay-provided : StaysSilent answer of_bool schema provided_non_null_arguments_faults
    arguments-stay-provided document again is e =
        (arguments_provided (s again) (parts again)).1
        (givens-stay answer of_bool schema document again is AreProvided provided-respects skip-provided
        ((arguments_provided (s document) (parts document)).0 e))
