-- What holds of the parts of a document in which rules find no fault.
use Rattle.std.proofs.Common.{◌≡◌, ◌↔◌, List, [], ◌∷◌, ◌++◌, Bool, true, false, not, ◌&&◌, ◌||◌, Option, Some, None, map, unwrap_or, if◌then◌else◌, refl, sym, ap, subst, ◌∙◌, append-nil}
use Rattle.std.specs.List.{Contains, IsDistinct, flat_map}
use Rattle.std.specs.Option.{ForSome, IsSome, is_some, is_none, option_map}
use Rattle.std.specs.Str.{bytes_eq}
use Rattle.std.proofs.lemmas.Bool.{true≢false, false≢true, not_from_false}
use Rattle.std.proofs.lemmas.Option.{none-some, same_Some}
use Rattle.graphql_schema.specs.declared.meta.argument.Argument.{Argument as Declared}
use Rattle.graphql_schema.specs.declared.meta.field.Field.{Field as DeclaredField}
use Rattle.graphql_schema.specs.declared.meta.MetaType.{MetaType}
use Rattle.graphql_schema.specs.declared.meta.MetaType.TheVariants as meta
use Rattle.graphql_names.specs.Names.{Bytes, is_one_of, passes}
use Rattle.graphql_tree.specs.Definitions.{fragment_named}
use Rattle.graphql_occurrences.specs.Lookups.{argument_named, field_type, known, referred}
use Rattle.graphql_occurrences.specs.Parts.{GivenPart, Part, VariableDefined, Condition, AField, ASpread, AnInline, ADirective, Given, ObjectOf}
use Rattle.graphql_rule_errors.specs.Places.{Places, error_if}
use Rattle.graphql_schema.specs.Directives.{is_place}
use Rattle.graphql_schema.specs.Executable.{is_optional}
use Rattle.graphql_schema.specs.Possible.{overlap}
use Rattle.graphql_schema.specs.Faults.{is_composite}
use Rattle.graphql_text.specs.declared.position.SourcePosition.{SourcePosition}
use Rattle.graphql_tree.specs.Arguments.{Argument}
use Rattle.graphql_values.specs.InputValues.{Placed}
use Rattle.graphql_visitors.specs.Rules.{Rule}
use Rattle.graphql_visitors.specs.Subjects.{Subject}
use Rattle.graphql_rule_errors.proofs.NoFaultLemmas.{none_unless}
use Rattle.graphql_rule_errors.proofs.RepeatLemmas.{no_repeats_of}
use Rattle.graphql_rule_errors.specs.Repeats.{mention}
use Rattle.graphql_rules.specs.DisableIntrospection.{introspects, disable_introspection_faults}
use Rattle.graphql_rules.specs.FieldsOnCorrectType.{fields_on_correct_type_faults}
use Rattle.graphql_rules.specs.FragmentsOnCompositeTypes.{fragments_on_composite_types_faults}
use Rattle.graphql_rules.specs.Givens.{of_given}
use Rattle.graphql_rules.specs.KnownArgumentNames.{known_argument_names_faults, undeclared, undeclared_among, undeclared_in}
use Rattle.graphql_rules.specs.KnownDirectives.{known_directives_faults}
use Rattle.graphql_rules.specs.KnownFragmentNames.{known_fragment_names_faults}
use Rattle.graphql_rules.specs.KnownTypeNames.{known_type_names_faults}
use Rattle.graphql_rules.specs.Laws.{AreDeclared, AreDistinct, AreProvided, EachOf, FindsNoFault, IsDeclaredField, IsKnownAs, IsPlaced, IsSelected, MayApply, SetFits}
use Rattle.graphql_rules.specs.PossibleFragmentSpreads.{possible_fragment_spreads_faults, is_apart}
use Rattle.graphql_rules.specs.ProvidedNonNullArguments.{missing, missing_in, provided_non_null_arguments_faults}
use Rattle.graphql_rules.specs.ScalarLeafs.{is_leaf, mistakes_set, scalar_leafs_faults}
use Rattle.graphql_rules.specs.UniqueArgumentNames.{repeated_in, unique_argument_names_faults}
use Rattle.graphql_rules.specs.UniqueInputFieldNames.{unique_input_field_names_faults}
use Rattle.graphql_rules.specs.VariablesAreInputTypes.{variables_are_input_types_faults}
use Rattle.graphql_rules.proofs.SilentLemmas.{silent_each, silent_if}

iff_after : {A B C : Type 0} → A ↔ B → B ↔ C → A ↔ C
iff_after h k = (λ a. k.0 (h.0 a), λ c. h.1 (k.1 c))

not_false : (b : Bool) → (not b ≡ false) ↔ (b ≡ true)
not_false true = (λ h. refl, λ h. refl)
not_false false = (λ h. absurd (true≢false h), λ h. absurd (false≢true h))

false_from_not : (b : Bool) → not b ≡ true → b ≡ false
false_from_not true h = sym h
false_from_not false h = refl

-- no error exactly where something is right
silent_unless : (right : Bool) (at : List SourcePosition) → (error_if (not right) at ≡ []) ↔ (right ≡ true)
silent_unless right at = none_unless right at (right ≡ true) (λ h. h, λ h. h)

module _ {A : Type 0} where
  some_from_not_none : (o : Option A) → (is_none o ≡ false) ↔ IsSome o
  some_from_not_none None = (λ h. absurd (true≢false h), λ h. absurd (false≢true h))
  some_from_not_none (Some a) = (λ h. refl, λ h. refl)

  for_some : (a : A) (P : A → Type 0) → ForSome (Some a) P ↔ P a
  for_some a P = (λ h. h a refl, λ h x is. subst P (same_Some a x is) h)

  for_none : (P : A → Type 0) → ForSome None P
  for_none P = λ x is. absurd (none-some x is)

  for_some_iff : (P Q : A → Type 0) → ((x : A) → P x ↔ Q x) → (o : Option A) → ForSome o P ↔ ForSome o Q
  for_some_iff P Q h o = (λ k x is. (h x).0 (k x is), λ k x is. (h x).1 (k x is))

  -- whatever there is does not pass
  none_passes : (test : A → Bool) (o : Option A) → (passes test o ≡ false) ↔ ForSome o (λ x. test x ≡ false)
  none_passes test None = (λ h. for_none (λ x. test x ≡ false), λ h. refl)
  none_passes test (Some a) = (λ h. (for_some a (λ x. test x ≡ false)).1 h, λ h. (for_some a (λ x. test x ≡ false)).0 h)

  one_passes : (test : A → Bool) (o : Option A) → (passes test o ≡ true) ↔ ((a : A) × (o ≡ Some a) × (test a ≡ true))
  one_passes test None = (λ h. absurd (false≢true h), λ h. absurd (none-some h.0 h.1))
  one_passes test (Some a) = (λ h. (a, refl, h), λ h. ap test (same_Some a h.0 h.1) ∙ h.2)

  -- there is one, and it passes
  there_passes : (test : A → Bool) (o : Option A) → (IsSome o × ForSome o (λ x. test x ≡ true)) ↔ ((a : A) × (o ≡ Some a) × (test a ≡ true))
  there_passes test None = (λ h. absurd (false≢true h.0), λ h. absurd (none-some h.0 h.1))
  there_passes test (Some a) = (λ h. (a, refl, h.1 a refl), λ h. (refl, (for_some a (λ x. test x ≡ true)).1 (ap test (same_Some a h.0 h.1) ∙ h.2)))

for_mapped : {A B : Type 0} (f : A → B) (P : B → Type 0) (o : Option A) → ForSome (option_map f o) P ↔ ForSome o (λ a. P (f a))
for_mapped f P None = (λ h. for_none (λ a. P (f a)), λ h. for_none P)
for_mapped f P (Some a) = iff_after (for_some (f a) P) ((for_some a (λ x. P (f x))).1, (for_some a (λ x. P (f x))).0)

module _ {S C : Type 0} (says : Part S C → Places) (parts : List (Part S C)) where
  -- where nothing is said but of one kind of parts
  one_kind : {X : Type 0} (kind : X → Part S C) (Fact : X → Type 0) → ((x : X) → (says (kind x) ≡ []) ↔ Fact x) → ((p : Part S C) → ((x : X) → p ≡ kind x → says p ≡ []) → says p ≡ [])
      → (flat_map says parts ≡ []) ↔ EachOf kind Fact parts
  one_kind kind Fact is others = (
    λ h x there. (is x).0 ((silent_each says parts).0 h (kind x) there),
    λ h. (silent_each says parts).1 (λ p there. others p (λ x same. ap says same ∙ (is x).1 (h x (subst (Contains parts) same there)))),
  )

  -- or of two
  two_kinds : {X Y : Type 0} (kind : X → Part S C) (other : Y → Part S C) (Fact : X → Type 0) (Other : Y → Type 0) → ((x : X) → (says (kind x) ≡ []) ↔ Fact x) → ((y : Y) → (says (other y) ≡ []) ↔ Other y)
      → ((p : Part S C) → ((x : X) → p ≡ kind x → says p ≡ []) → ((y : Y) → p ≡ other y → says p ≡ []) → says p ≡ []) → (flat_map says parts ≡ []) ↔ (EachOf kind Fact parts × EachOf other Other parts)
  two_kinds kind other Fact Other is was others = (
    λ h. (λ x there. (is x).0 ((silent_each says parts).0 h (kind x) there), λ y there. (was y).0 ((silent_each says parts).0 h (other y) there)),
    λ h. (silent_each says parts).1
        (λ p there. others p (λ x same. ap says same ∙ (is x).1 (h.0 x (subst (Contains parts) same there))) (λ y same. ap says same ∙ (was y).1 (h.1 y (subst (Contains parts) same there)))),
  )

-- a set is no mistake exactly where it stands behind a composite type
set_fits : (has_set leaf composite : Bool) → (leaf && composite) ≡ false → ((if has_set then leaf else composite) ≡ false) ↔ ((leaf || composite) ≡ true → has_set ≡ composite)
set_fits true true true e = absurd (true≢false e)
set_fits true true false e = (λ h k. h, λ h. h refl)
set_fits true false true e = (λ h k. refl, λ h. refl)
set_fits true false false e = (λ h k. absurd (false≢true k), λ h. refl)
set_fits false true true e = absurd (true≢false e)
set_fits false true false e = (λ h k. refl, λ h. refl)
set_fits false false true e = (λ h k. sym h, λ h. sym (h refl))
set_fits false false false e = (λ h k. refl, λ h. refl)

module _ {S C : Type 0} where
  -- no type is a leaf and composite
  leaf_or_composite : (m : MetaType S C) → (is_leaf m && is_composite m) ≡ false
  leaf_or_composite (meta.Scalar m) = refl
  leaf_or_composite _ = refl

module _ {S C : Type 0} (subject : Subject S C) (parts : List (Part S C)) where
  pub spreads_known : FindsNoFault known_fragment_names_faults subject parts ↔ EachOf ASpread (λ s. IsSome (fragment_named subject.document s.name.item)) parts
  spreads_known = one_kind (known_fragment_names_faults subject) parts ASpread (λ s. IsSome (fragment_named subject.document s.name.item)) (λ s. silent_unless (is_some (fragment_named subject.document s.name.item)) (s.name.span.start ∷ [])) others
    where
      others : (p : Part S C) → ((x : _) → p ≡ ASpread x → known_fragment_names_faults subject p ≡ []) → known_fragment_names_faults subject p ≡ []
      others (ASpread s) at = at s refl
      others _ at = refl

  pub fields_declared : FindsNoFault fields_on_correct_type_faults subject parts ↔ EachOf AField (λ f. IsSome f.declared) parts
  fields_declared = one_kind (fields_on_correct_type_faults subject) parts AField (λ f. IsSome f.declared) (λ f. iff_after (silent_if (is_none f.declared) (f.place ∷ [])) (some_from_not_none f.declared)) others
    where
      others : (p : Part S C) → ((x : _) → p ≡ AField x → fields_on_correct_type_faults subject p ≡ []) → fields_on_correct_type_faults subject p ≡ []
      others (AField f) at = at f refl
      others _ at = refl

  pub fields_selected : FindsNoFault scalar_leafs_faults subject parts ↔ EachOf AField (IsSelected subject.schema) parts
  fields_selected = one_kind (scalar_leafs_faults subject) parts AField (IsSelected subject.schema) is others
    where
      is : (f : _) → (scalar_leafs_faults subject (AField f) ≡ []) ↔ IsSelected subject.schema f
      is f =
          let its_type = referred subject.schema (field_type f.declared) in
          iff_after (silent_if (passes (mistakes_set f.has_set) its_type) (f.place ∷ []))
          (iff_after (none_passes (mistakes_set f.has_set) its_type)
          (for_some_iff (λ m. mistakes_set f.has_set m ≡ false) (SetFits f.has_set) (λ m. set_fits f.has_set (is_leaf m) (is_composite m) (leaf_or_composite m)) its_type))

      others : (p : Part S C) → ((x : _) → p ≡ AField x → scalar_leafs_faults subject p ≡ []) → scalar_leafs_faults subject p ≡ []
      others (AField f) at = at f refl
      others _ at = refl

  -- the same together
  pub fields_declared_and_selected : (FindsNoFault fields_on_correct_type_faults subject parts × FindsNoFault scalar_leafs_faults subject parts) ↔ EachOf AField (IsDeclaredField subject.schema) parts
  fields_declared_and_selected = (
    λ h f there. (together f.declared f.has_set).0 (fields_declared.0 h.0 f there, fields_selected.0 h.1 f there),
    λ h. (fields_declared.1 (λ f there. ((together f.declared f.has_set).1 (h f there)).0), fields_selected.1 (λ f there. ((together f.declared f.has_set).1 (h f there)).1)),
  )
    where
      together : (declared : Option (DeclaredField S)) (has_set : Bool) → (IsSome declared × ForSome (referred subject.schema (field_type declared)) (SetFits has_set))
          ↔ ((d : DeclaredField S) × (declared ≡ Some d) × ForSome (known subject.schema d.field_type.name) (SetFits has_set))
      together None has_set = (λ h. absurd (false≢true h.0), λ h. absurd (none-some h.0 h.1))
      together (Some d) has_set = (λ h. (d, refl, h.1), λ h. (refl, subst (λ x. ForSome (known subject.schema x.field_type.name) (SetFits has_set)) (sym (same_Some d h.0 h.1)) h.2))

  pub types_known : FindsNoFault known_type_names_faults subject parts ↔ (EachOf VariableDefined (λ v. IsSome (known subject.schema v.type_of.item.name)) parts × EachOf Condition (λ name. IsSome (known subject.schema name.item)) parts)
  types_known = two_kinds (known_type_names_faults subject) parts VariableDefined Condition (λ v. IsSome (known subject.schema v.type_of.item.name)) (λ name. IsSome (known subject.schema name.item))
      (λ v. iff_after (silent_if (is_none (known subject.schema v.type_of.item.name)) (v.type_of.span.start ∷ [])) (some_from_not_none (known subject.schema v.type_of.item.name)))
      (λ name. iff_after (silent_if (is_none (known subject.schema name.item)) (name.span.start ∷ [])) (some_from_not_none (known subject.schema name.item))) others
    where
      others : (p : Part S C) → ((x : _) → p ≡ VariableDefined x → known_type_names_faults subject p ≡ []) → ((y : _) → p ≡ Condition y → known_type_names_faults subject p ≡ []) → known_type_names_faults subject p ≡ []
      others (VariableDefined v) at of = at v refl
      others (Condition name) at of = of name refl
      others _ at of = refl

  pub variables_input : FindsNoFault variables_are_input_types_faults subject parts ↔ EachOf VariableDefined (λ v. ForSome (known subject.schema v.type_of.item.name) (λ m. is_composite m ≡ false)) parts
  variables_input = one_kind (variables_are_input_types_faults subject) parts VariableDefined (λ v. ForSome (known subject.schema v.type_of.item.name) (λ m. is_composite m ≡ false))
      (λ v. iff_after (silent_if (passes is_composite (known subject.schema v.type_of.item.name)) (v.type_of.span.start ∷ [])) (none_passes is_composite (known subject.schema v.type_of.item.name))) others
    where
      others : (p : Part S C) → ((x : _) → p ≡ VariableDefined x → variables_are_input_types_faults subject p ≡ []) → variables_are_input_types_faults subject p ≡ []
      others (VariableDefined v) at = at v refl
      others _ at = refl

  pub conditions_composite : FindsNoFault fragments_on_composite_types_faults subject parts ↔ EachOf Condition (λ name. ForSome (known subject.schema name.item) (λ m. is_composite m ≡ true)) parts
  conditions_composite = one_kind (fragments_on_composite_types_faults subject) parts Condition (λ name. ForSome (known subject.schema name.item) (λ m. is_composite m ≡ true))
      (λ name. iff_after (silent_if (passes (λ m. not (is_composite m)) (known subject.schema name.item)) (name.span.start ∷ []))
      (iff_after (none_passes (λ m. not (is_composite m)) (known subject.schema name.item)) (for_some_iff (λ m. not (is_composite m) ≡ false) (λ m. is_composite m ≡ true) (λ m. not_false (is_composite m)) (known subject.schema name.item)))) others
    where
      others : (p : Part S C) → ((x : _) → p ≡ Condition x → fragments_on_composite_types_faults subject p ≡ []) → fragments_on_composite_types_faults subject p ≡ []
      others (Condition name) at = at name refl
      others _ at = refl

  -- the three together
  pub types_known_as : (FindsNoFault known_type_names_faults subject parts × FindsNoFault variables_are_input_types_faults subject parts × FindsNoFault fragments_on_composite_types_faults subject parts)
      ↔ (EachOf VariableDefined (λ v. IsKnownAs subject.schema (λ m. not (is_composite m)) v.type_of.item.name) parts × EachOf Condition (λ name. IsKnownAs subject.schema is_composite name.item) parts)
  types_known_as = (
    λ h. (
      λ v there. (input v.type_of.item.name).0 ((types_known.0 h.0).0 v there, variables_input.0 h.1 v there),
      λ name there. (there_passes is_composite (known subject.schema name.item)).0 ((types_known.0 h.0).1 name there, conditions_composite.0 h.2 name there),
    ),
    λ h. (
      types_known.1 (λ v there. ((input v.type_of.item.name).1 (h.0 v there)).0, λ name there. ((there_passes is_composite (known subject.schema name.item)).1 (h.1 name there)).0),
      variables_input.1 (λ v there. ((input v.type_of.item.name).1 (h.0 v there)).1),
      conditions_composite.1 (λ name there. ((there_passes is_composite (known subject.schema name.item)).1 (h.1 name there)).1),
    ),
  )
    where
      input : (name : Bytes) → (IsSome (known subject.schema name) × ForSome (known subject.schema name) (λ m. is_composite m ≡ false)) ↔ IsKnownAs subject.schema (λ m. not (is_composite m)) name
      input name = (
        λ h. (there_passes (λ m. not (is_composite m)) (known subject.schema name)).0 (h.0, λ m is. not_from_false (is_composite m) (h.1 m is)),
        λ h. let both = (there_passes (λ m. not (is_composite m)) (known subject.schema name)).1 h in (both.0, λ m is. false_from_not (is_composite m) (both.1 m is)),
      )

  pub spreads_possible : FindsNoFault possible_fragment_spreads_faults subject parts
      ↔ (EachOf ASpread (λ s. ForSome (fragment_named subject.document s.name.item) (λ f. MayApply subject.schema s.parent f.item.type_condition.item)) parts × EachOf AnInline (λ i. ForSome i.condition (λ name. MayApply subject.schema i.parent name.item)) parts)
  spreads_possible = two_kinds (possible_fragment_spreads_faults subject) parts ASpread AnInline (λ s. ForSome (fragment_named subject.document s.name.item) (λ f. MayApply subject.schema s.parent f.item.type_condition.item))
      (λ i. ForSome i.condition (λ name. MayApply subject.schema i.parent name.item)) of_spread of_inline others
    where
      applies : (parent : MetaType S C) (condition : Option (Placed Bytes)) (at : List SourcePosition) → (error_if (passes (λ name. is_apart subject.schema parent name.item) condition) at ≡ []) ↔ ForSome condition (λ name. MayApply subject.schema parent name.item)
      applies parent condition at =
          iff_after (silent_if (passes (λ name. is_apart subject.schema parent name.item) condition) at)
          (iff_after (none_passes (λ name. is_apart subject.schema parent name.item) condition)
          (for_some_iff (λ name. is_apart subject.schema parent name.item ≡ false) (λ name. MayApply subject.schema parent name.item)
          (λ name. iff_after (none_passes (λ m. not (overlap subject.schema.types parent m)) (known subject.schema name.item))
          (for_some_iff (λ m. not (overlap subject.schema.types parent m) ≡ false) (λ m. overlap subject.schema.types parent m ≡ true) (λ m. not_false (overlap subject.schema.types parent m)) (known subject.schema name.item))) condition))

      of_spread : (s : _) → (possible_fragment_spreads_faults subject (ASpread s) ≡ []) ↔ ForSome (fragment_named subject.document s.name.item) (λ f. MayApply subject.schema s.parent f.item.type_condition.item)
      of_spread s =
          let fragment = fragment_named subject.document s.name.item in
          iff_after (applies s.parent (option_map (λ f. f.item.type_condition) fragment) (s.place ∷ [])) (for_mapped (λ f. f.item.type_condition) (λ name. MayApply subject.schema s.parent name.item) fragment)

      of_inline : (i : _) → (possible_fragment_spreads_faults subject (AnInline i) ≡ []) ↔ ForSome i.condition (λ name. MayApply subject.schema i.parent name.item)
      of_inline i = applies i.parent i.condition (i.place ∷ [])

      others : (p : Part S C) → ((x : _) → p ≡ ASpread x → possible_fragment_spreads_faults subject p ≡ []) → ((y : _) → p ≡ AnInline y → possible_fragment_spreads_faults subject p ≡ []) → possible_fragment_spreads_faults subject p ≡ []
      others (ASpread s) at of = at s refl
      others (AnInline i) at of = of i refl
      others _ at of = refl

  pub directives_placed : FindsNoFault known_directives_faults subject parts ↔ EachOf ADirective IsPlaced parts
  directives_placed = one_kind (known_directives_faults subject) parts ADirective IsPlaced
      (λ d. iff_after (silent_unless (passes (λ k. is_place k.locations d.location) d.declared) (d.place ∷ [])) (one_passes (λ k. is_place k.locations d.location) d.declared)) others
    where
      others : (p : Part S C) → ((x : _) → p ≡ ADirective x → known_directives_faults subject p ≡ []) → known_directives_faults subject p ≡ []
      others (ADirective d) at = at d refl
      others _ at = refl

  pub no_introspection : FindsNoFault disable_introspection_faults subject parts ↔ EachOf AField (λ f. introspects f.name ≡ false) parts
  no_introspection = one_kind (disable_introspection_faults subject) parts AField (λ f. introspects f.name ≡ false) (λ f. silent_if (introspects f.name) (f.place ∷ [])) others
    where
      others : (p : Part S C) → ((x : _) → p ≡ AField x → disable_introspection_faults subject p ≡ []) → disable_introspection_faults subject p ≡ []
      others (AField f) at = at f refl
      others _ at = refl

  module _ (says : GivenPart S → Places) (Fact : GivenPart S → Type 0) (is : (g : GivenPart S) → (says g ≡ []) ↔ Fact g) where
    given_silent : FindsNoFault (of_given says) subject parts ↔ EachOf Given Fact parts
    given_silent = one_kind (of_given says subject) parts Given Fact (λ g. (λ h. (is g).0 (sym (append-nil (says g)) ∙ h), λ h. append-nil (says g) ∙ (is g).1 h)) others
      where
        others : (p : Part S C) → ((x : _) → p ≡ Given x → of_given says subject p ≡ []) → of_given says subject p ≡ []
        others (Given g) at = at g refl
        others _ at = refl

  pub arguments_declared : FindsNoFault known_argument_names_faults subject parts ↔ EachOf Given AreDeclared parts
  arguments_declared = given_silent undeclared_in AreDeclared (λ g. among g.declared g.given)
    where
      among : (declared : Option (List (Declared S))) (given : List (Argument S)) → (undeclared_among declared given ≡ []) ↔ ForSome declared (λ ds. (a : Argument S) → Contains given a → IsSome (argument_named ds a.0.item))
      among None given = (λ h. for_none (λ ds. (a : Argument S) → Contains given a → IsSome (argument_named ds a.0.item)), λ h. refl)
      among (Some ds) given =
          iff_after (silent_each (undeclared ds) given)
          (iff_after (λ h a there. (silent_unless (is_some (argument_named ds a.0.item)) (a.0.span.start ∷ [])).0 (h a there), λ h a there. (silent_unless (is_some (argument_named ds a.0.item)) (a.0.span.start ∷ [])).1 (h a there))
          ((for_some ds (λ xs. (a : Argument S) → Contains given a → IsSome (argument_named xs a.0.item))).1, (for_some ds (λ xs. (a : Argument S) → Contains given a → IsSome (argument_named xs a.0.item))).0))

  pub arguments_provided : FindsNoFault provided_non_null_arguments_faults subject parts ↔ EachOf Given AreProvided parts
  arguments_provided = given_silent missing_in AreProvided (λ g. among g.place (is_one_of (map (λ a. a.0.item) g.given)) g.declared)
    where
      needed : (optional given : Bool) → ((optional || given) ≡ true) ↔ (optional ≡ false → given ≡ true)
      needed true given = (λ h k. absurd (true≢false k), λ h. refl)
      needed false given = (λ h k. h, λ h. h refl)

      among : (place : SourcePosition) (is_given : Bytes → Bool) (declared : Option (List (Declared S))) → (flat_map (missing place is_given) (unwrap_or declared []) ≡ []) ↔ ForSome declared (λ ds. (a : Declared S) → Contains ds a → is_optional a ≡ false → is_given a.name ≡ true)
      among place is_given None = (λ h. for_none (λ ds. (a : Declared S) → Contains ds a → is_optional a ≡ false → is_given a.name ≡ true), λ h. refl)
      among place is_given (Some ds) =
          let one : (a : Declared S) → (missing place is_given a ≡ []) ↔ (is_optional a ≡ false → is_given a.name ≡ true) =
          λ a. iff_after (silent_unless (is_optional a || is_given a.name) (place ∷ [])) (needed (is_optional a) (is_given a.name)) in
          let P : List (Declared S) → Type 0 = λ xs. (a : Declared S) → Contains xs a → is_optional a ≡ false → is_given a.name ≡ true in
          iff_after (silent_each (missing place is_given) ds) (λ h. (for_some ds P).1 (λ a there. (one a).0 (h a there)), λ h a there. (one a).1 ((for_some ds P).0 h a there))

  pub arguments_distinct : FindsNoFault unique_argument_names_faults subject parts ↔ EachOf Given AreDistinct parts
  arguments_distinct = given_silent repeated_in AreDistinct (λ g. no_repeats_of (λ a. mention a.0) g.given)

  pub input_fields_distinct : FindsNoFault unique_input_field_names_faults subject parts ↔ EachOf ObjectOf (λ names. IsDistinct bytes_eq (map (λ n. n.item) names)) parts
  input_fields_distinct = one_kind (unique_input_field_names_faults subject) parts ObjectOf (λ names. IsDistinct bytes_eq (map (λ n. n.item) names)) (λ names. no_repeats_of mention names) others
    where
      others : (p : Part S C) → ((x : _) → p ≡ ObjectOf x → unique_input_field_names_faults subject p ≡ []) → unique_input_field_names_faults subject p ≡ []
      others (ObjectOf names) at = at names refl
      others _ at = refl
