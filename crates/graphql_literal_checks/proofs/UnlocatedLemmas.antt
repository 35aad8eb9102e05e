-- A value conforms exactly where it does without its places.
use Rattle.std.proofs.Common.{◌≡◌, ◌↔◌, refl, sym, ◌∙◌, ap, subst, suc, arith, ℕ, true, cond, List, [], ◌∷◌, map, Option, Some}
use Rattle.std.specs.Cmp.{IsEquivalence}
use Rattle.std.proofs.lemmas.List.{length-map}
use Rattle.std.proofs.lemmas.Simd.{map-map}
use Rattle.graphql_values.specs.declared.input_value.InputValue.{InputValue, out-InputValue}
use Rattle.graphql_values.specs.declared.input_value.InputValue.TheOpen.{InputValue-F}
use Rattle.graphql_values.specs.declared.input_value.InputValue.TheVariants as value
use Rattle.graphql_values.specs.InputValues.{Placed, Pair, unlocated, unlocated_layer}
use Rattle.graphql_values.specs.SameValue.{SameValue}
use Rattle.graphql_values.specs.Variables.{IsConstant}
use Rattle.graphql_values.proofs.InputValueEquations.{fold_null, fold_scalar, fold_enum, fold_variable, unlocated_list, unlocated_object}
use Rattle.graphql_values.proofs.InputValueInduction.{value_ind, HoldsOfItems, HoldsOfPairs}
use Rattle.graphql_values.proofs.SamePlaces.{unlocated_item, unlocated_pair, same_unlocated}
use Rattle.graphql_values.proofs.SameValueLaws.{either_way}
use Rattle.graphql_values.proofs.UnlocatedVariables.{same_constant}
use Rattle.graphql_names.specs.declared.type_modifier.TypeModifier.{TypeModifier}
use Rattle.graphql_schema.specs.Scalars.{Scalars}
use Rattle.graphql_schema.specs.declared.meta.argument.Argument.{Argument}
use Rattle.graphql_schema.specs.declared.meta.input_object.InputObjectMeta.{InputObjectMeta}
use Rattle.graphql_schema.specs.declared.meta.MetaType.{MetaType}
use Rattle.graphql_schema.specs.declared.meta.MetaType.TheVariants as meta
use Rattle.graphql_schema.specs.Types.{TypeOf}
use Rattle.graphql_schema.specs.Lookups.{type_named}
use Rattle.graphql_literal_checks.specs.declared.source.Source.{Source}
use Rattle.graphql_literal_checks.specs.InputTypes.{allows, is_complete, is_one_given, is_value, may_stand_alone, none_missing}
use Rattle.graphql_literal_checks.specs.Conforms.{Conforms, null, variable, scalar, enum, sent_enum, list, object, EachConforms, no_items, more_items, FieldsConform, no_fields, more_fields}
use Rattle.graphql_literal_checks.specs.Judged.{ListFits, ObjectFits}
use Rattle.graphql_literal_checks.specs.Laws.{ConformsWithoutPlaces}
use Rattle.graphql_literal_checks.proofs.ConformsLemmas.{first_field, first_item, list_of}

-- of values that are the same, checks accept all or none
abbrev Respects : {S C : Type 0} → Scalars S C → Type 0
Respects {S} {C} scalars = (c : C) (a b : InputValue S) → SameValue S scalars.eq a b → scalars.accepts c a → scalars.accepts c b

module _ {S C : Type 0} (scalars : Scalars S C) (types : List (MetaType S C)) (source : Source) where
  abbrev Fits : TypeOf → InputValue S → Type 0
  Fits = Conforms scalars types source

  abbrev EachFits : TypeOf → List (Placed (InputValue S)) → Type 0
  EachFits = EachConforms scalars types source

  abbrev FieldsFit : List (Argument S) → List (Pair (InputValue S)) → Type 0
  FieldsFit = FieldsConform scalars types source

  -- ---- lists and objects that conform

  list_fits_as : (t : TypeOf) (v : InputValue S) (xs : List (Placed (InputValue S))) → v ≡ value.List xs
      → ListFits scalars types source t xs → Fits t v
  list_fits_as t v xs is h = subst (Fits t) (sym is) (list t h.0 h.1 xs h.2 h.3 h.4)

  -- an object of these fields conforms: the type is an input object
  abbrev FitsAsObject : TypeOf → List (Pair (InputValue S)) → Type 0
  FitsAsObject t ps =
      (m : InputObjectMeta S C) × (may_stand_alone t ≡ true) × (type_named types t.name ≡ Some (meta.InputObject m))
      × ObjectFits scalars types source m ps

  abbrev IfObject : TypeOf → InputValue-F S (InputValue S) → Type 0
  IfObject t (InputValue-F.Object ps) = FitsAsObject t ps
  IfObject t _ = Unit {0}

  if_object : (t : TypeOf) (v : InputValue S) → Fits t v → IfObject t (out-InputValue S v)
  if_object _ _ (null t h) = subst (IfObject t) (sym value.outs-Null) tt
  if_object _ _ (variable t name) = subst (IfObject t) (sym (value.outs-Variable name)) tt
  if_object _ _ (scalar t m s alone there accepted) = subst (IfObject t) (sym (value.outs-Scalar s)) tt
  if_object _ _ (enum t m name alone there declared accepted) = subst (IfObject t) (sym (value.outs-Enum name)) tt
  if_object _ _ (sent_enum t m s name sent text alone there declared accepted) =
      subst (IfObject t) (sym (value.outs-Scalar s)) tt
  if_object _ _ (list t size within xs is allowed each) = subst (IfObject t) (sym (value.outs-List xs)) tt
  if_object _ _ (object t m ps alone there fields whole) =
      subst (IfObject t) (sym (value.outs-Object ps)) (m, alone, there, (fields, whole))

  fits_as_object : (t : TypeOf) (v : InputValue S) (ps : List (Pair (InputValue S))) → v ≡ value.Object ps
      → Fits t v → FitsAsObject t ps
  fits_as_object t v ps is h = subst (IfObject t) (ap (out-InputValue S) is ∙ value.outs-Object ps) (if_object t v h)

  object_fits_as : (t : TypeOf) (v : InputValue S) (ps : List (Pair (InputValue S))) → v ≡ value.Object ps
      → FitsAsObject t ps → Fits t v
  object_fits_as t v ps is h = subst (Fits t) (sym is) (object t h.0 ps h.1 h.2 h.3.0 h.3.1)

  -- ---- with and without places

  abbrev FitsAlike : InputValue S → Type 0
  FitsAlike v = (t : TypeOf) → Fits t v ↔ Fits t (unlocated v)

  leaf_alike : (v : InputValue S) → unlocated v ≡ v → FitsAlike v
  leaf_alike v is t = (subst (Fits t) (sym is), subst (Fits t) is)

  -- 3.11 List
  each_alike : (xs : List (Placed (InputValue S))) → HoldsOfItems FitsAlike xs
      → (t : TypeOf) → EachFits t xs ↔ EachFits t (map unlocated_item xs)
  each_alike [] each t = (λ h. no_items t, λ h. no_items t)
  each_alike (x ∷ xs) each t =
      let y = unlocated_item x in
      let ys = map unlocated_item xs in
      let first = each 0 x (omega arith) t in
      let rest = each_alike xs (λ k d within. each (suc k) d (omega arith)) t in (
        λ h. let fits = first_item scalars types source t (x ∷ xs) h x xs refl in
            more_items t y ys (first.0 fits.0) (rest.0 fits.1),
        λ h. let fits = first_item scalars types source t (y ∷ ys) h y ys refl in
            more_items t x xs (first.1 fits.0) (rest.1 fits.1),
      )

  list_alike : (xs : List (Placed (InputValue S))) → HoldsOfItems FitsAlike xs → FitsAlike (value.List xs)
  list_alike xs each t =
      let ys = map unlocated_item xs in
      let u = unlocated (value.List xs) in
      let as_long = λ (size : Option ℕ). ap (allows size) (length-map xs unlocated_item) in
      let within : List TypeModifier → TypeOf = λ modifiers. record { name = t.name; modifiers = modifiers } in (
        λ h. let fits = list_of scalars types source t (value.List xs) xs refl h in
            list_fits_as t u ys (unlocated_list xs)
            (fits.0, fits.1, fits.2, as_long fits.0 ∙ fits.3, (each_alike xs each (within fits.1)).0 fits.4),
        λ h. let fits = list_of scalars types source t u ys (unlocated_list xs) h in
            list_fits_as t (value.List xs) xs refl
            (fits.0, fits.1, fits.2, sym (as_long fits.0) ∙ fits.3, (each_alike xs each (within fits.1)).1 fits.4),
      )

  -- 3.10 Input Objects
  fields_alike : (ps : List (Pair (InputValue S))) → HoldsOfPairs FitsAlike ps
      → (declared : List (Argument S)) → FieldsFit declared ps ↔ FieldsFit declared (map unlocated_pair ps)
  fields_alike [] each declared = (λ h. no_fields declared, λ h. no_fields declared)
  fields_alike (p ∷ ps) each declared =
      let q = unlocated_pair p in
      let qs = map unlocated_pair ps in
      let first = each 0 p (omega arith) in
      let rest = fields_alike ps (λ k d within. each (suc k) d (omega arith)) declared in (
        λ h. let fits = first_field scalars types source declared (p ∷ ps) h p ps refl in
            let a = fits.0.0 in
            more_fields declared a q qs fits.0.1 ((first a.arg_type).0 fits.0.2) (rest.0 fits.1),
        λ h. let fits = first_field scalars types source declared (q ∷ qs) h q qs refl in
            let a = fits.0.0 in
            more_fields declared a p ps fits.0.1 ((first a.arg_type).1 fits.0.2) (rest.1 fits.1),
      )

  value_given_alike : (v : InputValue S) → is_value (unlocated v) ≡ is_value v
  value_given_alike = value_ind (λ v. is_value (unlocated v) ≡ is_value v)
      (ap is_value (fold_null unlocated_layer))
      (λ s. ap is_value (fold_scalar unlocated_layer s))
      (λ n. ap is_value (fold_enum unlocated_layer n))
      (λ n. ap is_value (fold_variable unlocated_layer n))
      (λ xs each. ap is_value (unlocated_list xs))
      (λ ps each. ap is_value (unlocated_object ps))

  one_given_alike : (ps : List (Pair (InputValue S))) → is_one_given (map unlocated_pair ps) ≡ is_one_given ps
  one_given_alike [] = refl
  one_given_alike (p ∷ []) = value_given_alike p.1.item
  one_given_alike (p ∷ q ∷ ps) = refl

  complete_alike : (m : InputObjectMeta S C) (ps : List (Pair (InputValue S)))
      → is_complete m (map unlocated_pair ps) ≡ is_complete m ps
  complete_alike m ps =
      ap (λ names. cond m.exactly_one (is_one_given (map unlocated_pair ps)) (none_missing m.input_fields names))
      (map-map (λ p. p.0.item) unlocated_pair ps)
      ∙ ap (λ b. cond m.exactly_one b (none_missing m.input_fields (map (λ p. p.0.item) ps))) (one_given_alike ps)

  module _ (laws : IsEquivalence scalars.eq) (respects : Respects scalars) where
    -- the check accepts the value where no variable stands in it
    abbrev Passes : C → InputValue S → Type 0
    Passes check v = IsConstant v → scalars.accepts check v

    passes_alike : (check : C) (v : InputValue S) → Passes check v ↔ Passes check (unlocated v)
    passes_alike check v =
        let u = unlocated v in
        let same = same_unlocated scalars.eq laws v in (
          λ h constant. respects check v u same (h ((same_constant v).1 constant)),
          λ h constant. respects check u v (either_way scalars.eq laws v u same) (h ((same_constant v).0 constant)),
        )

    object_alike : (ps : List (Pair (InputValue S))) → HoldsOfPairs FitsAlike ps → FitsAlike (value.Object ps)
    object_alike ps each t =
        let v : InputValue S = value.Object ps in
        let u = unlocated v in
        let qs = map unlocated_pair ps in
        let passes = λ (m : InputObjectMeta S C).
        subst (λ w. Passes m.check v ↔ Passes m.check w) (unlocated_object ps) (passes_alike m.check v) in
        let fields = fields_alike ps each in (
          λ h. let fits = fits_as_object t v ps refl h in
              let m = fits.0 in
              let complete = complete_alike m ps ∙ fits.3.1.0 in
              object_fits_as t u qs (unlocated_object ps)
              (m, fits.1, fits.2, ((fields m.input_fields).0 fits.3.0, (complete, (passes m).0 fits.3.1.1))),
          λ h. let fits = fits_as_object t u qs (unlocated_object ps) h in
              let m = fits.0 in
              let complete = sym (complete_alike m ps) ∙ fits.3.1.0 in
              object_fits_as t v ps refl
              (m, fits.1, fits.2, ((fields m.input_fields).1 fits.3.0, (complete, (passes m).1 fits.3.1.1))),
        )

    value_alike : (v : InputValue S) → FitsAlike v
    value_alike = value_ind FitsAlike
        (leaf_alike value.Null (fold_null unlocated_layer))
        (λ s. leaf_alike (value.Scalar s) (fold_scalar unlocated_layer s))
        (λ n. leaf_alike (value.Enum n) (fold_enum unlocated_layer n))
        (λ n. leaf_alike (value.Variable n) (fold_variable unlocated_layer n))
        list_alike
        object_alike

pub conforms_without_places : {S C : Type 0} (scalars : Scalars S C) → IsEquivalence scalars.eq
    → Respects scalars → ConformsWithoutPlaces scalars
conforms_without_places scalars laws respects types source t v =
    value_alike scalars types source laws respects v t
