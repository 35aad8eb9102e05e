-- Argument values that are the same but for places are answered the same, by a resolver and by the
-- schema.
use Rattle.std.proofs.Common.{◌≡◌, refl, sym, ◌∙◌, ap, Bool, true, false, List, [], ◌∷◌, Option, Some, None, Ok, is_some, cond, codes}
use Rattle.std.specs.Cmp.{IsEquivalence}
use Rattle.std.specs.List.{find}
use Rattle.std.specs.Option.{option_and_then, option_map, option_map_or}
use Rattle.std.specs.Prelude.{◌&&◌}
use Rattle.std.specs.Str.{bytes_eq}
use Rattle.graphql_names.specs.Names.{Bytes}
use Rattle.graphql_scalars.specs.ScalarAnswers.{ScalarAnswer}
use Rattle.graphql_values.specs.InputValues.{unlocated}
use Rattle.graphql_values.specs.declared.input_value.InputValue.{InputValue}
use Rattle.graphql_values.proofs.SamePlaces.{same_without_places}
use Rattle.graphql_tree.specs.Unlocated.{without_place}
use Rattle.graphql_arguments.specs.ArgumentValues.{Given, NamedValue, value_named}
use Rattle.graphql_arguments.specs.SameArguments.{SameInOrder}
use Rattle.graphql_arguments.proofs.SameOrders.{in-order-same}
use Rattle.graphql_schema.specs.declared.meta.MetaType.{MetaType}
use Rattle.graphql_schema.specs.declared.schema.SchemaType.{SchemaType}
use Rattle.graphql_field_results.specs.declared.resolved.Resolved.TheVariants as resolved
use Rattle.graphql_introspection.specs.Answers.{part_answer, type_found}
use Rattle.graphql_introspection.specs.Given.{includes_deprecated, is_true, name_asked, text_layer, text_of, truth_layer}
use Rattle.graphql_introspection.specs.TypeAnswers.{Unwrapped, outermost_off, of_apart}
use Rattle.graphql_introspection.specs.declared.part.SchemaPart.{SchemaPart}
use Rattle.graphql_introspection.specs.declared.part.SchemaPart.TheVariants as part
use Rattle.graphql_execution_walk.specs.Asked.{Resolves, asked_answer, map_answer, map_nodes, or_asked, own_answer, told_of_itself}
use Rattle.graphql_execution_walk.specs.declared.asked.Asked.{Asked}
use Rattle.graphql_execution_walk.specs.declared.asked.Asked.TheVariants as asked
use Rattle.graphql_mutation.specs.Mutations.{Changes, told_first}
use Rattle.graphql_plain_answers.specs.Lawful.{IsLawful}
use Rattle.graphql_plain_answers.specs.WithoutPlaces.{unlocated_given}
use Rattle.graphql_plain_answers.proofs.OuterLayers.{by-image, layer-alike}

first-of : {A : Type 0} (x y : A) (xs ys : List A) → x ∷ xs ≡ y ∷ ys → x ≡ y
first-of x y xs ys same = cc

rest-of : {A : Type 0} (x y : A) (xs ys : List A) → x ∷ xs ≡ y ∷ ys → xs ≡ ys
rest-of x y xs ys same = cc

module _ {S : Type 0} where
  -- ---- they are the same in one order

  module _ (eq : S → S → Bool) (laws : IsEquivalence eq) where
    pub same-in-order : (us vs : Given S) → unlocated_given us ≡ unlocated_given vs
        → SameInOrder eq us vs
    same-in-order [] [] same = tt
    same-in-order [] (v ∷ vs) same = absurd (cc)
    same-in-order (u ∷ us) [] same = absurd (cc)
    same-in-order (u ∷ us) (v ∷ vs) same =
        let here : NamedValue S = (u.0, without_place unlocated u.1) in
        let there : NamedValue S = (v.0, without_place unlocated v.1) in
        let first : here ≡ there =
        first-of here there (unlocated_given us) (unlocated_given vs) same in (
          ap (λ (p : NamedValue S). p.0) first,
          same_without_places eq laws u.1.item v.1.item (ap (λ (p : NamedValue S). p.1.item) first),
          same-in-order us vs (rest-of here there (unlocated_given us) (unlocated_given vs) same),
        )

  -- ---- what introspection reads of them

  one-named : (is : Bool) (v : NamedValue S) (o p : Option (NamedValue S))
      → option_map (λ (w : NamedValue S). w.1.item) o
      ≡ option_map unlocated (option_map (λ (w : NamedValue S). w.1.item) p)
      → option_map (λ (w : NamedValue S). w.1.item) (cond is (Some (v.0, without_place unlocated v.1)) o)
      ≡ option_map unlocated (option_map (λ (w : NamedValue S). w.1.item) (cond is (Some v) p))
  one-named true v o p same = refl
  one-named false v o p same = same

  value-named-unlocated : (name : Bytes) (values : Given S)
      → value_named (unlocated_given values) name ≡ option_map unlocated (value_named values name)
  value-named-unlocated name [] = refl
  value-named-unlocated name (v ∷ values) =
      one-named (bytes_eq v.0 name) v
      (find (λ (w : NamedValue S). bytes_eq w.0 name) (unlocated_given values))
      (find (λ (w : NamedValue S). bytes_eq w.0 name) values) (value-named-unlocated name values)

  module _ (answer : S → ScalarAnswer) (a b : Given S)
      (same : unlocated_given a ≡ unlocated_given b) where
    named-alike : (name : Bytes)
        → option_map unlocated (value_named a name) ≡ option_map unlocated (value_named b name)
    named-alike name =
        sym (value-named-unlocated name a) ∙ ap (λ values. value_named values name) same
        ∙ value-named-unlocated name b

    is-true-alike : (o : Option (InputValue S))
        → option_map_or (is_true answer) (option_map unlocated o) false
        ≡ option_map_or (is_true answer) o false
    is-true-alike None = refl
    is-true-alike (Some v) = layer-alike (truth_layer answer) false (λ xs. refl) (λ ps. refl) v

    pub deprecated-alike : includes_deprecated answer a ≡ includes_deprecated answer b
    deprecated-alike =
        by-image (option_map unlocated) (λ o. option_map_or (is_true answer) o false) is-true-alike
        (value_named a (codes "includeDeprecated")) (value_named b (codes "includeDeprecated"))
        (named-alike (codes "includeDeprecated"))

    text-alike : (o : Option (InputValue S))
        → option_and_then (text_of answer) (option_map unlocated o)
        ≡ option_and_then (text_of answer) o
    text-alike None = refl
    text-alike (Some v) = layer-alike (text_layer answer) None (λ xs. refl) (λ ps. refl) v

    pub name-alike : name_asked answer a ≡ name_asked answer b
    name-alike =
        by-image (option_map unlocated) (option_and_then (text_of answer)) text-alike
        (value_named a (codes "name")) (value_named b (codes "name")) (named-alike (codes "name"))

-- ---- what is answered

module _ {S C : Type 0} (of_text : Bytes → S) (of_bool : Bool → S) (answer : S → ScalarAnswer)
    (schema : SchemaType S C)
    (a b : Given S) (same : unlocated_given a ≡ unlocated_given b) where
  told-alike : (object name : Bytes)
      → told_of_itself of_text answer schema object name a
      ≡ told_of_itself of_text answer schema object name b
  told-alike object name =
      λ i. cond (bytes_eq name (codes "__typename")) (Some (resolved.Scalar (of_text object)))
      (cond (bytes_eq name (codes "__schema") && bytes_eq object schema.query)
      (Some (resolved.Node part.Schema))
      (cond (bytes_eq name (codes "__type") && bytes_eq object schema.query)
      (Some (type_found schema.types (name-alike answer a b same i))) None))

  apart-alike : (m : MetaType S C) (wraps : Option Unwrapped) (field : Bytes)
      → of_apart of_text of_bool answer schema.types m wraps field a
      ≡ of_apart of_text of_bool answer schema.types m wraps field b
  apart-alike m None field = rw (deprecated-alike answer a b same) refl
  apart-alike m (Some wraps) field = refl

  part-alike : (p : SchemaPart S C) (field : Bytes)
      → part_answer of_text of_bool answer schema p field a
      ≡ part_answer of_text of_bool answer schema p field b
  part-alike part.Schema field = refl
  part-alike (part.Type m wraps) field = apart-alike m (outermost_off wraps) field
  part-alike (part.Field f) field = refl
  part-alike (part.InputValue v) field = refl
  part-alike (part.EnumValue v) field = refl
  part-alike (part.Directive d) field = refl

  module _ {N X : Type 0} (eq : S → S → Bool) (laws : IsEquivalence eq)
      (resolves : X → Resolves S N) (changes : Changes S N X)
      (lawful : IsLawful eq resolves changes) (c : X) where
    own-alike : (node : Asked S N C) (name : Bytes)
        → own_answer of_text of_bool answer schema (resolves c) node name a
        ≡ own_answer of_text of_bool answer schema (resolves c) node name b
    own-alike (asked.Own n) name =
        ap (map_answer asked.Own)
        (lawful.respects c n name a b (in-order-same eq a b (same-in-order eq laws a b same)))
    own-alike (asked.Part p) name = ap (λ r. Ok (map_nodes asked.Part r)) (part-alike p name)

    pub asked-alike : (node : Asked S N C) (object name : Bytes)
        → asked_answer of_text of_bool answer schema (resolves c) node object name a
        ≡ asked_answer of_text of_bool answer schema (resolves c) node object name b
    asked-alike node object name = λ i. or_asked (told-alike object name i) (own-alike node name i)

    pub step-alike : (object name : Bytes)
        → told_first {N = N} of_text answer schema changes c object name a
        ≡ told_first of_text answer schema changes c object name b
    step-alike object name =
        let root = lawful.respects_root c name a b (same-in-order eq laws a b same) in
        λ i. record {
          answer = or_asked (told-alike object name i) (map_answer asked.Own (root.0 i));
          after = cond (is_some (told-alike object name i)) c (root.1 i);
        }
