-- Argument values that are the same under each name are answered the same, by a resolver and by the schema.
use Rattle.std.proofs.Common.{◌≡◌, refl, sym, ◌∙◌, ap, Bool, true, false, List, Option, Some, None, Ok, cond, codes}
use Rattle.std.specs.Option.{option_and_then, option_map_or}
use Rattle.std.specs.Prelude.{◌&&◌}
use Rattle.std.specs.Str.{bytes_eq}
use Rattle.graphql_names.specs.Names.{Bytes}
use Rattle.graphql_scalars.specs.ScalarAnswers.{ScalarAnswer, as_bool, as_text}
use Rattle.graphql_values.specs.InputValues.{Placed, Pair}
use Rattle.graphql_values.specs.SameValue.{SameValue, same_null, same_scalar, same_enum, same_variable, same_list}
use Rattle.graphql_values.specs.SameValue.{same_object}
use Rattle.graphql_values.specs.declared.input_value.InputValue.{InputValue, out-InputValue}
use Rattle.graphql_values.specs.declared.input_value.InputValue.TheOpen.{InputValue-F}
use Rattle.graphql_values.specs.declared.input_value.InputValue.TheVariants as value
use Rattle.graphql_arguments.specs.ArgumentValues.{Given, value_named}
use Rattle.graphql_arguments.specs.SameArguments.{SameArguments, SameGiven}
use Rattle.graphql_schema.specs.declared.meta.MetaType.{MetaType}
use Rattle.graphql_schema.specs.declared.schema.SchemaType.{SchemaType}
use Rattle.graphql_field_results.specs.declared.resolved.Resolved.TheVariants as resolved
use Rattle.graphql_introspection.specs.Answers.{part_answer, type_found}
use Rattle.graphql_introspection.specs.Given.{includes_deprecated, is_true, name_asked, or_false, text_layer, text_of}
use Rattle.graphql_introspection.specs.Given.{truth_layer}
use Rattle.graphql_introspection.specs.TypeAnswers.{Unwrapped, outermost_off, of_apart}
use Rattle.graphql_introspection.specs.declared.part.SchemaPart.{SchemaPart}
use Rattle.graphql_introspection.specs.declared.part.SchemaPart.TheVariants as part
use Rattle.graphql_execution_walk.specs.Asked.{Resolves, asked_answer, map_answer, map_nodes, or_asked, own_answer}
use Rattle.graphql_execution_walk.specs.Asked.{told_of_itself}
use Rattle.graphql_execution_walk.specs.declared.asked.Asked.{Asked}
use Rattle.graphql_execution_walk.specs.declared.asked.Asked.TheVariants as asked

module _ {S : Type 0} (eq : S → S → Bool) where
  -- what is read of a value's outermost layer, where scalars that are the same are read the same
  module _ {A : Type 0} (layer : InputValue-F S (InputValue S) → A) (rest : A)
      (at-scalar : (a b : S) → eq a b ≡ true → layer (InputValue-F.Scalar a) ≡ layer (InputValue-F.Scalar b))
      (at-list : (xs : List (Placed (InputValue S))) → layer (InputValue-F.List xs) ≡ rest)
      (at-object : (ps : List (Pair (InputValue S))) → layer (InputValue-F.Object ps) ≡ rest) where
    layer-same : (v w : InputValue S) → SameValue S eq v w → layer (out-InputValue S v) ≡ layer (out-InputValue S w)
    layer-same _ _ same_null = refl
    layer-same _ _ (same_scalar a b h) =
        ap layer (value.outs-Scalar a) ∙ at-scalar a b h ∙ sym (ap layer (value.outs-Scalar b))
    layer-same _ _ (same_enum n) = refl
    layer-same _ _ (same_variable n) = refl
    layer-same _ _ (same_list xs ys h) =
        ap layer (value.outs-List xs) ∙ at-list xs ∙ sym (at-list ys) ∙ sym (ap layer (value.outs-List ys))
    layer-same _ _ (same_object ps qs h) =
        ap layer (value.outs-Object ps) ∙ at-object ps ∙ sym (at-object qs) ∙ sym (ap layer (value.outs-Object qs))

  module _ (answer : S → ScalarAnswer) (answers_alike : (s t : S) → eq s t ≡ true → answer s ≡ answer t) where
    truth-same : (o p : Option (InputValue S)) → SameGiven eq o p
        → option_map_or (is_true answer) o false ≡ option_map_or (is_true answer) p false
    truth-same None None s = refl
    truth-same None (Some w) s = absurd s
    truth-same (Some v) None s = absurd s
    truth-same (Some v) (Some w) s =
        layer-same (truth_layer answer) false (λ a b h. ap (λ r. or_false (as_bool r)) (answers_alike a b h))
        (λ xs. refl) (λ ps. refl) v w s

    text-same : (o p : Option (InputValue S)) → SameGiven eq o p
        → option_and_then (text_of answer) o ≡ option_and_then (text_of answer) p
    text-same None None s = refl
    text-same None (Some w) s = absurd s
    text-same (Some v) None s = absurd s
    text-same (Some v) (Some w) s =
        layer-same (text_layer answer) None (λ a b h. ap as_text (answers_alike a b h)) (λ xs. refl) (λ ps. refl) v w s

    -- what introspection reads of arguments
    module _ (a b : Given S) (same : SameArguments eq a b) where
      pub deprecated-same : includes_deprecated answer a ≡ includes_deprecated answer b
      deprecated-same =
          truth-same (value_named a (codes "includeDeprecated")) (value_named b (codes "includeDeprecated"))
          (same (codes "includeDeprecated"))

      pub name-same : name_asked answer a ≡ name_asked answer b
      name-same = text-same (value_named a (codes "name")) (value_named b (codes "name")) (same (codes "name"))

module _ {S C : Type 0} (of_text : Bytes → S) (of_bool : Bool → S) (answer : S → ScalarAnswer) (eq : S → S → Bool)
    (answers_alike : (s t : S) → eq s t ≡ true → answer s ≡ answer t)
    (schema : SchemaType S C) (a b : Given S) (same : SameArguments eq a b) where
  told-same : (object name : Bytes)
      → told_of_itself of_text answer schema object name a ≡ told_of_itself of_text answer schema object name b
  told-same object name =
      λ i. cond (bytes_eq name (codes "__typename")) (Some (resolved.Scalar (of_text object)))
      (cond (bytes_eq name (codes "__schema") && bytes_eq object schema.query)
      (Some (resolved.Node part.Schema))
      (cond (bytes_eq name (codes "__type") && bytes_eq object schema.query)
      (Some (type_found schema.types (name-same eq answer answers_alike a b same i))) None))

  apart-same : (m : MetaType S C) (wraps : Option Unwrapped) (field : Bytes)
      → of_apart of_text of_bool answer schema.types m wraps field a ≡ of_apart of_text of_bool answer schema.types m wraps field b
  apart-same m None field = rw (deprecated-same eq answer answers_alike a b same) refl
  apart-same m (Some wraps) field = refl

  part-same : (p : SchemaPart S C) (field : Bytes)
      → part_answer of_text of_bool answer schema p field a ≡ part_answer of_text of_bool answer schema p field b
  part-same part.Schema field = refl
  part-same (part.Type m wraps) field = apart-same m (outermost_off wraps) field
  part-same (part.Field f) field = refl
  part-same (part.InputValue v) field = refl
  part-same (part.EnumValue v) field = refl
  part-same (part.Directive d) field = refl

  module _ {N : Type 0} (resolves : Resolves S N)
      (respects : (node : N) (name : Bytes) → resolves node name a ≡ resolves node name b) where
    own-same : (node : Asked S N C) (name : Bytes)
        → own_answer of_text of_bool answer schema resolves node name a
        ≡ own_answer of_text of_bool answer schema resolves node name b
    own-same (asked.Own n) name = ap (map_answer asked.Own) (respects n name)
    own-same (asked.Part p) name = ap (λ r. Ok (map_nodes asked.Part r)) (part-same p name)

    pub asked-same : (node : Asked S N C) (object name : Bytes)
        → asked_answer of_text of_bool answer schema resolves node object name a
        ≡ asked_answer of_text of_bool answer schema resolves node object name b
    asked-same node object name = λ i. or_asked (told-same object name i) (own-same node name i)
