-- The argument values of a field depend on places in their own places alone, and on the values of
-- the field's own variables.
use Rattle.std.proofs.Common.{◌≡◌, refl, sym, ◌∙◌, ap, Bool, true, false, ◌||◌, List, [], ◌∷◌, ◌++◌, map, Option, Some, None}
use Rattle.std.specs.Prelude.{if◌then◌else◌}
use Rattle.std.specs.List.{cons_option}
use Rattle.std.specs.Option.{option_map}
use Rattle.std.specs.Str.{bytes_eq}
use Rattle.std.proofs.lemmas.List.{map-append}
use Rattle.graphql_names.specs.Names.{Bytes}
use Rattle.graphql_values.specs.InputValues.{unplaced, unlocated}
use Rattle.graphql_values.specs.Variables.{names_of_variables}
use Rattle.graphql_values.specs.declared.input_value.InputValue.{InputValue}
use Rattle.graphql_values.proofs.UnlocatedVariables.{same_variables}
use Rattle.graphql_schema.specs.declared.meta.argument.Argument.{Argument as Declared}
use Rattle.graphql_tree.specs.Arguments.{Argument}
use Rattle.graphql_tree.specs.Unlocated.{unlocated_argument, without_place}
use Rattle.graphql_written_out.specs.Filled.{filled}
use Rattle.graphql_arguments.specs.ArgumentValues.{Given, NamedValue, argument_values}
use Rattle.graphql_arguments.specs.ArgumentValues.{declared_defaults, has_value, with_value}
use Rattle.graphql_arguments.specs.ArgumentValues.{with_values, written_values}
use Rattle.graphql_plain_tree.specs.PlainOperations.{variables_given}
use Rattle.graphql_plain_answers.specs.AgreeingValues.{AgreeOn, Values}
use Rattle.graphql_plain_answers.specs.WithoutPlaces.{unlocated_given}
use Rattle.graphql_plain_answers.proofs.FilledLiterals.{agree-left, agree-right, filled-alike}

module _ {S : Type 0} where
  one-alike : (x : Argument S) (a b : Option (InputValue S))
      → option_map unlocated a ≡ option_map unlocated b
      → (us vs : Given S) → unlocated_given us ≡ unlocated_given vs
      → unlocated_given (cons_option (option_map (λ v. (x.0.item, unplaced v)) a) us)
      ≡ unlocated_given
      (cons_option (option_map (λ v. (x.0.item, record { item = v; span = x.1.span })) b) vs)
  one-alike x None None same us vs rest = rest
  one-alike x None (Some b) same us vs rest = absurd (cc)
  one-alike x (Some a) None same us vs rest = absurd (cc)
  one-alike x (Some a) (Some b) same us vs rest =
      let is : unlocated a ≡ unlocated b = cc in
      λ i. (x.0.item, unplaced (is i)) ∷ rest i

  -- ---- values put behind others

  abbrev without : NamedValue S → NamedValue S
  without v = (v.0, without_place unlocated v.1)

  has-unlocated : (values : Given S) (name : Bytes)
      → has_value (unlocated_given values) name ≡ has_value values name
  has-unlocated [] name = refl
  has-unlocated (v ∷ values) name = ap (λ q. bytes_eq v.0 name || q) (has-unlocated values name)

  put-unlocated : (us : Given S) (v : NamedValue S)
      → unlocated_given (with_value us v) ≡ with_value (unlocated_given us) (without v)
  put-unlocated us v =
      either (has_value us v.0)
      ∙ ap (λ has. if has then unlocated_given us else unlocated_given us ++ without v ∷ [])
      (sym (has-unlocated us v.0))
    where
      either : (has : Bool) → unlocated_given (if has then us else us ++ v ∷ [])
          ≡ (if has then unlocated_given us else unlocated_given us ++ without v ∷ [])
      either true = refl
      either false = map-append without us (v ∷ [])

  all-unlocated : (us vs : Given S)
      → unlocated_given (with_values us vs) ≡ with_values (unlocated_given us) (unlocated_given vs)
  all-unlocated us [] = refl
  all-unlocated us (v ∷ vs) =
      all-unlocated (with_value us v) vs
      ∙ ap (λ ws. with_values ws (unlocated_given vs)) (put-unlocated us v)

  -- ---- argument values, by two ways to give variables their values

  module _ (given other : Values S) (declared : List (Declared S)) where
    written-alike : (xs : List (Argument S)) → AgreeOn given other (variables_given xs)
        → unlocated_given (written_values given (map unlocated_argument xs))
        ≡ unlocated_given (written_values other xs)
    written-alike [] agree = refl
    written-alike (x ∷ xs) agree =
        let names = names_of_variables x.1.item in
        let behind = variables_given xs in
        one-alike x (filled given (unlocated x.1.item)) (filled other x.1.item)
        (filled-alike given other x.1.item (agree-left given other names behind agree)) _ _
        (written-alike xs (agree-right given other names behind agree))

    pub values-unlocated : (xs : List (Argument S)) → AgreeOn given other (variables_given xs)
        → unlocated_given (argument_values given declared (map unlocated_argument xs))
        ≡ unlocated_given (argument_values other declared xs)
    values-unlocated xs agree =
        let us : Given S = written_values given (map unlocated_argument xs) in
        let vs : Given S = written_values other xs in
        let ds : Given S = declared_defaults declared in
        all-unlocated [] (us ++ ds)
        ∙ ap (with_values {S = S} [])
        (map-append without us ds
        ∙ ap (λ ws. ws ++ unlocated_given ds) (written-alike xs agree)
        ∙ sym (map-append without vs ds))
        ∙ sym (all-unlocated [] (vs ++ ds))

  variables-unlocated : (xs : List (Argument S))
      → variables_given (map unlocated_argument xs) ≡ variables_given xs
  variables-unlocated [] = refl
  variables-unlocated (x ∷ xs) = λ i. same_variables x.1.item i ++ variables-unlocated xs i

  -- arguments that are the same but for places have the same values but for places
  pub values-alike : (given other : Values S) (declared : List (Declared S))
      (xs ys : List (Argument S))
      → map unlocated_argument xs ≡ map unlocated_argument ys
      → AgreeOn given other (variables_given xs)
      → unlocated_given (argument_values given declared xs)
      ≡ unlocated_given (argument_values other declared ys)
  values-alike given other declared xs ys same agree =
      sym (values-unlocated other given declared xs (λ name i. sym (agree name i)))
      ∙ ap (λ zs. unlocated_given (argument_values other declared zs)) same
      ∙ values-unlocated other other declared ys (λ name i. refl)
