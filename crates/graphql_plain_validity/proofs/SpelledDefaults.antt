-- In a document that tokens spell no variable stands in a default.
use Rattle.std.proofs.Common.{◌≡◌, refl, sym, ◌∙◌, subst, ℕ, Bool, true, List, [], ◌∷◌, ◌++◌, Option, Some, Result, inl, inr}
use Rattle.std.specs.List.{All, flat_map}
use Rattle.std.proofs.lemmas.Bool.{false≢true}
use Rattle.std.proofs.lemmas.Grind.{flat_map-append}
use Rattle.std.proofs.lemmas.List.Elements.{Contains-append_cases}
use Rattle.std.proofs.lemmas.Option.{none-some, same_Some}
use Rattle.graphql_text.specs.declared.token.ScalarToken.{ScalarToken}
use Rattle.graphql_text.specs.declared.parse_error.ParseError.{ParseError}
use Rattle.graphql_values.specs.InputValues as values
use Rattle.graphql_values.specs.Variables.{IsConstant, names_of_variables as variables_of, variables_layer}
use Rattle.graphql_values.specs.declared.input_value.InputValue.{InputValue}
use Rattle.graphql_values.proofs.InputValueEquations.{fold_null, fold_scalar, fold_enum}
use Rattle.graphql_values.proofs.VariableLaws.{none_is_listed}
use Rattle.graphql_values.proofs.VariableLemmas.{variables_in_list, variables_in_object}
use Rattle.graphql_grammar.specs.Input.{At, Located}
use Rattle.graphql_grammar.specs.Relations.{AllFrom, none_more, one_more, OptionOf, absent, present, Rel, SomeOf}
use Rattle.graphql_tree.specs.Documents.{variables_in}
use Rattle.graphql_tree.specs.Variables.{Variable}
use Rattle.graphql_tree.specs.declared.document.Definition.{Definition}
use Rattle.graphql_tree.specs.declared.document.Definition.TheVariants as definition
use Rattle.graphql_tree.specs.declared.document.Operation.{Operation}
use Rattle.graphql_tree.specs.declared.variable.VariableDefinitions.{VariableDefinitions}
use Rattle.graphql_value_syntax.specs.Directives.{DefaultOf, VariableDefinitionOf, VariableDefinitionsOf}
use Rattle.graphql_value_syntax.specs.Values.{ValueOf, of_true, of_false, of_null, of_enum, of_scalar, of_variable, of_list, of_object, ItemsOf, no_items, more_items, FieldsOf, no_fields, more_fields}
use Rattle.graphql_language.specs.Documents.{DocumentOf, DefinitionOf, OperationOf}
use Rattle.graphql_rules_document.proofs.ListItems.{all-from, all-of, nothing-in, only-one}
use Rattle.graphql_plain_validity.specs.VariableLaws.{DefaultsAreConstant}

-- what holds of each tree that some tokens spell holds of each of many
module _ {A : Type 0} (R : Rel A) (Q : A → Type 0)
    (each : (us : List Located) (x : A) → R us x → Q x) where
  more-spelled : (found : List A) (us : List Located) (xs : List A) → All Q found
      → AllFrom R found us xs → All Q xs
  more-spelled found _ _ h none_more = h
  more-spelled found _ _ h (one_more vs us xs x d e) =
      let before = more-spelled found vs xs h d in
      all-from Q (xs ++ x ∷ [])
      (λ y i. elim
      (Contains-append_cases xs (x ∷ []) y i) [
        | inl j ↦ all-of Q xs before y j
        | inr j ↦
            subst Q (only-one x y j) (each us x e)
      ])

  some-spelled : (us : List Located) (xs : List A) → SomeOf R us xs → All Q xs
  some-spelled us xs h =
      more-spelled (h.part ∷ []) h.back xs
      (all-from Q (h.part ∷ [])
      (λ y i. subst Q (only-one h.part y i) (each h.front h.part h.begins))) h.ends

module _ {S : Type 0} (reads : ScalarToken → Result S ParseError) (of_bool : Bool → S) where
  mutual
    value-constant : {us : List Located} {x : At (InputValue S)} → ValueOf S reads of_bool true us x
        → variables_of x.item ≡ []
    value-constant (of_true a k) = fold_scalar variables_layer (of_bool true)
    value-constant (of_false a k) = fold_scalar variables_layer _
    value-constant (of_null a k) = fold_null variables_layer
    value-constant (of_enum a n is k) = fold_enum variables_layer n
    value-constant (of_scalar a token s is r) = fold_scalar variables_layer s
    value-constant (of_variable a b n c k is) = absurd (false≢true (sym c))
    value-constant (of_list a b ts xs k d l) = variables_in_list xs ∙ items-constant d
    value-constant (of_object a b ts ps k d l) = variables_in_object ps ∙ fields-constant d

    items-constant : {us : List Located} {xs : List (At (InputValue S))}
        → ItemsOf S reads of_bool true us xs
        → flat_map (λ (x : values.Placed (InputValue S)). variables_of x.item) xs ≡ []
    items-constant no_items = refl
    items-constant (more_items ts us xs x d e) =
        flat_map-append (λ (x : values.Placed (InputValue S)). variables_of x.item) xs (x ∷ [])
        ∙ (λ i. items-constant d i ++ (value-constant e i ++ []))

    fields-constant : {us : List Located} {ps : List (At (List ℕ) × At (InputValue S))}
        → FieldsOf S reads of_bool true us ps
        → flat_map (λ (p : values.Pair (InputValue S)). variables_of p.1.item) ps ≡ []
    fields-constant no_fields = refl
    fields-constant (more_fields ts us ps a b n x d is k e) =
        flat_map-append (λ (p : values.Pair (InputValue S)). variables_of p.1.item) ps (_ ∷ [])
        ∙ (λ i. fields-constant d i ++ (value-constant e i ++ []))

  -- ---- of variables

  abbrev IsConstantDefault : Option (At (InputValue S)) → Type 0
  IsConstantDefault o = (x : At (InputValue S)) → o ≡ Some x → IsConstant x.item

  default-constant : (us : List Located) (o : Option (At (InputValue S)))
      → OptionOf (DefaultOf S reads of_bool) us o → IsConstantDefault o
  default-constant _ _ absent = λ x e. absurd (none-some x e)
  default-constant _ _ (present us y d) = λ x e.
      subst (λ (z : At (InputValue S)). IsConstant z.item) (same_Some y x e)
      ((none_is_listed S y.item).0 (value-constant d.ends))

  abbrev IsConstantVariable : Variable S → Type 0
  IsConstantVariable v = IsConstantDefault v.1.default_value

  variable-constant : (us : List Located) (v : Variable S)
      → VariableDefinitionOf S reads of_bool us v → IsConstantVariable v
  variable-constant us v h =
      let default = h.ends.ends.ends in
      subst IsConstantVariable (sym default.ends.is)
      (default-constant default.front default.part default.begins)

  abbrev AreConstant : Option (At (VariableDefinitions S)) → Type 0
  AreConstant o = All IsConstantVariable (variables_in o)

  variables-constant : (us : List Located) (o : Option (At (VariableDefinitions S)))
      → OptionOf (VariableDefinitionsOf S reads of_bool) us o → AreConstant o
  variables-constant _ _ absent = all-from IsConstantVariable [] (λ v i. nothing-in v i)
  variables-constant _ _ (present us y d) =
      let made = d.spells in
      subst (λ (vs : VariableDefinitions S). All IsConstantVariable vs.items) (sym made.is)
      (some-spelled
      (VariableDefinitionOf S reads of_bool) IsConstantVariable variable-constant made.spells.inside made.part made.spells.spells)

  -- ---- of definitions

  abbrev IsConstantIn : Definition S → Type 0
  IsConstantIn (definition.Operation o) = AreConstant o.item.variable_definitions
  IsConstantIn (definition.Fragment f) = Unit {0}

  operation-constant : (us : List Located) (x : At (Operation S)) → OperationOf S reads of_bool us x
      → AreConstant x.item.variable_definitions
  operation-constant us x h = elim h.spells [
    | inl m ↦ subst (λ (o : Operation S). AreConstant o.variable_definitions) (sym m.is)
        (all-from IsConstantVariable [] (λ v i. nothing-in v i))
    | inr one ↦ (let variables = one.ends.ends in
        subst (λ (o : Operation S). AreConstant o.variable_definitions) (sym variables.ends.ends.is)
        (variables-constant variables.front variables.part variables.begins))
  ]

  definition-constant : (us : List Located) (x : Definition S) → DefinitionOf S reads of_bool us x
      → IsConstantIn x
  definition-constant us x (inl m) = subst IsConstantIn (sym m.is) tt
  definition-constant us x (inr m) =
      subst IsConstantIn (sym m.is) (operation-constant us m.part m.spells)

  pub spelled-defaults : (tokens : List Located) (document : List (Definition S))
      → DocumentOf S reads of_bool tokens document → DefaultsAreConstant document
  spelled-defaults tokens document h o among v there =
      all-of IsConstantVariable (variables_in o.item.variable_definitions)
      (all-of IsConstantIn document
      (some-spelled
      (DefinitionOf S reads of_bool) IsConstantIn definition-constant tokens document h)
      (definition.Operation o) among) v there
