-- Definitions of variables that are the same but for places, and the final values that they give.
use Rattle.std.proofs.Common.{◌≡◌, refl, sym, ◌∙◌, ap, Bool, true, false, List, [], ◌∷◌, map, Option, Some, None, cond}
use Rattle.std.specs.List.{find}
use Rattle.std.specs.Option.{option_and_then, option_map, option_or}
use Rattle.std.specs.Str.{bytes_eq}
use Rattle.graphql_names.specs.Names.{Bytes, is_named}
use Rattle.graphql_values.specs.InputValues.{unlocated, Placed}
use Rattle.graphql_values.specs.declared.input_value.InputValue.{InputValue}
use Rattle.graphql_tree.specs.Unlocated.{without_place, unlocated_name, unlocated_variable, unlocated_operation, unlocated_variables}
use Rattle.graphql_tree.specs.Variables.{Variable}
use Rattle.graphql_written_out.specs.FinalValues.{default_named, default_of, final_value, variable_name}
use Rattle.graphql_tree.specs.Documents.{variables_in}
use Rattle.graphql_tree.specs.declared.document.Operation.{Operation}
use Rattle.graphql_tree.specs.declared.variable.VariableDefinitions.{VariableDefinitions}

module _ {S : Type 0} where
  -- a definition without its places
  abbrev pub unlocated_defined : Variable S → Variable S
  unlocated_defined v = (unlocated_name v.0, unlocated_variable v.1)

  abbrev pub unlocated_definitions : List (Variable S) → List (Variable S)
  unlocated_definitions = map unlocated_defined

  variables-listed : (o : Option (Placed (VariableDefinitions S)))
      → variables_in (option_map (without_place unlocated_variables) o)
      ≡ unlocated_definitions (variables_in o)
  variables-listed None = refl
  variables-listed (Some v) = refl

  pub variables-alike : (x q : Operation S) → unlocated_operation x ≡ unlocated_operation q
      → unlocated_definitions (variables_in x.variable_definitions)
      ≡ unlocated_definitions (variables_in q.variable_definitions)
  variables-alike x q same =
      sym (variables-listed x.variable_definitions)
      ∙ ap (λ (o : Operation S). variables_in o.variable_definitions) same
      ∙ variables-listed q.variable_definitions

  default-unlocated : (v : Variable S)
      → default_of (unlocated_defined v)
      ≡ option_map unlocated (default_of v)
  default-unlocated v =
      elim v.1.default_value as
      (λ o. option_map (λ d. d.item) (option_map (without_place unlocated) o)
      ≡ option_map unlocated (option_map (λ d. d.item) o))
      [ None ↦ refl | Some d ↦ refl ]

  one-default : (b : Bool) (v : Variable S) (x y : Option (Variable S))
      → option_and_then default_of x ≡ option_map unlocated (option_and_then default_of y)
      → option_and_then default_of (cond b (Some (unlocated_defined v)) x)
      ≡ option_map unlocated (option_and_then default_of (cond b (Some v) y))
  one-default true v x y same = default-unlocated v
  one-default false v x y same = same

  named-unlocated : (name : Bytes) (vs : List (Variable S))
      → default_named (unlocated_definitions vs) name ≡ option_map unlocated (default_named vs name)
  named-unlocated name [] = refl
  named-unlocated name (v ∷ vs) =
      one-default (bytes_eq v.0.item name) v
      (find (is_named variable_name name) (unlocated_definitions vs))
      (find (is_named variable_name name) vs) (named-unlocated name vs)

  or-alike : (o a b : Option (InputValue S)) → option_map unlocated a ≡ option_map unlocated b
      → option_map unlocated (option_or o a) ≡ option_map unlocated (option_or o b)
  or-alike None a b same = same
  or-alike (Some v) a b same = refl

  -- they give each name the same final value but for places
  pub finals-alike : (given : Bytes → Option (InputValue S)) (name : Bytes) (vs ws : List (Variable S))
      → unlocated_definitions vs ≡ unlocated_definitions ws
      → option_map unlocated (final_value given vs name)
      ≡ option_map unlocated (final_value given ws name)
  finals-alike given name vs ws same =
      or-alike (given name) (default_named vs name) (default_named ws name)
      (sym (named-unlocated name vs) ∙ ap (λ us. default_named us name) same
      ∙ named-unlocated name ws)
