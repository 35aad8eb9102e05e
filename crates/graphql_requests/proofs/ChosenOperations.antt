-- The operation that a request chooses stands in its document.
use Rattle.std.proofs.Common.{◌≡◌, ◌⊎◌, inl, inr, refl, ap, sym, ◌∙◌, arith, Bool, true, false, List, [], ◌∷◌, ◌++◌, Option, Some, None, Result, Ok, Err, reverse}
use Rattle.std.specs.Prelude.{if◌then◌else◌}
use Rattle.std.specs.List.{Contains, find}
use Rattle.std.specs.Option.{option_map_or}
use Rattle.std.proofs.lemmas.List.Elements.{Contains-append_right, Contains-append_cases}
use Rattle.graphql_names.specs.Names.{Bytes}
use Rattle.graphql_values.specs.InputValues.{Placed}
use Rattle.graphql_rules_document.proofs.ListItems.{nothing-in, only-one}
use Rattle.graphql_tree.specs.Definitions.{operations_of}
use Rattle.graphql_tree.specs.declared.document.Definition.{Definition}
use Rattle.graphql_tree.specs.declared.document.Definition.TheVariants as definition
use Rattle.graphql_tree.specs.declared.document.Operation.{Operation}
use Rattle.graphql_requests.proofs.LastNamed.{last_from, last_is_found}
use Rattle.graphql_requests.specs.Operations.{chosen, operation_has_name, one_named, only_one}
use Rattle.graphql_requests.specs.declared.graphql_error.GraphQLError.{GraphQLError}

module _ {A : Type 0} (passes : A → Bool) where
  -- the last that passes is one of the items, or what was found before
  last-in : (before : Option A) (xs : List A) (x : A) → last_from passes before xs ≡ Some x → (before ≡ Some x) ⊎ Contains xs x
  last-in before [] x e = inl e
  last-in before (y ∷ ys) x e =
      elim (last-in (if passes y then Some y else before) ys x e) [
        | inl h ↦ at (passes y) h
        | inr i ↦ inr (Contains-append_right (y ∷ []) ys x i)
      ]
    where
      at : (b : Bool) → (if b then Some y else before) ≡ Some x → (before ≡ Some x) ⊎ Contains (y ∷ ys) x
      at true h = inr (0, omega arith, cc)
      at false h = inl h

  nothing : (x : A) → None ≡ Some x → ⊥
  nothing x e = cc

  found-in : (xs : List A) (x : A) → find passes (reverse xs) ≡ Some x → Contains xs x
  found-in xs x e =
      elim (last-in None xs x (sym (last_is_found passes xs) ∙ e)) [
        | inl h ↦ absurd (nothing x h)
        | inr i ↦ i
      ]

module _ {S : Type 0} where
  operation-in : (document : List (Definition S)) (o : Placed (Operation S)) → Contains (operations_of document) o
      → Contains document (definition.Operation o)
  operation-in [] o i = nothing-in o i
  operation-in (definition.Fragment f ∷ ds) o i =
      Contains-append_right (definition.Fragment f ∷ []) ds (definition.Operation o) (operation-in ds o i)
  operation-in (definition.Operation p ∷ ds) o i = elim (Contains-append_cases (p ∷ []) (operations_of ds) o i) [
    | inl j ↦ (0, omega arith, ap definition.Operation (only-one p o j))
    | inr j ↦ Contains-append_right (definition.Operation p ∷ []) ds (definition.Operation o) (operation-in ds o j)
  ]

  only-in : (os : List (Placed (Operation S))) (o : Placed (Operation S)) → only_one os ≡ Ok o → Contains os o
  only-in [] o e = absurd (cc)
  only-in (x ∷ []) o e = (0, omega arith, cc)
  only-in (x ∷ y ∷ os) o e = absurd (cc)

  of-found : (found : Option (Placed (Operation S))) (e : GraphQLError) (o : Placed (Operation S))
      → option_map_or Ok found (Err e) ≡ Ok o → found ≡ Some o
  of-found (Some x) e o h = cc
  of-found None e o h = absurd (cc)

  -- the operation that is chosen is one of the document's
  pub chosen-listed : (name : Option Bytes) (document : List (Definition S)) (o : Placed (Operation S))
      → chosen name document ≡ Ok o → Contains (operations_of document) o
  chosen-listed None document o e = only-in (operations_of document) o e
  chosen-listed (Some name) document o e =
      found-in (operation_has_name name) (operations_of document) o (of-found _ _ o e)

  -- so it is a definition of the document
  pub chosen-in : (name : Option Bytes) (document : List (Definition S)) (o : Placed (Operation S))
      → chosen name document ≡ Ok o → Contains document (definition.Operation o)
  chosen-in name document o e = operation-in document o (chosen-listed name document o e)
