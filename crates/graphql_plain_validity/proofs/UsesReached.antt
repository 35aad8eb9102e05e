-- The uses of variables in a plain document are uses that its operation reaches.
use Rattle.std.proofs.Common.{◌≡◌, refl, ap, subst, arith, Bool, List, [], ◌∷◌, append-nil, sym, inl, inr}
use Rattle.std.specs.List.{Contains, flat_map}
use Rattle.graphql_scalars.specs.ScalarAnswers.{ScalarAnswer}
use Rattle.graphql_values.specs.InputValues.{Placed}
use Rattle.graphql_tree.specs.Definitions.{fragments_of}
use Rattle.graphql_tree.specs.declared.document.Definition.{Definition}
use Rattle.graphql_tree.specs.declared.document.Definition.TheVariants as definition
use Rattle.graphql_tree.specs.declared.document.Operation.{Operation}
use Rattle.graphql_schema.specs.Declarations.{Declarations}
use Rattle.graphql_occurrences.specs.Occurrences.{fragment_parts, occurrences, operation_parts}
use Rattle.graphql_occurrences.specs.Parts.{Part, Use, VariableUsed}
use Rattle.graphql_rules_document.specs.Reached.{uses_from}
use Rattle.graphql_rules_document.specs.Scopes.{fragment_scope, fragment_scopes, operation_scope, use_at}
use Rattle.graphql_rules_document.proofs.RuleLaws.{uses_reached}
use Rattle.graphql_rules_document.proofs.ListItems.{contains-map, nothing-in, only-one}
use Rattle.graphql_plain_validity.specs.PlainRequests.{IsPlainDocument}
use Rattle.graphql_plain_validity.specs.StemmingParts.{Reaches}
use Rattle.graphql_plain_validity.proofs.EachItem.{flat-from, flat-in}
use Rattle.graphql_plain_validity.specs.PartKinds.{unplaced_use}
use Rattle.graphql_plain_validity.proofs.PartKinds.{use-stems}
use Rattle.graphql_plain_validity.proofs.KindsStay.{stems}

module _ {S C : Type 0} where
  -- the part that has the use
  part-of : (x : Part S C) (u : Use) → Contains (use_at x) u → x ≡ VariableUsed u
  part-of (VariableUsed v) u i = ap VariableUsed (only-one v u i)
  part-of _ u i = nothing-in u i

  pub use-in : (parts : List (Part S C)) (u : Use) → Contains parts (VariableUsed u)
      → Contains (flat_map use_at parts) u
  use-in parts u i = flat-in use_at parts (VariableUsed u) u i (0, omega arith, refl)

  pub use-from : (parts : List (Part S C)) (u : Use) → Contains (flat_map use_at parts) u
      → Contains parts (VariableUsed u)
  use-from parts u i =
      let x = flat-from use_at parts u i in
      subst (Contains parts) (part-of x.0 u x.2) x.1

module _ {S C : Type 0} (schema : Declarations S C) where
  -- a use that is reached is one of those that the operation reaches
  pub reached-use : (document : List (Definition S)) (o : Placed (Operation S)) (u : Use)
      → Reaches schema document o (VariableUsed u)
      → Contains (uses_from (fragment_scopes schema document) (operation_scope schema o)) u
  reached-use document o u (inl i) =
      (uses_reached (fragment_scopes schema document) (operation_scope schema o) u).1
      (inl (use-in (operation_parts schema o.item) u i))
  reached-use document o u (inr r) =
      (uses_reached (fragment_scopes schema document) (operation_scope schema o) u).1 (inr (
        fragment_scope schema r.fragment,
        contains-map (fragment_scope schema) (fragments_of document) r.fragment r.among,
        r.reached,
        use-in (fragment_parts schema r.fragment.item) u r.there,
      ))

  -- the uses of one operation are those of its parts
  pub own-use : (x : Placed (Operation S)) (u : Use)
      → Contains (uses_from [] (operation_scope schema x)) u
      → Contains (operation_parts schema x.item) (VariableUsed u)
  own-use x u i =
      use-from (operation_parts schema x.item) u
      (subst (λ us. Contains us u) (append-nil (flat_map use_at (operation_parts schema x.item))) i)

  pub in-one : (x : Placed (Operation S)) (y : Part S C)
      → Contains (operation_parts schema x.item) y
      → Contains (occurrences schema (definition.Operation x ∷ [])) y
  unfolding occurrences
  in-one x y i = subst (λ ps. Contains ps y) (sym (append-nil (operation_parts schema x.item))) i

  -- a use in a plain document is a use that the request's operation reaches, places aside
  pub use-is-reached : (answer : S → ScalarAnswer) (of_bool : Bool → S)
      (document : List (Definition S)) (x : Placed (Operation S))
      (is : IsPlainDocument answer of_bool document (definition.Operation x ∷ [])) (u : Use)
      → Contains (uses_from [] (operation_scope schema x)) u
      → (v : Use)
      × Contains (uses_from (fragment_scopes schema document) (operation_scope schema is.operation)) v
      × (unplaced_use u ≡ unplaced_use v)
  use-is-reached answer of_bool document x is u i =
      let o = is.operation in
      let r =
      use-stems schema document o of_bool u
      (stems answer of_bool schema document (definition.Operation x ∷ []) is (VariableUsed u)
      (in-one x (VariableUsed u) (own-use x u i))) in
      (r.0, reached-use document o r.0 r.1, r.2)
