-- What is made of the sample's types: in each schema `Boolean` is the scalar of the given check.
use Rattle.std.proofs.Common.{◌≡◌, List, ◌∷◌, Result, Ok, Err, Some, IfOk, codes, subst, refl, arith}
use Rattle.std.proofs.lemmas.List.Sorted.{Contains-permutation}
use Rattle.graphql_names.specs.Names.{Bytes}
use Rattle.graphql_names.proofs.NameMaps.{in_is_found}
use Rattle.graphql_scalars.specs.declared.default_scalar.DefaultScalarValue.{DefaultScalarValue}
use Rattle.graphql_schema.specs.declared.meta.MetaType.{MetaType}
use Rattle.graphql_schema.specs.declared.schema.SchemaType.{SchemaType}
use Rattle.graphql_schema.specs.Schemas.{IsSchemaOf, Makes}
use Rattle.graphql_schema.specs.Completed.{completed}
use Rattle.graphql_schema.specs.Faults.{Roots}
use Rattle.graphql_schema.specs.Lookups.{own_name, type_named}
use Rattle.graphql_schema.specs.declared.error.SchemaError.{SchemaError}
use Rattle.graphql_sample.specs.SampleTypes.{scalar, roots}

-- `others`: the types behind the scalars
module _ {C : Type 0} (of_text : Bytes → DefaultScalarValue) (int string boolean id : C)
    (others : List (MetaType DefaultScalarValue C)) where
  abbrev all_types : List (MetaType DefaultScalarValue C)
  all_types =
      scalar (codes "Int") int ∷ scalar (codes "String") string
      ∷ scalar (codes "Boolean") boolean ∷ scalar (codes "ID") id ∷ others

  abbrev pub IsFound : SchemaType DefaultScalarValue C → Type 0
  IsFound schema = type_named schema.types (codes "Boolean") ≡ Some (scalar (codes "Boolean") boolean)

  boolean_found : (schema : SchemaType DefaultScalarValue C) → IsSchemaOf of_text all_types roots schema → IsFound schema
  boolean_found schema made =
      let wanted = scalar (codes "Boolean") boolean in
      let all = completed all_types roots.query in
      in_is_found own_name schema.types wanted schema.by_name (Contains-permutation all schema.types wanted made.types (2, omega arith, refl))

  pub boolean_in : (metadata : List (MetaType DefaultScalarValue C)) (result : Result (SchemaType DefaultScalarValue C) SchemaError)
      → metadata ≡ all_types → Makes of_text metadata roots result → IfOk result IsFound
  boolean_in metadata (Ok schema) same made = boolean_found schema (subst (λ m. IsSchemaOf of_text m roots schema) same made.1)
  boolean_in metadata (Err e) same made = tt

-- what these types make, the same types make
pub made_of : {S C : Type 0} (of_text : Bytes → S) (one other : List (MetaType S C)) (named : Roots)
    (result : Result (SchemaType S C) SchemaError) → one ≡ other → Makes of_text one named result
    → Makes of_text other named result
made_of of_text one other named result same made = subst (λ types. Makes of_text types named result) same made
