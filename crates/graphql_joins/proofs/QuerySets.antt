-- The selection set of a query stands in its document, and the root of queries can stand there.
use Rattle.std.proofs.Common.{◌≡◌, refl, ◌∙◌, ap, subst, true, List, Option, Some, None}
use Rattle.std.specs.List.{Contains}
use Rattle.graphql_names.specs.Names.{passes}
use Rattle.graphql_names.proofs.NameLemmas.{eq_itself, same_bytes}
use Rattle.graphql_names.proofs.NameMaps.{found_is_in}
use Rattle.graphql_values.specs.InputValues.{Placed}
use Rattle.graphql_tree.specs.declared.document.Definition.{Definition}
use Rattle.graphql_tree.specs.declared.document.Definition.TheVariants as definition
use Rattle.graphql_tree.specs.declared.document.Operation.{Operation}
use Rattle.graphql_tree.specs.declared.document.OperationType.TheVariants as operation
use Rattle.graphql_schema.specs.Declarations.{declarations_of}
use Rattle.graphql_schema.specs.Lookups.{is_object, own_name, type_named}
use Rattle.graphql_schema.specs.Possible.{is_possible}
use Rattle.graphql_schema.specs.Schemas.{roots_of}
use Rattle.graphql_schema.specs.declared.meta.MetaType.{MetaType}
use Rattle.graphql_schema.specs.declared.meta.MetaType.TheVariants as meta
use Rattle.graphql_schema.specs.declared.schema.SchemaType.{SchemaType}
use Rattle.graphql_schema.proofs.RootLemmas.{query_is_object}
use Rattle.graphql_occurrences.specs.DeclaredLookups.{root_of}
use Rattle.graphql_merging.specs.Members.{Scope}
use Rattle.graphql_execution_walk.specs.FieldDeclarations.{are_possible, is_possible_named}
use Rattle.graphql_joins.specs.RequestLaws.{IsSetOf, of_operation, QueriesStand}

module _ {S C : Type 0} (schema : SchemaType S C) where
  -- the root of queries is one of the types, and possible at itself
  abbrev IsRoot : MetaType S C → Type 0
  IsRoot m =
      (type_named schema.types schema.query ≡ Some m)
      × (is_possible_named schema.types (own_name m) schema.query ≡ true)

  possible-itself : (m : MetaType S C) → is_object m ≡ true → is_possible m m ≡ true
  possible-itself (meta.Object m) h = eq_itself m.name
  possible-itself _ h = absurd (cc)

  root-of-queries : (m : MetaType S C) × IsRoot m
  root-of-queries =
      at (type_named schema.types schema.query) refl
      (query_is_object schema.types (roots_of schema) schema.by_name schema.faultless)
    where
      at : (o : Option (MetaType S C)) → type_named schema.types schema.query ≡ o
          → passes is_object o ≡ true → (m : MetaType S C) × IsRoot m
      at None e h = cc
      at (Some m) e h =
          let found = found_is_in own_name schema.types schema.query m e in
          let by_own_name : type_named schema.types (own_name m) ≡ Some m =
          ap (type_named schema.types) (same_bytes (own_name m) schema.query found.0) ∙ e in
          (m, (e, (λ i. are_possible (by_own_name i) (e i)) ∙ possible-itself m h))

pub queries-stand : (S C : Type 0) → QueriesStand S C
queries-stand S C schema document query i is_query =
    let m = root-of-queries schema in
    let declarations = declarations_of schema in (
      m.0,
      subst (λ (scope : Scope S C). IsSetOf declarations document scope query.item.selection_set)
          (ap (root_of declarations) is_query ∙ m.1.0) (of_operation query i),
      m.1.1,
    )
