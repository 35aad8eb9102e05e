-- A run over types that are those of rows is a run over the rows.
use Rattle.std.proofs.Common.{◌≡◌, ◌++◌, List, Option, Result, Ok, Err, refl, subst}
use Rattle.graphql_names.specs.Names.{Bytes}
use Rattle.graphql_schema.specs.Faults.{Roots}
use Rattle.graphql_schema.specs.Schemas.{Makes}
use Rattle.graphql_schema.specs.declared.meta.MetaType.{MetaType}
use Rattle.graphql_schema.specs.declared.schema.SchemaType.{SchemaType}
use Rattle.graphql_schema_rows.specs.Types.{row_names}
use Rattle.graphql_schema_rows.specs.declared.type_row.CheckedRow.{CheckedRow}
use Rattle.graphql_service.specs.Answers.{Answerer}
use Rattle.graphql_service.specs.Made.{Scalars}
use Rattle.graphql_service.specs.declared.service.Service.{Service}
use Rattle.graphql_embedding.specs.Services.{Declare, IsServiceOf, IsServiceOfRows, DefaultsJudged, Ran, RowsDue, TypesDue}
use Rattle.graphql_embedding.specs.declared.fault.ServeRowsFault.{ServeRowsFault}
use Rattle.graphql_embedding.specs.declared.fault.ServeRowsFault.TheVariants as fault

module _ {S C R X : Type 0} (s : Scalars S C) (roots : Roots) (by : R) (over : X) (each : List (MetaType S C)) (rows : List (CheckedRow C))
    (declared : List (MetaType S C)) (declare : Declare s rows declared) (types : List (MetaType S C)) (is : types ≡ each ++ declared)
    (names : List Bytes) (named : names ≡ row_names rows) where
  of_rows : (service : Service S R X C) → IsServiceOf s roots names by over types service → IsServiceOfRows s roots by over each rows service
  of_rows service made = record {
    declared = declared;
    declare = declare;
    made =
        subst (λ them. IsServiceOf s roots them by over (each ++ declared) service) named
        (subst (λ them. IsServiceOf s roots names by over them service) is made);
  }

  abbrev Due : ServeRowsFault → Type 0
  Due e = TypesDue s roots names by over types e

  abbrev DueOfRows : ServeRowsFault → Type 0
  DueOfRows e = TypesDue s roots (row_names rows) by over (each ++ declared) e

  of_all : (e : ServeRowsFault) → Due e → DueOfRows e
  of_all e due =
      subst (λ them. TypesDue s roots them by over (each ++ declared) e) named
      (subst (λ them. TypesDue s roots names by over them e) is due)

  due_of_rows : (e : ServeRowsFault) → Due e → RowsDue s roots by over each rows e
  due_of_rows (fault.Row e) due = absurd due
  due_of_rows (fault.Schema e) due = (declared, declare, of_all (fault.Schema e) due)
  due_of_rows (fault.BadDefault name) due = (declared, declare, of_all (fault.BadDefault name) due)
  due_of_rows (fault.Service e) due = (declared, declare, of_all (fault.Service e) due)
  due_of_rows (fault.Serve e) due = absurd due
  due_of_rows fault.Memory due = absurd due

  module _ {N : Type 0} (answerer : Service S R X C → Answerer S C N X) (failed : Type 0) (left rest old new : Option Bytes) where
    pub ran_over_rows : (r : Result (Unit {0}) ServeRowsFault)
        → Ran answerer (IsServiceOf s roots names by over types) (TypesDue s roots names by over types) failed left rest old new r
        → Ran answerer (IsServiceOfRows s roots by over each rows) (RowsDue s roots by over each rows) failed left rest old new r
    ran_over_rows (Ok x) ran = record { service = ran.service; described = of_rows ran.service ran.described; after = ran.after; run = ran.run }
    ran_over_rows (Err (fault.Row e)) ran = (due_of_rows (fault.Row e) ran.0, ran.1)
    ran_over_rows (Err (fault.Schema e)) ran = (due_of_rows (fault.Schema e) ran.0, ran.1)
    ran_over_rows (Err (fault.BadDefault name)) ran = (due_of_rows (fault.BadDefault name) ran.0, ran.1)
    ran_over_rows (Err (fault.Service e)) ran = (due_of_rows (fault.Service e) ran.0, ran.1)
    ran_over_rows (Err (fault.Serve e)) ran =
        record { service = ran.service; described = of_rows ran.service ran.described; after = ran.after; run = ran.run }
    ran_over_rows (Err fault.Memory) ran = ran

-- a fault of the defaults is due, where nothing is read and nothing written
module _ {S C R X N : Type 0} (s : Scalars S C) (roots : Roots) (names : List Bytes) (by : R) (over : X) (types : List (MetaType S C))
    (schema : SchemaType S C) (made : Makes s.of_text types roots (Ok schema)) (answerer : Service S R X C → Answerer S C N X)
    (failed : Type 0) (left old : Option Bytes) where
  pub refused_defaults : (e : ServeRowsFault) → DefaultsJudged s schema names (Err e)
      → Ran answerer (IsServiceOf s roots names by over types) (TypesDue s roots names by over types) failed left left old old (Err e)
  refused_defaults (fault.BadDefault name) told = ((schema, made, told), (refl, refl))
  refused_defaults fault.Memory told = (refl, refl)
  refused_defaults (fault.Row e) told = absurd told
  refused_defaults (fault.Schema e) told = absurd told
  refused_defaults (fault.Service e) told = absurd told
  refused_defaults (fault.Serve e) told = absurd told
