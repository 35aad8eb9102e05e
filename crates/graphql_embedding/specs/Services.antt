-- The service over a schema in rows, and what became of a run over it (GraphQL October 2021, 3.3
-- Schema, 6.1 Executing Requests).
use Rattle.std.specs.Prelude.{◌≡◌, ◌++◌, false, List, Option, Result, Ok, Err}
use Rattle.std.specs.List.{All, AllZip}
use Rattle.graphql_text.specs.Memory.{UnlessMemory}
use Rattle.graphql_names.specs.Names.{Bytes}
use Rattle.graphql_literal_checks.specs.Defaults.{NamedConforms}
use Rattle.graphql_schema.specs.Faults.{Roots}
use Rattle.graphql_schema.specs.Promises.{IsFirstWithout}
use Rattle.graphql_schema.specs.Schemas as schemas
use Rattle.graphql_schema.specs.declared.meta.MetaType.{MetaType}
use Rattle.graphql_schema.specs.declared.root_node.RootNode.{RootNode}
use Rattle.graphql_schema.specs.declared.schema.SchemaType.{SchemaType}
use Rattle.graphql_schema_rows.specs.Rows.{IsMemory}
use Rattle.graphql_schema_rows.specs.Types.{IsFirstRefused, IsTypeOf, row_names}
use Rattle.graphql_schema_rows.specs.declared.type_row.CheckedRow.{CheckedRow}
use Rattle.graphql_service.specs.Answers.{Answerer}
use Rattle.graphql_service.specs.Made as services
use Rattle.graphql_service.specs.Made.{IsOf, Scalars, TakesStandIn}
use Rattle.graphql_service.specs.Serving.{AnswersLine, BreaksAtLine}
use Rattle.graphql_service.specs.declared.service.Service.{Service}
use Rattle.graphql_streams.specs.Served.{Ends, ServedAll}
use Rattle.graphql_streams.specs.declared.serve_error.ServeError.{ServeError}
use Rattle.graphql_embedding.specs.declared.fault.ServeRowsFault.{ServeRowsFault}
use Rattle.graphql_embedding.specs.declared.fault.ServeRowsFault.TheVariants as fault
use Rattle.graphql_embedding.specs.declared.simple_resolver.SimpleResolver.{SimpleResolver}

-- how a run over a schema in rows ended, as far as lines were answered
abbrev pub served : Result (Unit {0}) ServeRowsFault → Result (Unit {0}) ServeError
served (Ok x) = Ok x
served (Err (fault.Serve e)) = Err e
served (Err (fault.Row e)) = Ok tt
served (Err (fault.Schema e)) = Ok tt
served (Err (fault.BadDefault name)) = Ok tt
served (Err (fault.Service e)) = Ok tt
served (Err fault.Memory) = Ok tt

-- ---- the service

-- a resolver, as a service takes it
abbrev pub in_service : {R : Type 0} → R → SimpleResolver R
in_service resolver = record { resolver = resolver }

-- the root node over a schema, with introspection
abbrev pub root_over : {S C : Type 0} → SchemaType S C → RootNode S C
root_over schema = record { schema = schema; introspection_disabled = false }

-- each default that the type of a name declares conforms, as a schema has it
abbrev pub HasFitDefaults : {S C : Type 0} → Scalars S C → SchemaType S C → Bytes → Type 0
HasFitDefaults s schema name = NamedConforms s schema.types name

-- by what scalars mean, of the roots that are named, the names of the types whose defaults are
-- judged, a resolver, and a context
module _ {S C R X : Type 0} (s : Scalars S C) (roots : Roots) (names : List Bytes) (by : R)
    (over : X) where
  -- the service over the schema of these types, with introspection
  pub record IsServiceOf (types : List (MetaType S C)) (service : Service S R X C) : Type 0 where
    pub schema : SchemaType S C
    pub made : schemas.Makes s.of_text types roots (Ok schema)
    pub fit : All (HasFitDefaults s schema) names
    pub parts : IsOf (root_over schema) by over 65536 10000 service
    pub truth : TakesStandIn s schema

  -- why there is none: the first fault of the types, the first whose defaults do not conform, or
  -- that of their schema
  abbrev pub TypesDue : List (MetaType S C) → ServeRowsFault → Type 0
  TypesDue types (fault.Schema e) = schemas.Makes s.of_text types roots (Err e)
  TypesDue types (fault.BadDefault name) =
      (schema : SchemaType S C)
      × schemas.Makes s.of_text types roots (Ok schema)
      × IsFirstWithout (HasFitDefaults s schema) names name
  TypesDue types (fault.Service e) =
      (node : RootNode S C)
      × (schema : SchemaType S C)
      × (node ≡ root_over schema)
      × schemas.Makes s.of_text types roots (Ok schema)
      × All (HasFitDefaults s schema) names × services.Makes node by over 65536 10000 s (Err e)
  TypesDue types (fault.Row e) = ⊥
  TypesDue types (fault.Serve e) = ⊥
  TypesDue types fault.Memory = ⊥

-- what is told of the defaults of the types of these names
abbrev pub DefaultsJudged : {S C : Type 0} → Scalars S C → SchemaType S C → List Bytes
    → Result (Unit {0}) ServeRowsFault → Type 0
DefaultsJudged s schema names (Ok x) = All (HasFitDefaults s schema) names
DefaultsJudged s schema names (Err (fault.BadDefault name)) =
    IsFirstWithout (HasFitDefaults s schema) names name
DefaultsJudged s schema names (Err fault.Memory) = Unit {0}
DefaultsJudged s schema names (Err _) = ⊥

-- ---- of rows

-- the types that rows and their checks are
abbrev pub Declare : {S C : Type 0} → Scalars S C → List (CheckedRow C) → List (MetaType S C)
    → Type 0
Declare s rows declared = AllZip (IsTypeOf s.reads s.of_bool s.answer) rows declared

-- over the types that each schema has, and those of rows
module _ {S C R X : Type 0} (s : Scalars S C) (roots : Roots) (by : R) (over : X)
    (each : List (MetaType S C)) (rows : List (CheckedRow C)) where
  pub record IsServiceOfRows (service : Service S R X C) : Type 0 where
    pub declared : List (MetaType S C)
    pub declare : Declare s rows declared
    pub made : IsServiceOf s roots (row_names rows) by over (each ++ declared) service

  -- all rows are types, and this is due of them
  abbrev pub DeclaredDue : ServeRowsFault → Type 0
  DeclaredDue e = (declared : List (MetaType S C))
      × Declare s rows declared
      × TypesDue s roots (row_names rows) by over (each ++ declared) e

  -- why there is none: the first row that is refused, else the first fault of the types, else the
  -- first of which a default does not conform, else that of their schema; want of memory tells
  -- nothing of the rows
  abbrev pub RowsDue : ServeRowsFault → Type 0
  RowsDue (fault.Row e) = UnlessMemory IsMemory e (IsFirstRefused s.reads s.of_bool s.answer rows e)
  RowsDue (fault.Schema e) = DeclaredDue (fault.Schema e)
  RowsDue (fault.BadDefault name) = DeclaredDue (fault.BadDefault name)
  RowsDue (fault.Service e) = DeclaredDue (fault.Service e)
  RowsDue (fault.Serve e) = ⊥
  RowsDue fault.Memory = ⊥

-- ---- the run

-- what holds where a run came to the end of its input, or by the error at which it ended
abbrev pub Ended : Type 0 → (ServeError → Type 0) → Result (Unit {0}) ServeError → Type 0
Ended all ends (Ok x) = all
Ended all ends (Err e) = ends e

-- by what a service answers; a source has `left` before and `rest` after, a sink `old` and `new`,
-- where they are known; `failed`: a write has failed
module _ {S C N X R : Type 0} (answerer : Service S R X C → Answerer S C N X)
    (Described : Service S R X C → Type 0)
    (Due : ServeRowsFault → Type 0) (failed : Type 0) (left rest old new : Option Bytes) where
  -- nothing was read and nothing written
  abbrev pub IsUntouched : Type 0
  IsUntouched = (rest ≡ left) × (new ≡ old)

  abbrev pub IsDue : ServeRowsFault → Type 0
  IsDue e = Due e × IsUntouched

  -- each line was answered by the service that is described, or why no more lines were
  pub record Serves (ended : Result (Unit {0}) ServeError) : Type 0 where
    pub service : Service S R X C
    pub described : Described service
    pub after : X
    pub run :
        Ended (ServedAll (AnswersLine (answerer service)) service.context left rest old new after)
        (λ e. Ends (AnswersLine (answerer service)) (BreaksAtLine (answerer service)) failed e
        service.context left rest old new after)
        ended

  -- what became of the run; want of memory before it tells nothing
  abbrev pub Ran : Result (Unit {0}) ServeRowsFault → Type 0
  Ran (Ok x) = Serves (Ok x)
  Ran (Err (fault.Row e)) = IsDue (fault.Row e)
  Ran (Err (fault.Schema e)) = IsDue (fault.Schema e)
  Ran (Err (fault.BadDefault name)) = IsDue (fault.BadDefault name)
  Ran (Err (fault.Service e)) = IsDue (fault.Service e)
  Ran (Err (fault.Serve e)) = Serves (Err e)
  Ran (Err fault.Memory) = IsUntouched
