-- What fields are asked of, and what is answered: by a resolver, and by the schema of itself
-- (GraphQL October 2021, 4 Introspection, 6.4.2 Value Resolution).
use Rattle.std.specs.Prelude.{◌&&◌, Bool, Option, Some, None, Result, Ok, Err, codes, if◌then◌else◌}
use Rattle.std.specs.Str.{bytes_eq}
use Rattle.graphql_names.specs.Names.{Bytes}
use Rattle.graphql_scalars.specs.ScalarAnswers.{ScalarAnswer}
use Rattle.graphql_arguments.specs.ArgumentValues.{Given}
use Rattle.graphql_schema.specs.declared.schema.SchemaType.{SchemaType}
use Rattle.graphql_field_results.specs.declared.field_error.FieldError.{FieldError}
use Rattle.graphql_field_results.specs.declared.resolved.Resolved.{Resolved, fold-Resolved}
use Rattle.graphql_field_results.specs.declared.resolved.Resolved.TheOpen.{Resolved-F}
use Rattle.graphql_field_results.specs.declared.resolved.Resolved.TheVariants as resolved
use Rattle.graphql_introspection.specs.Answers.{part_answer, type_asked}
use Rattle.graphql_introspection.specs.Nodes.{PartAnswer}
use Rattle.graphql_introspection.specs.Parts.{part_type_name}
use Rattle.graphql_introspection.specs.declared.part.SchemaPart.TheVariants as part
use Rattle.graphql_execution_walk.specs.declared.asked.Asked.{Asked}
use Rattle.graphql_execution_walk.specs.declared.asked.Asked.TheVariants as asked

module _ {S N M : Type 0} (f : N → M) where
  abbrev pub map_layer : Resolved-F S N (Resolved S M) → Resolved S M
  map_layer Resolved-F.Null = resolved.Null
  map_layer (Resolved-F.Scalar s) = resolved.Scalar s
  map_layer (Resolved-F.List items) = resolved.List items
  map_layer (Resolved-F.Node n) = resolved.Node (f n)

  -- an answer of other nodes
  abbrev pub map_nodes : Resolved S N → Resolved S M
  map_nodes = fold-Resolved S N (Resolved S M) map_layer

  abbrev pub map_answer : Result (Resolved S N) (FieldError S)
      → Result (Resolved S M) (FieldError S)
  map_answer (Ok r) = Ok (map_nodes r)
  map_answer (Err e) = Err e

-- what a resolver answers for a field of a node
abbrev pub Resolves : Type 0 → Type 0 → Type 0
Resolves S N = N → Bytes → Given S → Result (Resolved S N) (FieldError S)

-- what a resolver, or the schema, answers
abbrev pub AskedAnswer : Type 0 → Type 0 → Type 0 → Type 0
AskedAnswer S N C = Result (Resolved S (Asked S N C)) (FieldError S)

-- the object type of what is asked; `type_of`: of the resolver
abbrev pub asked_type : {S N C : Type 0} → (N → Bytes) → Asked S N C → Bytes
asked_type type_of (asked.Own n) = type_of n
asked_type type_of (asked.Part p) = part_type_name p

-- `of_text`, `answer`: of the scalars
module _ {S C : Type 0} (of_text : Bytes → S) (answer : S → ScalarAnswer)
    (schema : SchemaType S C) where
  -- what each object of a type tells of itself, the name of its type (4.1 Type Name Introspection);
  -- one of the type from which queries start also tells the schema (4.2 Schema Introspection)
  abbrev pub told_of_itself : Bytes → Bytes → Given S → Option (PartAnswer S C)
  told_of_itself object name given =
      if bytes_eq name (codes "__typename") then Some (resolved.Scalar (of_text object)) else
      if bytes_eq name (codes "__schema") && bytes_eq object schema.query
      then Some (resolved.Node part.Schema) else
      if bytes_eq name (codes "__type") && bytes_eq object schema.query
      then Some (type_asked answer schema.types given) else None

-- of what an object tells of itself nothing else is asked
abbrev pub or_asked : {S N C : Type 0} → Option (PartAnswer S C) → AskedAnswer S N C
    → AskedAnswer S N C
or_asked (Some told) answer = Ok (map_nodes asked.Part told)
or_asked None answer = answer

-- `of_text`, `of_bool`, `answer`: of the scalars; `resolves`: of the resolver
module _ {S C N : Type 0} (of_text : Bytes → S) (of_bool : Bool → S) (answer : S → ScalarAnswer)
    (schema : SchemaType S C) (resolves : Resolves S N) where
  -- a node is answered by the resolver, a part of the schema by the schema
  abbrev pub own_answer : Asked S N C → Bytes → Given S → AskedAnswer S N C
  own_answer (asked.Own n) name given = map_answer asked.Own (resolves n name given)
  own_answer (asked.Part p) name given =
      Ok (map_nodes asked.Part (part_answer of_text of_bool answer schema p name given))

  -- what is answered for a field of an object type, by its argument values
  abbrev pub asked_answer : Asked S N C → Bytes → Bytes → Given S → AskedAnswer S N C
  asked_answer node object name given =
      or_asked (told_of_itself of_text answer schema object name given) (own_answer node name given)
