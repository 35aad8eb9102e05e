-- What the engine of a request and a resolver is made of.
use Rattle.std.proofs.Common.{◌≡◌, refl, Bool, List, Option}
use Rattle.std.specs.Prelude.{IfSome}
use Rattle.std.specs.List.{flat_map}
use Rattle.graphql_scalars.specs.ScalarAnswers.{ScalarAnswer}
use Rattle.graphql_names.specs.Names.{Bytes}
use Rattle.graphql_collect.specs.Grouped.{Group}
use Rattle.graphql_collected.specs.declared.request.Request.{Request}
use Rattle.graphql_collected.specs.Requests.{drops_in, fields_in, is_below_in}
use Rattle.graphql_written_out.specs.Trees.{Tree}
use Rattle.graphql_semantics.specs.Engines.{Engine}
use Rattle.graphql_semantics.specs.Evaluation.{found_in}
use Rattle.graphql_execution_walk.specs.Asked.{asked_type}
use Rattle.graphql_execution_walk.specs.declared.asked.Asked.{Asked}
use Rattle.graphql_execution_walk.specs.FieldDeclarations.{declared_type, is_leaf_named, is_possible_named}
use Rattle.graphql_execution_walk.specs.Prepared.{ArePrepared, asked_by, asked_in}
use Rattle.graphql_execution_walk.specs.declared.prepared.Prepared.{Prepared}
use Rattle.graphql_execution_walk.specs.Engines.{Resolves, engine_of, engine_over}

module _ {S C N : Type 0} (of_text : Bytes → S) (of_bool : Bool → S) (answer : S → ScalarAnswer) (request : Request S C) (concrete : N → Bytes) (resolves : Resolves S N) where
  abbrev engine : Engine S (Asked S N C)
  engine = engine_of of_text of_bool answer request concrete resolves

  pub engine-declared : engine.declared ≡ declared_type request.schema.now.types
  unfolding engine_over
  engine-declared = refl

  pub engine-is_leaf : engine.is_leaf ≡ is_leaf_named request.schema.now.types
  unfolding engine_over
  engine-is_leaf = refl

  pub engine-is_possible : engine.is_possible ≡ is_possible_named request.schema.now.types
  unfolding engine_over
  engine-is_possible = refl

  pub engine-concrete : engine.concrete ≡ asked_type concrete
  unfolding engine_over
  engine-concrete = refl

  -- the fields of sets for an object type
  pub engine-found : (object : Bytes) (sets : List (Tree S)) → flat_map (fields_in answer request object) sets ≡ found_in engine object sets
  unfolding engine_over drops_in is_below_in
  engine-found object sets = refl

  -- what is known of fields by the request is known by the engine, and the other way round
  pub prepared-if : (object : Bytes) (gs : List (Group S)) (ps : Option (List Prepared)) → IfSome ps (ArePrepared (asked_in request) object gs) → IfSome ps (ArePrepared (asked_by engine) object gs)
  unfolding engine_over
  prepared-if object gs ps h = h

  pub if-prepared : (object : Bytes) (gs : List (Group S)) (ps : Option (List Prepared)) → IfSome ps (ArePrepared (asked_by engine) object gs) → IfSome ps (ArePrepared (asked_in request) object gs)
  unfolding engine_over
  if-prepared object gs ps h = h
