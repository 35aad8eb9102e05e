-- What a list knows of the object types that its items had.
use Rattle.std.specs.Str.{bytes_eq}
use Rattle.std.specs.Prelude.{◌≡◌, ◌⊎◌, true, IfSome, cond, List, Option, Some, None}
use Rattle.graphql_names.specs.Names.{Bytes, named}
use Rattle.graphql_collect.specs.Grouped.{Group}
use Rattle.graphql_written_out.specs.Trees.{Tree}
use Rattle.graphql_semantics.specs.Evaluation.{found_in}
use Rattle.graphql_execution_walk.specs.declared.frames.Known.{Known}
use Rattle.graphql_execution_walk.specs.Evaluations.{Evaluation}
use Rattle.graphql_execution_walk.specs.Prepared.{ArePrepared, asked_by}
use Rattle.graphql_execution_walk.specs.declared.prepared.Prepared.{Prepared}
use Rattle.graphql_execution_walk.specs.Sets.{AreGroups}

-- groups of a document's fields
abbrev pub KnownIn : Type 0 → Type 0
KnownIn S = Known (List (Group S)) (List Prepared)

-- what is known of an object type
abbrev pub known_at : {S : Type 0} → List (KnownIn S) → Bytes → Option (KnownIn S)
known_at = named (λ k. k.object)

-- one object type more is known, if it was not
abbrev pub IsTaught : {S : Type 0} → List (KnownIn S) → Option (KnownIn S) → List (KnownIn S)
    → Type 0
IsTaught old None new = new ≡ old
IsTaught old (Some k) new = (object : Bytes) →
    (known_at new object ≡ known_at old object)
    ⊎ (known_at new object ≡ cond (bytes_eq k.object object) (Some k) (known_at old object))

module _ {S N : Type 0} (here : Evaluation S N) (name : Bytes) (sets : List (Tree S)) where
  -- of an object type that can stand at the type of this name: the groups of what is selected from
  -- it, and what is known of their first fields
  pub record IsKnown (object : Bytes) (k : KnownIn S) : Type 0 where
    pub possible : here.engine.is_possible name object ≡ true
    pub groups : AreGroups here.fragments (found_in here.engine object sets) k.groups
    pub prepared : IfSome k.prepared (ArePrepared (asked_by here.engine) object k.groups)

  -- what is known of an object type, if anything is, is so
  abbrev pub AreKnown : List (KnownIn S) → Type 0
  AreKnown known = (object : Bytes) → IfSome (known_at known object) (IsKnown object)
