-- Where an answer is completed, and what is selected there.
use Rattle.std.specs.Borrow.{Bor}
use Rattle.std.specs.Prelude.{◌≡◌, false, IfSome, List, Option, Some, None, Result}
use Rattle.graphql_names.specs.Names.{Bytes}
use Rattle.graphql_scalars.specs.ScalarAnswers.{ScalarAnswer}
use Rattle.graphql_collected.specs.declared.request.Request.{Request}
use Rattle.graphql_collected.specs.Requests.{fragments_in}
use Rattle.graphql_names.specs.declared.type_modifier.TypeModifier.{TypeModifier}
use Rattle.graphql_field_results.specs.declared.field_error.FieldError.{FieldError}
use Rattle.graphql_field_results.specs.declared.field_fault.FieldFault.{FieldFault}
use Rattle.graphql_field_results.specs.declared.resolved.Resolved.{Resolved}
use Rattle.graphql_execution_walk.specs.declared.frames.Begun.{Begun}
use Rattle.graphql_execution_walk.specs.declared.beginning.Spot.{Spot}
use Rattle.graphql_execution_walk.specs.Begins.{BeginsOrErrs}
use Rattle.graphql_execution_walk.specs.Evaluations.{Evaluation}
use Rattle.graphql_execution_walk.specs.FieldDeclarations.{is_leaf_named}
use Rattle.graphql_execution_walk.specs.KnownTypes.{AreKnown, IsKnown, KnownIn, known_at}
use Rattle.graphql_execution_walk.specs.Prepared.{ArePrepared, asked_in}
use Rattle.graphql_execution_walk.specs.Sets.{AreGroups, selected_in, sets_in, sets_of}

-- what is told of the type there is so, and what the list knows that the place stands in
pub record IsSpot {S C N : Type 0} (here : Evaluation S N) (request : Request S C)
    (spot : Spot S) : Type 0 where
  pub leaf : IfSome spot.is_leaf
      (λ told. told ≡ is_leaf_named request.schema.now.types spot.name.now)
  pub known : IfSome spot.known (λ known.
      AreKnown here spot.name.now (sets_of here.fragments spot.selected) known.now)

-- what the list knows of an object type, in which the place stands
abbrev pub known_in_list : {S : Type 0} → Option (Bor (List (KnownIn S))) → Bytes
    → Option (KnownIn S)
known_in_list None object = None
known_in_list (Some known) object = known_at known.now object

-- what is selected from an object type at such a place, collected
module _ {S C : Type 0} (answer : S → ScalarAnswer) (request : Request S C) (spot : Spot S)
    (object : Bytes) where
  pub record IsCollected (k : KnownIn S) : Type 0 where
    pub named : k.object ≡ object
    pub groups : AreGroups (fragments_in request)
        (selected_in answer request (sets_in request spot.selected) object) k.groups
    pub prepared : IfSome k.prepared (ArePrepared (asked_in request) object k.groups)

module _ {S N : Type 0} (here : Evaluation S N) (spot : Spot S) where
  -- what is selected from an object type there, where an object of it can stand
  abbrev pub MayStand : Bytes → Option (KnownIn S) → Type 0
  MayStand object None = here.engine.is_possible spot.name.now object ≡ false
  MayStand object (Some k) = (k.object ≡ object)
      × IsKnown here spot.name.now (sets_of here.fragments spot.selected) object k

  -- what has begun there, by the wraps of the type, the outermost first
  abbrev pub BeginsAt : List TypeModifier → Result (Resolved S N) (FieldError S)
      → Result (Begun S N) (FieldFault S) → Type 0
  BeginsAt wraps answer = BeginsOrErrs here (sets_of here.fragments spot.selected) spot.name.now
      spot.location wraps answer
