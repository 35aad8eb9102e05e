-- What is selected from a node.
use Rattle.std.proofs.Common.{◌≡◌, subst, Bool, true, List, Option, Some, None}
use Rattle.std.specs.Borrow.{Bor}
use Rattle.std.specs.Prelude.{IfSome}
use Rattle.std.proofs.lemmas.Slice.Eq.{bytes_eq-Decides}
use Rattle.graphql_scalars.specs.ScalarAnswers.{ScalarAnswer}
use Rattle.graphql_names.specs.Names.{Bytes}
use Rattle.graphql_names.proofs.NameMaps.{found_is_in}
use Rattle.graphql_collected.specs.declared.request.Request.{Request}
use Rattle.graphql_collected.specs.Requests.{fragments_in}
use Rattle.graphql_written_out.specs.Trees.{Tree}
use Rattle.graphql_execution_walk.specs.Engines.{Resolves}
use Rattle.graphql_execution_walk.specs.Evaluations.{Evaluation, evaluation_of}
use Rattle.graphql_execution_walk.specs.KnownTypes.{AreKnown, IsKnown, KnownIn}
use Rattle.graphql_execution_walk.specs.Sets.{AreGroups, sets_in, sets_of}
use Rattle.graphql_execution_walk.specs.Spots.{IsCollected, IsSpot, MayStand, known_in_list}
use Rattle.graphql_execution_walk.specs.declared.asked.Asked.{Asked}
use Rattle.graphql_execution_walk.specs.declared.beginning.Spot.{Spot}
use Rattle.graphql_execution_walk.proofs.EngineParts.{engine-found, prepared-if}

module _ {S N : Type 0} (here : Evaluation S N) (name : Bytes) (sets : List (Tree S)) (object : Bytes) where
  is-known : (found : Option (KnownIn S)) (k : KnownIn S) → IfSome found (IsKnown here name sets object) → found ≡ Some k → IsKnown here name sets object k
  is-known found k h is = subst (λ f. IfSome f (IsKnown here name sets object)) is h

  of-type : (known : Option (Bor (List (KnownIn S)))) (k : KnownIn S) → IfSome known (λ ks. AreKnown here name sets ks.now) → known_in_list known object ≡ Some k
      → (k.object ≡ object) × IsKnown here name sets object k
  of-type None k are is = (let q : None ≡ Some k = is in cc)
  of-type (Some ks) k are is =
      let parts = found_is_in (λ (x : KnownIn S). x.object) ks.now object k is in
      ((bytes_eq-Decides k.object object).0 parts.0, is-known (known_in_list (Some ks) object) k (are object) is)

-- what the list knows of an object type is of that type
pub listed-stands : {S C N : Type 0} (here : Evaluation S N) (request : Request S C) (spot : Spot S) (object : Bytes) (k : KnownIn S) → IsSpot here request spot → known_in_list spot.known object ≡ Some k
    → MayStand here spot object (Some k)
listed-stands here request spot object k is found = of-type here spot.name.now (sets_of here.fragments spot.selected) object spot.known k is.known found

-- what was collected of an object type is of that type
module _ {S C N : Type 0} (of_text : Bytes → S) (of_bool : Bool → S) (answer : S → ScalarAnswer) (request : Request S C) (root : N) (concrete : N → Bytes) (resolves : Resolves S N) where
  abbrev over : Evaluation S (Asked S N C)
  over = evaluation_of of_text of_bool answer request root concrete resolves

  pub collected-stands : (spot : Spot S) (object : Bytes) (k : KnownIn S) → over.engine.is_possible spot.name.now object ≡ true → IsCollected answer request spot object k → MayStand over spot object (Some k)
  collected-stands spot object k may is = (
    is.named,
    record {
      possible = may;
      groups = subst (λ xs. AreGroups (fragments_in request) xs k.groups) (engine-found of_text of_bool answer request concrete resolves object (sets_in request spot.selected)) is.groups;
      prepared = prepared-if of_text of_bool answer request concrete resolves object k.groups k.prepared is.prepared;
    },
  )
