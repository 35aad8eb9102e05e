-- Fields of sets that are reached stand together.
use Rattle.std.proofs.Common.{sym, subst, ℕ, ◌<◌, Bool, ◌||◌, List}
use Rattle.std.specs.List.{Contains}
use Rattle.graphql_text.specs.declared.position.SourcePosition.{SourcePosition}
use Rattle.graphql_schema.specs.declared.meta.MetaType.{MetaType}
use Rattle.graphql_merging.specs.Members.{Member}
use Rattle.graphql_merging.specs.Merging.{Together, in_set, in_sets}
use Rattle.graphql_merging.specs.Sets.{Set, members_of}
use Rattle.graphql_merging.specs.Pieces.{Pieces, directly, IsPieceOf, HasOwnPieces, Meets}
use Rattle.graphql_merging.specs.Done.{IsTold}
use Rattle.graphql_merging.proofs.Meeting.{pairs-stay-together}
use Rattle.graphql_rules_merging.specs.Finished.{IsReached, of_definition, other_way, by_fragment, by_fields, IsFound}
use Rattle.graphql_rules_merging.proofs.WholeSets.{apart_either_way}

module _ {S C : Type 0} (eq : S → S → Bool) (types : List (MetaType S C)) where
  together-either-way : (ms : List (Member S C)) (x : Bool) (a b : Member S C)
      → Together eq types ms x a b → Together eq types ms x b a
  together-either-way ms _ _ _ (in_set a b i j e) = in_set b a j i (sym e)
  together-either-way ms _ _ _ (in_sets x a b c d s i j e) =
      let turned = in_sets x b a d c (together-either-way ms x a b s) j i (sym e) in
      subst (λ y. Together eq types ms (x || y) d c) (apart_either_way b a) turned

  module _ (t : Pieces S C) (definitions : ℕ) (roots : List (Set S C)) (owns : HasOwnPieces t eq types)
      (root : (k : ℕ) → k < definitions
      → (set : Set S C) × Contains roots set × IsPieceOf t k (members_of types set)) where
    abbrev MeetsInRoot : ℕ → ℕ → Bool → Type 0
    MeetsInRoot p q x = (set : Set S C) × Contains roots set × Meets t eq types (members_of types set) p q x

    reached-meets : (p q : ℕ) (x : Bool) → IsReached t definitions p q x → MeetsInRoot p q x
    reached-meets _ _ _ (of_definition k small) =
        let r = root k small in
        (r.0, r.1, (pairs-stay-together S C eq types t (members_of types r.0) owns).0 k r.2)
    reached-meets _ _ _ (other_way p q x h) =
        let m = reached-meets p q x h in (
          m.0,
          m.1,
          λ f g i j key. together-either-way (members_of types m.0) x g.member f.member (m.2 g f j i (sym key)),
        )
    reached-meets _ _ _ (by_fragment p q r x h i) =
        let m = reached-meets p q x h in
        (m.0, m.1, (pairs-stay-together S C eq types t (members_of types m.0) owns).1 p q r x m.2 i)
    reached-meets _ _ _ (by_fields p q f g x h i j key) =
        let m = reached-meets p q x h in
        (m.0, m.1, (pairs-stay-together S C eq types t (members_of types m.0) owns).3 p q f g x m.2 i j key)

    -- what is found is told rightly
    pub found_told : (e : List SourcePosition) → IsFound eq types t definitions e → IsTold eq types roots e
    found_told e h =
        let m = reached-meets h.0 h.1 h.2 h.5 in
        let together = m.2 h.3 h.4 (directly h.0 h.3 h.6) (directly h.1 h.4 h.7) h.8 in
        (m.0, m.1, (h.2, h.3.member, h.4.member, together, h.9, h.10))
