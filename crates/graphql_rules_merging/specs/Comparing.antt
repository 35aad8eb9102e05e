-- Which fields of two selection sets are compared, and what is told and begun of them (GraphQL
-- October 2021, 5.3.2 Field Selection Merging).
use Rattle.std.specs.Prelude.{◌≡◌, eqb, Bool, ◌||◌, List, [], ◌∷◌, ◌++◌, map, ◌⊎◌, if◌then◌else◌}
use Rattle.std.specs.List.{Contains, flat_map}
use Rattle.graphql_schema.specs.declared.meta.MetaType.{MetaType}
use Rattle.graphql_rule_errors.specs.Places.{Places}
use Rattle.graphql_merging.specs.Members.{Member}
use Rattle.graphql_merging.specs.Merging.{Agree, apart}
use Rattle.graphql_merging.specs.Pieces.{Pieces, PieceField}
use Rattle.graphql_merging.specs.Told.{AddsErrors, AgreeIfOneKey}
use Rattle.graphql_bundles.specs.Conflicts.{places}
use Rattle.graphql_rules_merging.specs.declared.agenda.SetPair.{SetPair}
use Rattle.graphql_rules_merging.specs.declared.progress.Progress.{Progress}
use Rattle.graphql_rules_merging.specs.Agenda.{pair_of, Listed, listed_of, PairOf, ListsPairs}

-- one with each of others
abbrev pub with_each : {A : Type 0} → A → List A → List (A × A)
with_each {A} x ys = map {B = A × A} (λ y. (x, y)) ys

-- each of some with each of others
abbrev pub between : {A : Type 0} → List A → List A → List (A × A)
between xs ys = flat_map (λ x. with_each x ys) xs

-- each with each that stands later
abbrev pub later : {A : Type 0} → List A → List (A × A)
later [] = []
later (x ∷ xs) = with_each x xs ++ later xs

-- the places of the errors that are told, and the pairs of sets that are listed
pub record Stage : Type 0 where
  pub told : Places
  pub listed : Listed

-- how far the comparison is: what is told, and what is listed
abbrev pub stage_of : Progress → Stage
stage_of progress = record { told = places progress.told; listed = listed_of progress.agenda }

module _ {S C : Type 0} where
  -- the two fields of a pair, their sets written out
  abbrev pub members_in : PieceField S C × PieceField S C → Member S C × Member S C
  members_in p = (p.0.member, p.1.member)

  -- two fields have one response key
  abbrev pub HasOneKey : PieceField S C × PieceField S C → Type 0
  HasOneKey p = p.0.member.head.key ≡ p.1.member.head.key

  -- the own sets of two fields
  abbrev pub own_sets : Bool → PieceField S C × PieceField S C → SetPair
  own_sets x p = pair_of p.0.own p.1.own (x || apart p.0.member p.1.member)

  -- the own sets of a field of the one list and a field of the other, of one response key, that are
  -- such
  abbrev pub OwnSets : Bool → (PieceField S C × PieceField S C → Type 0) → List (PieceField S C)
      → List (PieceField S C) → SetPair → Type 0
  OwnSets x P fs gs other = (p : PieceField S C × PieceField S C)
      × Contains fs p.0
      × Contains gs p.1
      × HasOneKey p
      × P p
      × (other ≡ own_sets x p)

  module _ (t : Pieces S C) where
    -- the pairs of fields that two sets hold: of one set with itself each with each that stands
    -- later
    abbrev pub field_pairs : SetPair → List (PieceField S C × PieceField S C)
    field_pairs pair = if eqb pair.left pair.right then later (t.direct pair.left)
        else between (t.direct pair.left) (t.direct pair.right)

    -- two sets lead to a pair of sets: a fragment in the one with the other, or the own sets of two
    -- fields of one response key that are such
    abbrev pub LeadsTo : (PieceField S C × PieceField S C → Type 0) → SetPair → SetPair → Type 0
    LeadsTo P pair other =
        PairOf (λ r. pair_of r pair.right pair.around) (λ r. Unit {0}) (t.inner pair.left) other
        ⊎ (PairOf (λ r. pair_of r pair.left pair.around) (λ r. Unit {0}) (t.inner pair.right) other
        ⊎ OwnSets pair.around P (t.direct pair.left) (t.direct pair.right) other)

module _ {S C : Type 0} (eq : S → S → Bool) (types : List (MetaType S C)) where
  -- the two fields of a pair agree
  abbrev pub DoAgree : Bool → PieceField S C × PieceField S C → Type 0
  DoAgree x p = Agree eq types x p.0.member p.1.member

  module _ (t : Pieces S C) where
    -- the pairs of fields are compared: the errors of those that do not fit are told, and the own
    -- sets of those that agree are begun
    pub record Compares (x : Bool) (ps : List (PieceField S C × PieceField S C))
        (old new : Stage) : Type 0 where
      pub told : AddsErrors (AgreeIfOneKey eq types x) (map members_in ps) old.told new.told
      pub begun : ListsPairs t (PairOf (own_sets x) (λ p. HasOneKey p × DoAgree x p) ps)
          (PairOf (own_sets x) HasOneKey ps) old.listed new.listed

    -- two sets are compared: their fields are told, and the pairs to which they lead are begun
    pub record ComparesSets (pair : SetPair) (old new : Stage) : Type 0 where
      pub told : AddsErrors (AgreeIfOneKey eq types pair.around)
          (map members_in (field_pairs t pair)) old.told
          new.told
      pub begun : ListsPairs t (LeadsTo t (DoAgree pair.around) pair)
          (LeadsTo t (λ p. Unit {0}) pair)
          old.listed new.listed
