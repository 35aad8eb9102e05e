-- Two objects that differ under their one key, and three data joined (GraphQL October 2021, 6.4.3
-- Value Completion, MergeSelectionSets).
use Rattle.std.specs.Prelude.{◌≡◌, [], ◌∷◌, Result, Ok, Err}
use Rattle.graphql_names.specs.Names.{Bytes}
use Rattle.graphql_output_values.specs.declared.value.Value.{Value}
use Rattle.graphql_output_values.specs.declared.value.Value.TheVariants as value
use Rattle.graphql_joins.specs.Joins.{IsJoin}
use Rattle.graphql_joined_data.specs.declared.join_fault.JoinFault.{JoinFault}
use Rattle.graphql_joined_data.specs.declared.join_fault.JoinFault.TheVariants as fault

-- the object that has a scalar under a key, and no other key
abbrev pub object_with : {S : Type 0} → Bytes → S → Value S
object_with key scalar =
    value.Object (record { fields = (key, value.Scalar scalar) ∷ [] })

-- there is no join, and it is told where the two differ: under that key. Want of memory tells
-- nothing
abbrev pub TellsKey : {A : Type 0} → Bytes → Result A JoinFault → Type 0
TellsKey key (Ok joined) = ⊥
TellsKey key (Err (fault.Disagree path)) = path ≡ key ∷ []
TellsKey key (Err fault.Memory) = Unit {0}

module _ {S : Type 0} where
  -- the whole is the join of the three, whichever two are joined first
  pub record IsJoinOfThree (first second third whole : Value S) : Type 0 where
    pub front : Value S
    pub front_joined : IsJoin first second front
    pub with_third : IsJoin front third whole
    pub back : Value S
    pub back_joined : IsJoin second third back
    pub with_first : IsJoin first back whole

  -- both are the whole. Want of memory tells nothing
  abbrev pub GivesTwice : Value S → Result (Value S × Value S) JoinFault → Type 0
  GivesTwice whole (Ok both) = (both.0 ≡ whole) × (both.1 ≡ whole)
  GivesTwice whole (Err (fault.Disagree path)) = ⊥
  GivesTwice whole (Err fault.Memory) = Unit {0}
