-- Three data joined in two ways.
use Rattle.std.proofs.Common.{◌≡◌, ◌∙◌, Bool, refl, subst, Result, Ok, Err}
use Rattle.std.specs.Prelude.{IsErrAnd}
use Rattle.graphql_output_values.specs.declared.value.Value.{Value}
use Rattle.graphql_joins.specs.Joins.{IsJoin}
use Rattle.graphql_joins.specs.Laws.{JoinsAreOne}
use Rattle.graphql_joined_data.specs.Joining.{AreOneWhereEqual, JoinsOrDiffers}
use Rattle.graphql_joined_data.specs.declared.join_fault.JoinFault.{JoinFault}
use Rattle.graphql_joined_data.specs.declared.join_fault.JoinFault.TheVariants as fault
use Rattle.graphql_stores_tests.specs.Joined.{GivesTwice, IsJoinOfThree}

module _ {S : Type 0} (same : S → S → Bool) where
  -- where there is a join, an error is want of memory
  never-differ : (x y joined : Value S) → IsJoin x y joined → (why : JoinFault) → JoinsOrDiffers same x y (Err why) → why ≡ fault.Memory
  never-differ x y joined is (fault.Disagree path) h = absurd (h.1 joined is)
  never-differ x y joined is fault.Memory h = refl

  tells-memory : (whole : Value S) (r : Result (Value S × Value S) JoinFault) (why : JoinFault) → IsErrAnd r (λ e. e ≡ why)
      → why ≡ fault.Memory → GivesTwice whole r
  tells-memory whole (Ok both) why h memory = absurd h
  tells-memory whole (Err (fault.Disagree path)) why h memory =
      let bad : fault.Disagree path ≡ fault.Memory = h ∙ memory in absurd (cc)
  tells-memory whole (Err fault.Memory) why h memory = tt

  module _ (law : JoinsAreOne S) (exact : AreOneWhereEqual same) (x y z whole : Value S) (is : IsJoinOfThree x y z whole) where
    with-third : (front : Value S) → (AreOneWhereEqual same → IsJoin x y front) → IsJoin front z whole
    with-third front joins = subst (λ v. IsJoin v z whole) (law x y is.front front is.front_joined (joins exact)) is.with_third

    with-first : (back : Value S) → (AreOneWhereEqual same → IsJoin y z back) → IsJoin x back whole
    with-first back joins = subst (λ v. IsJoin x v whole) (law y z is.back back is.back_joined (joins exact)) is.with_first

    pub are-whole : (front one back other : Value S) → (AreOneWhereEqual same → IsJoin x y front)
        → (AreOneWhereEqual same → IsJoin front z one) → (AreOneWhereEqual same → IsJoin y z back)
        → (AreOneWhereEqual same → IsJoin x back other) → (one ≡ whole) × (other ≡ whole)
    are-whole front one back other f g h k = (
      law front z one whole (g exact) (with-third front f),
      law x back other whole (k exact) (with-first back h),
    )

    module _ (r : Result (Value S × Value S) JoinFault) (why : JoinFault) (told : IsErrAnd r (λ e. e ≡ why)) where
      pub no-front : JoinsOrDiffers same x y (Err why) → GivesTwice whole r
      no-front h = tells-memory whole r why told (never-differ x y is.front is.front_joined why h)

      pub no-back : JoinsOrDiffers same y z (Err why) → GivesTwice whole r
      no-back h = tells-memory whole r why told (never-differ y z is.back is.back_joined why h)

      pub no-third : (front : Value S) → (AreOneWhereEqual same → IsJoin x y front) → JoinsOrDiffers same front z (Err why)
          → GivesTwice whole r
      no-third front f h = tells-memory whole r why told (never-differ front z whole (with-third front f) why h)

      pub no-first : (back : Value S) → (AreOneWhereEqual same → IsJoin y z back) → JoinsOrDiffers same x back (Err why)
          → GivesTwice whole r
      no-first back f h = tells-memory whole r why told (never-differ x back whole (with-first back f) why h)
