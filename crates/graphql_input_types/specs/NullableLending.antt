-- What values that may be null end as, once the `&mut` that they lent has ended.
use Rattle.std.specs.Prelude.{Option}
use Rattle.std.specs.Borrow.{Fml, MutBor, RattleType, LendsIf}
use Rattle.graphql_input_types.specs.contracts.nullable.Nullable.{the_row}
use Rattle.graphql_input_types.specs.declared.nullable.Nullable.{Nullable}
use Rattle.graphql_input_types.specs.declared.nullable.Nullable.TheVariants as nullable

module _ (T : RattleType) where
  -- a value ends as what is last behind the reference, and a null stays
  abbrev pub LendsValue : MutBor (Nullable T.Denot) → Option (MutBor T.Denot) → Fml
  LendsValue x r = LendsIf (the_row T) T x r (λ w. nullable.Some w) x.now
