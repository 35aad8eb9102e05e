-- Which types have the field `__typename`.
use Rattle.std.proofs.Common.{◌≡◌, Bool, true, false, refl}
use Rattle.std.specs.Prelude.{◌↔◌, IsTrue}
use Rattle.graphql_schema.specs.declared.meta.MetaType.{MetaType}
use Rattle.graphql_schema.specs.declared.meta.MetaType.TheVariants as meta
use Rattle.graphql_schema.specs.Kinds.{IsComposite}
use Rattle.graphql_schema.specs.Declarations.{is_composite}

is_false : (b : Bool) → (b ≡ true → ⊥) → b ≡ false
is_false true h = absurd (h refl)
is_false false h = refl

module _ {S C : Type 0} where
  -- a test that decides which types are composite
  pub composite_is : (m : MetaType S C) (b : Bool) → (IsTrue b ↔ IsComposite m) → b ≡ is_composite m
  composite_is (meta.Object m) b h = h.1 tt
  composite_is (meta.Interface m) b h = h.1 tt
  composite_is (meta.Union m) b h = h.1 tt
  composite_is (meta.Scalar m) b h = is_false b h.0
  composite_is (meta.List m) b h = is_false b h.0
  composite_is (meta.Nullable m) b h = is_false b h.0
  composite_is (meta.Enum m) b h = is_false b h.0
  composite_is (meta.InputObject m) b h = is_false b h.0
  composite_is (meta.Placeholder m) b h = is_false b h.0
