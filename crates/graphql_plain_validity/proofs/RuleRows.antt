-- A schema with interfaces, two objects and a union, with `Boolean` and the directives of the standard: it is as stand-ins ask.
use Rattle.std.proofs.Common.{◌≡◌, refl, ℕ, true, ◌∷◌, [], None, cond}
use Rattle.std.specs.Prelude.{codes}
use Rattle.graphql_values.specs.declared.input_value.InputValue.{InputValue}
use Rattle.graphql_schema.specs.declared.meta.MetaType.TheVariants as meta
use Rattle.graphql_schema.specs.declared.meta.scalar.ScalarMeta.{ScalarMeta}
use Rattle.graphql_schema.specs.Declarations.{Declarations}
use Rattle.graphql_schema.specs.Directives.{has_standard_conditions}
use Rattle.graphql_schema.specs.StandardDirectives.{standard_directives}
use Rattle.graphql_schema.proofs.Rows.{being, dog, either, human, named_type, query_type, roots, string}
use Rattle.graphql_plain_validity.specs.Schemas.{TakesTrue}

abbrev boolean_scalar : ScalarMeta ℕ
boolean_scalar =
    record { name = codes "Boolean"; description = None; specified_by_url = None; check = 1 }

abbrev pub beings_schema : Declarations ℕ ℕ
beings_schema = record {
  types =
      being ∷ meta.Scalar boolean_scalar ∷ dog ∷ either ∷ human ∷ named_type ∷ query_type ∷ string ∷ [];
  roots = roots;
  directives = standard_directives (λ text. 0);
}

pub skip_is_standard : has_standard_conditions beings_schema.directives ≡ true
skip_is_standard = refl

-- a check that takes every value
abbrev takes_all : ℕ → InputValue ℕ → Type 0
takes_all check v = Unit {0}

pub true_is_taken : TakesTrue takes_all beings_schema (λ b. cond b 1 0)
true_is_taken = record { boolean = boolean_scalar; declared = refl; takes = tt }
