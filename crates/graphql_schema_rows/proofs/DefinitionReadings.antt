-- By two readings of scalars definitions are read alike, up to the first scalar that one of them refuses.
use Rattle.std.proofs.Common.{Bool, true}
use Rattle.graphql_grammar.specs.declared.kind.Kind.TheVariants as k
use Rattle.graphql_grammar.specs.Kinds.{enum_names, names, only}
use Rattle.graphql_grammar.specs.Steps.{name, name_in, name_of}
use Rattle.graphql_grammar.specs.Faults.{Reading}
use Rattle.graphql_grammar.proofs.Readings.{Twins, twins_bind, twins_expect, twins_located, twins_made, twins_optional, twins_some_between, twins_token}
use Rattle.graphql_value_syntax.proofs.Readings.{twins_directives, twins_type, twins_value}
use Rattle.graphql_schema_rows.specs.ReadDefinitions.{argument, argument_definition, description, enum_value, field, field_definition, head, head_of, value_definition}

module _ {S : Type 0} (q r : Reading S) where
  twins_word : Twins q r name name
  twins_word = twins_token q r names name_of

  twins_value_name : Twins q r (name_in enum_names) (name_in enum_names)
  twins_value_name = twins_token q r enum_names name_of

  twins_description : Twins q r description description
  twins_description = twins_optional q r (only k.Scalar) (twins_located q r (twins_token q r (only k.Scalar) (λ v. v)))

  pub twins_head : Twins q r head head
  unfolding head
  twins_head = twins_bind q r twins_description (λ w x. twins_made q r (λ n. head_of w n) (λ n. head_of x n) twins_word)

  module _ (of_bool : Bool → S) where
    pub twins_argument : Twins q r (argument q of_bool) (argument r of_bool)
    unfolding argument
    twins_argument = twins_bind q r twins_description (λ w x. twins_bind q r twins_word (λ n o. twins_bind q r (twins_expect q r k.Colon) (λ u z. twins_bind q r (twins_type q r of_bool) (λ t s.
        twins_made q r (λ d. argument_definition w n t d) (λ d. argument_definition x o s d) (twins_optional q r (only k.Equals) (twins_bind q r (twins_expect q r k.Equals) (λ a b. twins_value q r of_bool true)))))))

    pub twins_field : Twins q r (field q of_bool) (field r of_bool)
    unfolding field
    twins_field = twins_bind q r twins_description (λ w x. twins_bind q r twins_word (λ n o. twins_bind q r (twins_optional q r (only k.ParenOpen) (twins_some_between q r twins_argument k.ParenClose k.ParenOpen)) (λ xs ys.
        twins_bind q r (twins_expect q r k.Colon) (λ u z. twins_bind q r (twins_type q r of_bool) (λ t s.
        twins_made q r (λ ds. field_definition w n xs t ds) (λ ds. field_definition x o ys s ds) (twins_directives q r of_bool true))))))

    pub twins_enum_value : Twins q r (enum_value q of_bool) (enum_value r of_bool)
    unfolding enum_value
    twins_enum_value = twins_bind q r twins_description (λ w x. twins_bind q r twins_value_name (λ n o.
        twins_made q r (λ ds. value_definition w n ds) (λ ds. value_definition x o ds) (twins_directives q r of_bool true)))
