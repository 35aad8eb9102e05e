-- Resolvers that keep the laws of their traits (GraphQL October 2021, 6.4.2 Value Resolution).
use Rattle.std.specs.Prelude.{◌≡◌, Bool}
use Rattle.graphql_names.specs.Names.{Bytes}
use Rattle.graphql_scalars.specs.ScalarAnswers.{ScalarAnswer}
use Rattle.graphql_schema.specs.declared.schema.SchemaType.{SchemaType}
use Rattle.graphql_arguments.specs.ArgumentValues.{Given}
use Rattle.graphql_arguments.specs.SameArguments.{SameArguments, SameInOrder}
use Rattle.graphql_execution_walk.specs.Engines.{Resolves}
use Rattle.graphql_execution_walk.specs.declared.asked.Asked.{Asked}
use Rattle.graphql_mutation.specs.Mutations.{Changes, mutation_over}
use Rattle.graphql_mutation.specs.Serial.{Mutation}
use Rattle.graphql_plain_answers.specs.AgreeingValues.{Values}

-- a resolver answers the same by argument values that are the same under each name; at a mutation's
-- root it answers and changes the same by those that are the same in one order
-- `eq`: which scalars are the same
pub record IsLawful {S N X : Type 0} (eq : S → S → Bool) (resolves : X → Resolves S N)
    (changes : Changes S N X) : Type 0 where
  pub respects : (c : X) (node : N) (name : Bytes) (a b : Given S) → SameArguments eq a b
      → resolves c node name a ≡ resolves c node name b
  pub respects_root : (c : X) (name : Bytes) (a b : Given S) → SameInOrder eq a b
      → (changes.answer c name a ≡ changes.answer c name b)
      × (changes.after c name a ≡ changes.after c name b)

-- `of_text`, `of_bool`, `answer`, `eq`: of the scalars
module _ {S : Type 0} (of_text : Bytes → S) (of_bool : Bool → S) (answer : S → ScalarAnswer)
    (eq : S → S → Bool) (C N X : Type 0) where
  -- over each schema and each such resolver, of what is asked of them by values of variables
  abbrev pub ForEachLawful : ((Values S → Mutation S (Asked S N C) X) → Type 0) → Type 0
  ForEachLawful Holds =
      (schema : SchemaType S C) (type_of : X → N → Bytes)
      (resolves : X → Resolves S N) (changes : Changes S N X) → IsLawful eq resolves changes
      → Holds (λ given. mutation_over of_text of_bool answer schema given type_of resolves changes)
