-- Selection sets that are alike for two mutations, on each context
-- (GraphQL October 2021, 6.2.2 Mutation).
use Rattle.std.specs.Prelude.{◌≡◌, List}
use Rattle.graphql_names.specs.Names.{Bytes}
use Rattle.graphql_written_out.specs.Trees.{Directives, Head, Tree}
use Rattle.graphql_mutation.specs.Serial.{Mutation, step_of}
use Rattle.graphql_plain_answers.specs.AlikeSets.{AreAnsweredAlike, AreOverOneSchema, EachAlike}
use Rattle.graphql_plain_answers.specs.AlikeSets.{LeaveOutAlike, TreesAlike}

module _ {S N X : Type 0} (m n : Mutation S N X) where
  -- on each context
  abbrev pub AskOverOneSchema : Type 0
  AskOverOneSchema = (c : X) → AreOverOneSchema (m.engine c) (n.engine c)

  -- fields that are answered alike on each context, also where they change it
  pub record AreServedAlike (head other : Head S) : Type 0 where
    pub answered : (c : X) → AreAnsweredAlike (m.engine c) (n.engine c) head other
    pub steps : (c : X) (object : Bytes) → step_of m object c head ≡ step_of n object c other

  abbrev pub AlwaysLeaveOutAlike : Directives S → Directives S → Type 0
  AlwaysLeaveOutAlike directives marks =
      (c : X) → LeaveOutAlike (m.engine c) (n.engine c) directives marks

  -- sets whose fields are served alike, and of which the same is left out
  abbrev pub SetsServedAlike : Tree S → Tree S → Type 0
  SetsServedAlike = TreesAlike AreServedAlike AlwaysLeaveOutAlike

  -- each two of these sets, one by one, are served alike
  abbrev pub SetsAreAlike : List (Tree S) → List (Tree S) → Type 0
  SetsAreAlike = EachAlike SetsServedAlike
