use Rattle.std.proofs.Common.{refl, true, [], ◌∷◌, codes}
use Rattle.std.proofs.lemmas.List.Elements.{All-head}
use Rattle.graphql_semantics.specs.Failing.{IsAt}
use Rattle.graphql_law_rows.specs.SampleFailures.{refusing, nick_set, path, failure}
use Rattle.graphql_law_rows.proofs.failures.field_of_a_friend_fails.Goals as goal

pub returns-clause-told : goal.returns-clause-told
returns-clause-told c = refl

pub returns-clause-below : goal.returns-clause-below
returns-clause-below c =
    All-head (IsAt path) failure [] (c.failures_stand_below.ensures refusing path (codes "Dog") true (nick_set ∷ []))
