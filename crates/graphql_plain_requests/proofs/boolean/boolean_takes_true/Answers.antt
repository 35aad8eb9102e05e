use Rattle.std.proofs.Common.{refl, rules}
use Rattle.graphql_plain_requests.proofs.boolean.boolean_takes_true.Goals as goal

pub returns-in-Ok : goal.returns-in-Ok
returns-in-Ok g c = (
  (λ _. record {
    boolean = c.in-Some-Scalar.boolean;
    declared = search rules;
    takes = rw (← c.from_bool.ensures) c.in-Ok.ensures;
  }),
  (λ _. refl),
)
