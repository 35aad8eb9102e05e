use Rattle.std.proofs.Common.{subst, rules}
use Rattle.graphql_rule_errors.specs.Places.{places}
use Rattle.graphql_schema.proofs.MeantScalars.{scalars_of}
use Rattle.graphql_schema.specs.Declarations.{declarations_of}
use Rattle.graphql_validation.specs.AllRules.{RequestTold}
use Rattle.graphql_requests.proofs.prepared.valid_document.Goals as goal

pub returns-then-not-is_empty-clause-refused : goal.returns-then-not-is_empty-clause-refused
returns-then-not-is_empty-clause-refused g c =
    let scalars = scalars_of g.S.ParseScalarValue g.S.ScalarValue g.S.PartialEq g.S.Check.Check in
    rw c.from.ensures (λ text only. record {
      document = c.args.document;
      spelled = only.spelled;
      alone = only.alone;
      told =
          subst (λ d. RequestTold scalars
          (record { schema = declarations_of c.args.root_node.now.schema; document = d })
          c.args.root_node.now.introspection_disabled (places c.in_ok-errors.errors))
          c.as_slice.ensures c.in_ok-errors.ensures.told;
      at_least_one = search rules;
    })
