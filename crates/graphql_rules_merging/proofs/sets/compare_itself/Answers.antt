use Rattle.std.proofs.lemmas.Result.{on_ok_weaker}
use Rattle.graphql_merging.specs.Tables.{pieces_of, piece_field}
use Rattle.graphql_rules_merging.proofs.WholeSets.{begins_within}
use Rattle.graphql_rules_merging.specs.Agenda.{listed_of}
use Rattle.graphql_rules_merging.proofs.sets.compare_itself.Goals as goal

pub returns-clause-compared : goal.returns-clause-compared
returns-clause-compared g c =
    on_ok_weaker c.compare_within.result
    (λ compares fragments. (
      (compares fragments).told,
      begins_within g.S.PartialEq.eq c.args.schema.now.types (pieces_of fragments c.args.table.now) c.args.around (piece_field fragments) c.args.fields.now
          (listed_of c.args.progress.now.agenda) (listed_of c.begin_own_sets.new.agenda) (listed_of c.compare_within.new.progress.agenda)
          (c.in_ok-begin_own_sets.ensures fragments) (compares fragments).begun,
    ))
    c.compare_within.ensures.compared
