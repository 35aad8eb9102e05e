use Rattle.std.proofs.Common.{◌≡◌, ap, ◌∙◌, arith}
use Rattle.graphql_merging.specs.FieldNodes.{document_nodes}
use Rattle.graphql_schema.specs.Declarations.{declarations_of}
use Rattle.graphql_set_table.specs.Reading.{nodes_in, sets_at}
use Rattle.graphql_set_table.proofs.TableLemmas.{nodes-first}
use Rattle.graphql_set_table.proofs.table.numbered_sets.Goals as goal

pub returns-in-Ok-clause-once : goal.returns-in-Ok-clause-once
returns-in-Ok-clause-once g c =
    let document = c.args.document.now in
    let first : nodes_in (sets_at c.in_ok-ahead.ahead) ≡ document_nodes document =
    ap nodes_in c.in_ok-ahead.ensures ∙ nodes-first (declarations_of c.args.schema.now) document in
    omega (arith, c.in-Ok.ensures.once, first)
