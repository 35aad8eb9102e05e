use Rattle.std.proofs.Common.{ltb, rules}
use Rattle.std.proofs.lemmas.List.Sorted.{IsPartitionPoint-from_clause, IsPartitionedBy-ltb}
use Rattle.graphql_lexer.specs.declared.token_record.TokenRecord.{TokenRecord}
use Rattle.graphql_lexer.proofs.RecordTexts.{parted}
use Rattle.graphql_lexer.proofs.token_texts.starting_before.Goals as goal

pub returns-clause-split : goal.returns-clause-split
returns-clause-split c = λ rise.
    let index = c.args.place.index in
    let start = λ (r : TokenRecord). r.start.index in
    parted c.args.records.now index c.partition_point.result
    (IsPartitionPoint-from_clause (λ (r : TokenRecord). ltb r.start.index index) c.args.records.now c.partition_point.result
    c.partition_point.ensures.partitioned (IsPartitionedBy-ltb start c.args.records.now index rise) (λ a r f' k. (search rules, search rules)))
