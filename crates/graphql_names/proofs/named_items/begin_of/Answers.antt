use Rattle.std.proofs.Common.{rules, is_lt, nat_cmp}
use Rattle.std.specs.Cmp.Lexicographic.{slice_cmp}
use Rattle.std.proofs.lemmas.List.Sorted.{IsPartitionPoint-from_clause}
use Rattle.graphql_names.specs.Indexes.{name_at}
use Rattle.graphql_names.proofs.Indexes.{parted}
use Rattle.graphql_names.proofs.named_items.begin_of.Goals as goal

pub returns-clause-split : goal.returns-clause-split
returns-clause-split g c =
    λ index. IsPartitionPoint-from_clause (λ place. is_lt (slice_cmp nat_cmp (name_at g.T.Named.name_of c.args.items.now place) c.args.name.now)) c.args.by_name.now c.partition_point.result
    c.partition_point.ensures.partitioned (parted g.T.Named.name_of c.args.items.now c.args.by_name.now index c.args.name.now) (λ a r f' k. (search rules, search rules))
