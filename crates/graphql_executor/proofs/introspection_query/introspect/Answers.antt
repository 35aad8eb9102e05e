use Rattle.std.proofs.Common.{None, string_bytes}
use Rattle.std.specs.Str.{bytes_eq, chars}
use Rattle.std.specs.Map.{lookup}
use Rattle.graphql_executor.specs.Answered.{asking}
use Rattle.graphql_executor.proofs.SameAsking.{answered-alike, left-alike, refused-alike}
use Rattle.graphql_executor.proofs.introspection_query.introspect.Goals as goal

-- the text is that of the query, and no variable is given a value
pub returns-clause-answered : goal.returns-clause-answered
returns-clause-answered g c =
    let root = c.args.root_node.now in
    answered-alike _ _ _ (λ i. asking root.schema root.introspection_disabled (chars (c.query_text-query.ensures i)) None
    (λ bs. lookup (λ k. bytes_eq bs (string_bytes k)) (c.new-variables.ensures.empty i)))
    c.execute_sync.result _ _ _ _ c.execute_sync.ensures.answered

pub returns-clause-refused : goal.returns-clause-refused
returns-clause-refused g c =
    let root = c.args.root_node.now in
    refused-alike _ _ _ (λ i. asking root.schema root.introspection_disabled (chars (c.query_text-query.ensures i)) None
    (λ bs. lookup (λ k. bytes_eq bs (string_bytes k)) (c.new-variables.ensures.empty i)))
    c.execute_sync.result _ c.execute_sync.ensures.refused

pub returns-clause-unanswered : goal.returns-clause-unanswered
returns-clause-unanswered g c =
    let root = c.args.root_node.now in
    left-alike _ _ _ (λ i. asking root.schema root.introspection_disabled (chars (c.query_text-query.ensures i)) None
    (λ bs. lookup (λ k. bytes_eq bs (string_bytes k)) (c.new-variables.ensures.empty i)))
    c.execute_sync.result _ _ _ c.execute_sync.ensures.unanswered
