use Rattle.graphql_rules_document.proofs.NameSetLemmas.{put_name}
use Rattle.graphql_rules_document.proofs.names.add.Goals as goal

pub returns : goal.returns
returns c q = put_name c.args.name c.args.names.now.keys c.insert.new.self.keys c.in_ok-insert.field-0 c.in_ok-insert.ensures.added c.in_ok-insert.ensures.keys q
