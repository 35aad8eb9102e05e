use Rattle.graphql_grammar.specs.Kept.{recorded}
use Rattle.graphql_grammar.proofs.Cursors.{next_token_is}
use Rattle.graphql_grammar.proofs.cursor.Cursor.token.Goals as goal

pub returns : goal.returns
returns c =
    let i = c.self.inside in
    next_token_is c.args.self.now c.records.result.now (recorded i.kept) i.read i.end c.get.result c.self.view_is c.records.ensures c.get.ensures
