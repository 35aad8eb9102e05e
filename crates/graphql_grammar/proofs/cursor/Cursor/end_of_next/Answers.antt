use Rattle.std.proofs.Common.{◌∙◌, ap, rules}
use Rattle.graphql_grammar.specs.Kept.{recorded}
use Rattle.graphql_grammar.specs.Input.{Input, Located}
use Rattle.graphql_grammar.proofs.Cursors.{next_is, end_got, end_none}
use Rattle.graphql_grammar.proofs.cursor.Cursor.end_of_next.Goals as goal

pub returns-in-Some : goal.returns-in-Some
returns-in-Some c =
    let i = c.self.inside in
    let end = next_is (λ (t : Located). t.span.end) c.args.self.now c.records.result.now (recorded i.kept) i.read i.end c.end.result c.self.view_is c.records.ensures c.end.ensures in
    end_got c.args.self.now c.in-Some.end (end ∙ search rules)

pub returns-in-None : goal.returns-in-None
returns-in-None c =
    let i = c.self.inside in
    let end = next_is (λ (t : Located). t.span.end) c.args.self.now c.records.result.now (recorded i.kept) i.read i.end c.end.result c.self.view_is c.records.ensures c.end.ensures in
    ap (λ (j : Input). j.end) c.self.view_is ∙ end_none c.args.self.now (end ∙ search rules)
