use Rattle.std.proofs.Common.{◌∙◌, sym, rules}
use Rattle.graphql_grammar.specs.Kept.{recorded}
use Rattle.graphql_grammar.specs.Input.{Located}
use Rattle.graphql_grammar.proofs.Cursors.{next_is, kind_got, kind_none, none_ahead}
use Rattle.graphql_grammar.proofs.cursor.Cursor.kind.Goals as goal

pub returns-in-Some : goal.returns-in-Some
returns-in-Some c =
    let i = c.self.inside in
    let item = next_is (λ (t : Located). t.item) c.args.self.now c.records.result.now (recorded i.kept) i.read i.end c.item.result c.self.view_is c.records.ensures c.item.ensures in
    c.kind_of.ensures ∙ sym (kind_got c.args.self.now c.in-Some.item (item ∙ search rules))

pub returns-in-None : goal.returns-in-None
returns-in-None c =
    let i = c.self.inside in
    let item = next_is (λ (t : Located). t.item) c.args.self.now c.records.result.now (recorded i.kept) i.read i.end c.item.result c.self.view_is c.records.ensures c.item.ensures in
    sym (kind_none c.args.self.now (none_ahead (λ (t : Located). t.item) _ (item ∙ search rules)))
