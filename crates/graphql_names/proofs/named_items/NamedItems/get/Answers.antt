use Rattle.std.proofs.Common.{◌∙◌}
use Rattle.graphql_names.proofs.Indexes.{found_in, absent_in}
use Rattle.graphql_names.proofs.named_items.NamedItems.get.Goals as goal

pub returns-in-Some : goal.returns-in-Some
returns-in-Some g c =
    c.item_named.ensures
    ∙ found_in g.T.Named.name_of c.args.self.now c.self.inside.items c.as_slice-items.result.now c.self.view_is c.as_slice-items.ensures c.self.inside.by_name c.as_slice.result.now c.as_slice.ensures
    c.self.invariant c.args.name.now c.begin_of.result c.begin_of.ensures.split c.in-Some.place.now c.in-Some.ensures.value

pub returns-in-None : goal.returns-in-None
returns-in-None g c =
    absent_in g.T.Named.name_of c.args.self.now c.self.inside.items c.as_slice-items.result.now c.self.view_is c.as_slice-items.ensures c.self.inside.by_name c.as_slice.result.now c.as_slice.ensures
    c.self.invariant c.args.name.now c.begin_of.result c.begin_of.ensures.split c.in-None.ensures.value
