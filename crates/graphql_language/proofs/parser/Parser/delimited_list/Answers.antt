use Rattle.std.proofs.Common.{refl}
use Rattle.graphql_language.specs.Lists.{Item, AnyItems, unopened, unlisted}
use Rattle.graphql_language.proofs.Lists.{until_same, listed_as}
use Rattle.graphql_language.proofs.parser.Parser.delimited_list.Goals as goal

pub returns-in-Err-clause-list : goal.returns-in-Err-clause-list
returns-in-Err-clause-list g c = unopened _ _ _ c.in-Err.ensures.calls

pub returns-in-Ok-items_until-clause-list : goal.returns-in-Ok-items_until-clause-list
returns-in-Ok-items_until-clause-list g c =
    let read = until_same c.args.closing.now (Item g.F.Fn c.args.parse) c.new-none.ensures refl c.in-Ok-items_until.ensures.items in
    listed_as c.args.opening.now (AnyItems c.args.closing.now (Item g.F.Fn c.args.parse)) c.in-Ok.first (c.in-Ok-items_until.items, c.in-Ok-items_until.last) c.in-Ok.ensures.calls read c.start_end.ensures

pub returns-clause-list : goal.returns-clause-list
returns-clause-list g c =
    let read = until_same c.args.closing.now (Item g.F.Fn c.args.parse) c.new-none.ensures refl c.in-Err-items_until.ensures.items in
    unlisted _ _ _ _ _ c.in-Ok.ensures.calls read
