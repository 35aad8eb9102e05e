use Rattle.graphql_language.specs.Lists.{Item, SomeItems, unopened, unlisted}
use Rattle.graphql_language.proofs.Lists.{listed_as}
use Rattle.graphql_language.proofs.parser.Parser.unlocated_delimited_nonempty_list.Goals as goal

pub returns-in-Err-clause-list : goal.returns-in-Err-clause-list
returns-in-Err-clause-list g c = unopened _ _ _ c.in-Err.ensures.calls

pub returns-in-Ok-some_items_until-clause-list : goal.returns-in-Ok-some_items_until-clause-list
returns-in-Ok-some_items_until-clause-list g c =
    listed_as c.args.opening.now (SomeItems c.args.closing.now (Item g.F.Fn c.args.parse)) c.in-Ok.first (c.in-Ok-some_items_until.items, c.in-Ok-some_items_until.last) c.in-Ok.ensures.calls c.in-Ok-some_items_until.ensures.items c.start_end.ensures

pub returns-clause-list : goal.returns-clause-list
returns-clause-list g c = unlisted _ _ _ _ _ c.in-Ok.ensures.calls c.in-Err-some_items_until.ensures.items
