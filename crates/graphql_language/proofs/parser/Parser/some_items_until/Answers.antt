use Rattle.std.proofs.Common.{List, [], ◌∷◌, ◌++◌, ◌∙◌, ap}
use Rattle.graphql_language.specs.Lists.{Item, first, no_first, no_room}
use Rattle.graphql_language.proofs.Lists.{until_same}
use Rattle.graphql_language.proofs.parser.Parser.some_items_until.Goals as goal

pub returns-in-Err-clause-items : goal.returns-in-Err-clause-items
returns-in-Err-clause-items g c = no_first _ _ _ c.in-Err.ensures.item

pub returns-in-Ok-keep_item-clause-items : goal.returns-in-Ok-keep_item-clause-items
returns-in-Ok-keep_item-clause-items g c =
    let kept = c.in-Ok-keep_item.ensures in
    let alone = kept.ok ∙ ap (λ (zs : List g.row.T.Denot). zs ++ c.in-Ok.item ∷ []) c.new-found.ensures in
    first _ _ _ _ _ c.in-Ok.ensures.item (until_same c.args.closing.now (Item g.F.Fn c.args.parse.now) alone kept.stays c.items_until.ensures.items)

pub returns-clause-items : goal.returns-clause-items
returns-clause-items g c = no_room _ _ _ _ _ c.in-Ok.ensures.item c.in-Err-keep_item.ensures.full
