use Rattle.std.proofs.Common.{◌≡◌, ap, sym, subst, ◌∙◌, ◌∷◌, [], map}
use Rattle.std.specs.Option.{option_map}
use Rattle.std.proofs.lemmas.List.{map-append}
use Rattle.graphql_resolvers.specs.Asked.{as_word}
use Rattle.graphql_resolvers.proofs.EachItem.{before, from_start, item_stops, item_turn, item_whole, read}
use Rattle.graphql_resolvers.proofs.leaf_lists.words_in.Goals as goal

pub items-init : goal.items-init
items-init c =
    let whole = read as_word c.args.items.now in
    subst (λ found. whole ≡ before (map (λ w. w.now) found) whole) (sym c.new-words.ensures.items) (from_start whole)

pub returns-in-None : goal.returns-in-None
returns-in-None c =
    item_stops as_word c.args.items.now c.items.item-index c.item-item.result (map (λ w. w.now) c.items.words.items) c.items-test.true (sym c.item-item.is) c.items.invariant
    (sym c.word_in.ensures ∙ ap (option_map (λ w. w.now)) c.in-None.is)

pub items-preserved : goal.items-preserved
items-preserved c =
    item_turn as_word c.args.items.now c.items.item-index c.item-item.result (map (λ w. w.now) c.items.words.items) c.items-test.true (sym c.item-item.is) c.items.invariant
    c.in-Some.word.now (map (λ w. w.now) c.push.new.self.items) (sym c.word_in.ensures ∙ ap (option_map (λ w. w.now)) c.in-Some.is) (ap (map (λ w. w.now)) c.in_ok-push-in-Some.ensures.items ∙ map-append (λ w. w.now) c.items.words.items (c.in-Some.word ∷ []))

pub returns : goal.returns
returns c = item_whole as_word c.args.items.now c.items.item-index (map (λ w. w.now) c.items.words.items) c.items-test.false c.items.invariant
