use Rattle.std.proofs.Common.{◌≡◌, ◌∙◌, suc, ◌+◌, ◌++◌, [], ◌∷◌, ap, sym, arith}
use Rattle.std.specs.List.{range_with_len}
use Rattle.graphql_names.proofs.Indexes.{places_more}
use Rattle.graphql_names.proofs.named_items.places.Goals as goal

pub loop-place-preserved : goal.loop-place-preserved
loop-place-preserved c =
    let place = c.loop-place.place in
    let next : suc place ≡ place + 1 = omega arith in
    let last : 0 + place ≡ place = omega arith in
    c.in_ok-push.ensures.items ∙ ap (λ places. places ++ place ∷ []) c.loop-place.invariant
    ∙ ap (λ p. range_with_len 0 place ++ p ∷ []) (sym last) ∙ sym (places_more 0 place) ∙ ap (range_with_len 0) next
