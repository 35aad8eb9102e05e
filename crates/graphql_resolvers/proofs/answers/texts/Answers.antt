use Rattle.std.proofs.Common.{ap, ◌∙◌, Ok, map, sym}
use Rattle.std.proofs.lemmas.Simd.{map-map}
use Rattle.std.proofs.lemmas.List.{take_all}
use Rattle.graphql_field_results.specs.declared.resolved.Resolved.TheVariants as resolved
use Rattle.graphql_resolvers.specs.Answers.{leaf, reply}
use Rattle.graphql_resolvers.proofs.answers.texts.Goals as goal

pub returns : goal.returns
returns g c =
    ap (λ xs. Ok (reply (resolved.List xs)))
    (map-map leaf (λ w. w.now) c.args.words.now
    ∙ ap (map (λ w. leaf w.now)) (sym (take_all c.words.word-index c.args.words.now c.words-test.false))
    ∙ sym c.words.invariant)
