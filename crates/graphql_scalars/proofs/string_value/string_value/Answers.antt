use Rattle.std.proofs.Common.{◌≡◌, ◌∷◌, ap, sym, ◌∙◌, rules}
use Rattle.std.specs.Str.{chars}
use Rattle.graphql_scalars.specs.StringValue.{decoded_characters}
use Rattle.graphql_scalars.proofs.StringLemmas.{continued, escape_read, escape_refused}
use Rattle.graphql_scalars.proofs.string_value.string_value.Goals as goal

pub characters-preserved-in-Ok : goal.characters-preserved-in-Ok
characters-preserved-in-Ok c =
    let is : chars c.characters.rest.now ≡ 92 ∷ chars c.in-Some.behind.now = search rules in
    let rest = decoded_characters (chars c.in-Ok.past.now) in
    (search rules, ap (λ front. continued front rest) c.in_ok-push-in-Ok.ensures.ok ∙ escape_read c.characters.value _ _ _ _ is c.in-Ok.ensures.escape ∙ c.characters.invariant.1)

pub returns-in-Err : goal.returns-in-Err
returns-in-Err c told =
    let is : chars c.characters.rest.now ≡ 92 ∷ chars c.in-Some.behind.now = search rules in
    sym c.characters.invariant.1 ∙ escape_refused c.characters.value _ _ _ is (c.in-Err.ensures.escape told)
