use Rattle.std.proofs.Common.{◌≡◌, ℕ, List, ap, ◌∙◌}
use Rattle.std.specs.List.{each_same}
use Rattle.graphql_tests.specs.declared.base.texts.Named.{Named}
use Rattle.graphql_tests.proofs.base.texts.second.Goals as goal

pub returns : goal.returns
returns c =
    let copy = c.in_ok-copy.copy in
    let named = c.args.named.now in
    let h = c.in_ok-copy.ensures in
    let with_name : List ℕ → Named = λ name. record { name = name; parts = copy.parts } in
    let with_parts : List (List ℕ) → Named = λ parts. record { name = named.name; parts = parts } in
    ap with_name h.cases.0 ∙ ap with_parts (each_same named.parts copy.parts h.cases.1)
