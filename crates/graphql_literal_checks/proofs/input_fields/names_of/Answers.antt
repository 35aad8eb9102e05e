use Rattle.std.proofs.Common.{◌≡◌, map, take, ap, ◌∙◌, arith}
use Rattle.std.proofs.lemmas.List.{take_all}
use Rattle.graphql_names.specs.Names.{is_one_of}
use Rattle.graphql_values.specs.declared.input_value.InputValue.{InputValue}
use Rattle.graphql_values.specs.InputValues.{Pair}
use Rattle.graphql_literal_checks.proofs.InputFieldsLemmas.{name_step}
use Rattle.graphql_literal_checks.proofs.input_fields.names_of.Goals as goal

pub pairs-preserved : goal.pairs-preserved
pairs-preserved g c = λ q.
    name_step (λ (p : Pair (InputValue g.row.S.Denot)). p.0.item) c.args.pairs.now c.pairs.pair-index c.pair-item.result c.pairs-test.true c.pair-item.is c.as_str.result c.as_str.ensures
    c.pairs.names.keys c.insert.new.self.keys c.in_ok-insert.field-0 c.in_ok-insert.ensures.added c.in_ok-insert.ensures.keys q (c.pairs.invariant q)

pub returns : goal.returns
returns g c = λ q.
    let whole : take c.pairs.pair-index c.args.pairs.now ≡ c.args.pairs.now = take_all c.pairs.pair-index c.args.pairs.now (omega arith) in
    c.pairs.invariant q ∙ ap (λ ps. is_one_of (map (λ (p : Pair (InputValue g.row.S.Denot)). p.0.item) ps) q) whole
