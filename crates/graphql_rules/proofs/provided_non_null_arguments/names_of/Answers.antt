use Rattle.std.proofs.Common.{◌≡◌, map, take, ap, ◌∙◌, arith}
use Rattle.std.proofs.lemmas.List.{take_all}
use Rattle.graphql_literal_checks.proofs.InputFieldsLemmas.{name_step}
use Rattle.graphql_names.specs.Names.{is_one_of}
use Rattle.graphql_tree.specs.Arguments.{Argument}
use Rattle.graphql_rules.proofs.provided_non_null_arguments.names_of.Goals as goal

pub arguments-preserved : goal.arguments-preserved
arguments-preserved g c = λ q.
    name_step (λ (a : Argument g.row.S.Denot). a.0.item) c.args.arguments.now c.arguments.argument-index c.argument-item.result c.arguments-test.true c.argument-item.is c.as_str.result c.as_str.ensures
    c.arguments.names.keys c.insert.new.self.keys c.in_ok-insert.field-0 c.in_ok-insert.ensures.added c.in_ok-insert.ensures.keys q (c.arguments.invariant q)

pub returns : goal.returns
returns g c = λ q.
    let whole : take c.arguments.argument-index c.args.arguments.now ≡ c.args.arguments.now = take_all c.arguments.argument-index c.args.arguments.now (omega arith) in
    c.arguments.invariant q ∙ ap (λ xs. is_one_of (map (λ (a : Argument g.row.S.Denot). a.0.item) xs) q) whole
