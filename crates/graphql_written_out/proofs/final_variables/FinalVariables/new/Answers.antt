use Rattle.std.proofs.Common.{◌≡◌, Some, None, cond, take, sym, ap, ◌∙◌, arith}
use Rattle.std.proofs.lemmas.List.{take_all}
use Rattle.std.specs.Option.{option_or}
use Rattle.std.specs.Str.{bytes_eq}
use Rattle.graphql_rule_errors.proofs.FoundLemmas.{one_more_named}
use Rattle.graphql_written_out.specs.FinalValues.{definition_named, variable_name}
use Rattle.graphql_written_out.proofs.final_variables.FinalVariables.new.Goals as goal

pub definitions-preserved : goal.definitions-preserved
definitions-preserved g c name =
    let v = c.variable-item.result in
    c.in_ok-first_mention.ensures.seen name
    ∙ ap (λ o. option_or o (cond (bytes_eq (variable_name v) name) (Some v) None)) (c.definitions.invariant name)
    ∙ sym (one_more_named variable_name c.definitions_of-definitions.result.now c.definitions.variable-index v name c.definitions-test.true c.variable-item.is)

pub invariant_of-result : goal.invariant_of-result
invariant_of-result g c =
    let definitions = c.definitions_of-definitions.result.now in
    let whole : take c.definitions.variable-index definitions ≡ definitions = take_all c.definitions.variable-index definitions (omega arith) in
    record { firsts = λ name. c.definitions.invariant name ∙ ap (λ vs. definition_named vs name) whole }
