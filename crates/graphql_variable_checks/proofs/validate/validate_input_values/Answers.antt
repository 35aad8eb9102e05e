use Rattle.graphql_schema.proofs.MeantScalars.{scalars_of}
use Rattle.std.proofs.Common.{◌↔◌, [], sym, subst}
use Rattle.std.specs.HashMap.{get_by_text}
use Rattle.std.specs.List.Sorted.{IsPermutation}
use Rattle.graphql_tree.specs.Documents.{variables_in}
use Rattle.graphql_variable_checks.proofs.Sorted.{none_moved, told_sorted}
use Rattle.graphql_variable_checks.proofs.validate.validate_input_values.Goals as goal

pub returns-clause-told : goal.returns-clause-told
returns-clause-told g c =
    let scalars = scalars_of g.S.ParseScalarValue g.S.ScalarValue g.S.PartialEq g.S.Check.Check in
    told_sorted scalars c.args.schema.now.types (get_by_text c.args.variables.now) (variables_in c.args.operation.now.item.variable_definitions)
    c.in_ok-found.found c.from_vec.result
    (subst (IsPermutation c.in_ok-found.found) (sym c.from_vec.ensures) (subst (λ old. IsPermutation old c.sort_unstable.new.self.items) c.into_vec-errors.ensures c.sort_unstable.ensures.permutation))
    c.in_ok-found.ensures.told

pub returns-clause-none : goal.returns-clause-none
returns-clause-none g c =
    let moved = none_moved c.in_ok-found.found c.from_vec.result
    (subst (IsPermutation c.in_ok-found.found) (sym c.from_vec.ensures) (subst (λ old. IsPermutation old c.sort_unstable.new.self.items) c.into_vec-errors.ensures c.sort_unstable.ensures.permutation)) in
    (λ none. c.in_ok-found.ensures.none.0 (moved.1 none), λ accepted. moved.0 (c.in_ok-found.ensures.none.1 accepted))
