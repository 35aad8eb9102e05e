use Rattle.std.proofs.Common.{refl, pos, arith}
use Rattle.serde_json.specs.Find.{of_integer}
use Rattle.graphql_service_tests.specs.Samples.{text_data, too_wide}
use Rattle.graphql_service_tests.proofs.service.lines.lists_are_judged.Goals as goal

pub returns-clause-wide : goal.returns-clause-wide
returns-clause-wide c = (c.bad_numbers_are_refused.ensures.0 too_wide).1 (of_integer (pos 2147483648), (0, omega arith, refl), refl)

pub returns-clause-constant : goal.returns-clause-constant
returns-clause-constant c = c.json_holds_no_variable.ensures text_data _ refl
