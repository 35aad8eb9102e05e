use Rattle.std.proofs.Common.{◌≡◌, ◌≤◌, ◌+◌, ◌++◌}
use Rattle.std.specs.String.{string_bytes}
use Rattle.graphql_plain_tree.specs.Plain.{size}
use Rattle.graphql_plain_tree.specs.PlainOperations.{variables_used}
use Rattle.graphql_plain_text.specs.PlainTexts.{spaced}
use Rattle.graphql_plain_text.specs.TreeTokens.{in_braces}
use Rattle.graphql_plain_print.specs.Frames.{stack_size, stack_tokens, stack_turns, stack_uses}
use Rattle.graphql_plain_print.specs.NameSets.{AreSame}
use Rattle.graphql_plain_print.specs.Plans.{plain_by, tokens_by}
use Rattle.graphql_plain_print.proofs.printing.print_set.Given as goal

abbrev pub invariant-sets : goal.invariant-sets
invariant-sets g l = record {
  text : string_bytes l.text ++ spaced (stack_tokens g.S.ScalarValue.answer g.S.ScalarValue.of_bool l.plan l.sets)
      ≡ string_bytes l.fn.text ++ spaced (in_braces (tokens_by l.plan (plain_by g.S.ScalarValue.answer g.S.ScalarValue.of_bool l.plan l.set)));
  uses : AreSame (l.used.keys ++ stack_uses g.S.ScalarValue.answer g.S.ScalarValue.of_bool l.plan l.sets)
      (l.fn.used.keys ++ variables_used (plain_by g.S.ScalarValue.answer g.S.ScalarValue.of_bool l.plan l.set));
  sized : l.count + stack_size g.S.ScalarValue.answer g.S.ScalarValue.of_bool l.plan l.sets ≡ size (plain_by g.S.ScalarValue.answer g.S.ScalarValue.of_bool l.plan l.set);
  room : l.count ≤ l.plan.limit;
}

abbrev pub decreases-sets : goal.decreases-sets
decreases-sets g l = stack_turns l.plan l.sets
