use Rattle.graphql_tree.proofs.CountEquations.{count_by_field, count_by_inline}
use Rattle.graphql_tree.proofs.selection.Selection.into_set.Goals as goal

pub returns-in-Field : goal.returns-in-Field
returns-in-Field g c = count_by_field c.args.self c.in-Field.field c.in-Field.is

pub returns-in-InlineFragment : goal.returns-in-InlineFragment
returns-in-InlineFragment g c = count_by_inline c.args.self c.in-InlineFragment.inline c.in-InlineFragment.is
