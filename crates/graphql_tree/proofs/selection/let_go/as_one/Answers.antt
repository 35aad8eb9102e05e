use Rattle.std.proofs.Common.{◌+◌, ap, ◌∙◌}
use Rattle.graphql_tree.specs.Counts.{set_count}
use Rattle.graphql_tree.proofs.CountEquations.{count_inline}
use Rattle.graphql_tree.proofs.selection.let_go.as_one.Goals as goal

pub returns : goal.returns
returns g c = count_inline c.unlocated.result ∙ ap (λ inline. 1 + set_count inline.item.selection_set) c.unlocated.ensures
