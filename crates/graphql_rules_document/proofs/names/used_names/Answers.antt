use Rattle.graphql_rules_document.specs.Lent.{use_of}
use Rattle.graphql_names.specs.NameSets.{has_name}
use Rattle.graphql_rules_document.proofs.NameSetLemmas.{names_turn}
use Rattle.graphql_rules_document.proofs.names.used_names.Goals as goal

pub uses-preserved : goal.uses-preserved
uses-preserved c q =
    names_turn use_of (λ u. u.name) c.args.uses.now c.uses.used-index _ c.uses-test.true q (has_name c.uses.names q) (has_name c.add.new.names q) (c.uses.invariant q) (c.in_ok-add.ensures q)
