use Rattle.graphql_written_out.proofs.FragmentLemmas.{number-more}
use Rattle.graphql_written_out.proofs.fragments.Fragments.new.Goals as goal

pub definitions-preserved : goal.definitions-preserved
definitions-preserved g c = λ name.
    number-more c.args.document.now c.definitions.number c.index-document-number.result c.definitions-test.true c.index-document-number.is name _ _ (c.definitions.invariant name) (c.in_ok-add.ensures name)
