use Rattle.graphql_http.proofs.CallLemmas as lemma
use Rattle.graphql_http.proofs.laws.only_post_changes.Goals as goal

pub returns : goal.returns
returns g c =
    lemma.only_post_changes g.E.LineEngine.answers g.E.LineEngine.breaks g.E.RequestEngine.mutates g.E.LineEngine.limit
    g.E.RequestEngine.context g.met.E.RequestEngine.keeps g.met.E.RequestEngine.keeps_broken
