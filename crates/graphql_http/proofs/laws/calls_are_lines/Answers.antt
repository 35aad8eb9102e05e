use Rattle.graphql_http.proofs.CallLemmas as lemma
use Rattle.graphql_http.proofs.laws.calls_are_lines.Goals as goal

pub returns : goal.returns
returns g c =
    lemma.calls_are_lines g.E.LineEngine.answers g.E.LineEngine.breaks g.E.RequestEngine.mutates g.E.LineEngine.limit
