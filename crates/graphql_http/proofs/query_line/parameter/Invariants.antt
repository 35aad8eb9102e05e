use Rattle.std.proofs.Common.{◌≡◌}
use Rattle.form_urlencoded.specs.Parse.{raw_pairs_left}
use Rattle.graphql_http.specs.QueryLine.{parameter, value_among}
use Rattle.graphql_http.proofs.query_line.parameter.Given as goal

abbrev pub invariant-loop-name : goal.invariant-loop-name
invariant-loop-name l = value_among l.wanted (raw_pairs_left l.name-iterator) ≡ parameter l.query l.wanted
