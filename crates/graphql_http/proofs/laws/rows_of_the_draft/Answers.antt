use Rattle.std.proofs.Common.{refl}
use Rattle.httparse.specs.Grammar.{trim_ows}
use Rattle.http1.specs.Text.{eq_ignore_case}
use Rattle.graphql_http.specs.Accept.{nearness_of, preferred}
use Rattle.graphql_http.specs.ContentType.{is_json}
use Rattle.graphql_http.specs.Pieces.{end_from, pieces, split_from}
use Rattle.graphql_http.specs.Weights.{weight_of}
use Rattle.graphql_http.proofs.laws.rows_of_the_draft.Goals as goal

pub returns-clause-accept : goal.returns-clause-accept
unfolding trim_ows eq_ignore_case nearness_of preferred end_from pieces split_from weight_of
returns-clause-accept c = record {
  any = refl;
  any_application = refl;
  json = refl;
  response = refl;
  of_clients = refl;
  equal = refl;
  lighter = refl;
  nearest = refl;
  of_browsers = refl;
  html = refl;
  nothing = refl;
  quoted = refl;
}

pub returns-clause-weights : goal.returns-clause-weights
unfolding weight_of
returns-clause-weights c = record { one = refl; half = refl; third = refl; zero = refl }

pub returns-clause-content : goal.returns-clause-content
unfolding trim_ows eq_ignore_case end_from pieces split_from is_json
returns-clause-content c = record { json = refl; utf8 = refl; quoted = refl; latin = refl; plain = refl; form = refl }

pub returns-clause-statuses : goal.returns-clause-statuses
returns-clause-statuses c = record {
  with_data = refl;
  null_data = refl;
  refused = refl;
  no_request = refl;
  json_data = refl;
  json_refused = refl;
  json_no_request = refl;
  too_long = refl;
}
