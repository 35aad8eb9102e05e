use Rattle.graphql_text.specs.Reading.{place_of}
use Rattle.graphql_text.specs.Strings.{plain, string_from}
use Rattle.graphql_lexer.proofs.Leading.{lead_ok, same, tail_of}
use Rattle.graphql_lexer.proofs.StringTurns.{closing_leads}
use Rattle.graphql_lexer.proofs.string_token.string.Goals as goal

pub between-text-requires : goal.between-text-requires
between-text-requires c =
    let start = place_of c.args.start in
    let end = place_of c.in_ok-end.end in
    tail_of start end (lead_ok start same (string_from plain start.at start.rest) end c.in_ok-end.ensures (closing_leads plain start.at start.rest))
