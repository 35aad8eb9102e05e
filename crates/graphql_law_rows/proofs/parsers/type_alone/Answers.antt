use Rattle.graphql_language.specs.Literals.{NextType}
use Rattle.graphql_law_rows.proofs.Parsed.{answered_alone}
use Rattle.graphql_law_rows.proofs.parsers.type_alone.Goals as goal

pub returns : goal.returns
returns c = λ fresh.
    answered_alone NextType c.type_or_refused.ensures.never_both c.type_or_refused.ensures.one_fault
    c.args.parser.now c.parse_type.new.parser c.parse_type.result c.parse_type.ensures.calls fresh
