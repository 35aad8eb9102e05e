use Rattle.graphql_lexer.proofs.RecordTexts.{found, found_are, starts_rise}
use Rattle.graphql_lexer.proofs.token_texts.TokenTexts.new.Goals as goal

pub invariant_of-result : goal.invariant_of-result
invariant_of-result c = found_are c.args.source.now c.args.records.now c.starting_before-first.result c.requires

pub returns : goal.returns
returns c =
    let rise = starts_rise c.args.source.now c.args.records.now 0 c.requires.1 in
    found c.args.source.now c.args.span c.args.records.now c.starting_before-first.result (c.starting_before-first.ensures.split rise)
