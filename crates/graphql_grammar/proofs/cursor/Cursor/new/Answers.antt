use Rattle.std.proofs.Common.{sym, subst}
use Rattle.std.specs.Str.{chars}
use Rattle.graphql_text.specs.declared.position.SourcePosition.{SourcePosition}
use Rattle.graphql_grammar.specs.Cursor.{IsStart}
use Rattle.graphql_grammar.proofs.Cursors.{starts_recorded}
use Rattle.graphql_grammar.proofs.cursor.Cursor.new.Goals as goal

pub returns-clause-start : goal.returns-clause-start
returns-clause-start c =
    let r = c.in_ok-records.records in
    let P : SourcePosition → Type 0 = λ end. IsStart (chars c.args.source.now) (record { ahead = r.tokens; finish = r.finish; end = end }) in
    subst P (sym c.new_origin.ensures) (starts_recorded (chars c.args.source.now) r c.in_ok-records.ensures.tokens)
