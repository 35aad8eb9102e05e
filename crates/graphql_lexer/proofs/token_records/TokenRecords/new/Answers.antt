use Rattle.std.proofs.Common.{List, sym, subst}
use Rattle.std.specs.Str.{chars}
use Rattle.graphql_lexer.specs.declared.token_record.TokenRecord.{TokenRecord}
use Rattle.graphql_lexer.specs.Records.{AreRecords, IsRecorded, token_of, tokens_in}
use Rattle.graphql_lexer.proofs.RecordLists.{front_records, last_fits, recorded}
use Rattle.graphql_lexer.proofs.Refused.{lexical_refused}
use Rattle.graphql_lexer.proofs.token_records.TokenRecords.new.Goals as goal

pub span-requires : goal.span-requires
span-requires c =
    let read = c.in_ok-records in
    (last_fits c.args.source.now read.records.items c.pop.new.self.items c.in-Some.last read.ensures.fit c.in-Some.ensures.items).room

pub invariant_of-result : goal.invariant_of-result
invariant_of-result c =
    let source = c.args.source.now in
    let read = c.in_ok-records in
    let P : List TokenRecord → Type 0 = AreRecords source in
    let front = front_records (chars source) source read.records.items c.pop.new.self.items c.in-Some.last read.ensures.tokens c.in-Some.ensures.items read.ensures.fit in
    subst P (sym c.from_vec.ensures) front

pub returns-clause-tokens : goal.returns-clause-tokens
unfolding token_of
returns-clause-tokens c =
    let source = c.args.source.now in
    let read = c.in_ok-records in
    let P : List TokenRecord → Type 0 = λ rs. IsRecorded (chars source) (record { tokens = tokens_in source rs; finish = c.span.result }) in
    let cut = recorded (chars source) source read.records.items c.pop.new.self.items c.in-Some.last read.ensures.tokens c.in-Some.ensures.items c.span.result c.span.ensures in
    subst P (sym c.from_vec.ensures) cut

pub returns-in_err-records-clause-fault : goal.returns-in_err-records-clause-fault
returns-in_err-records-clause-fault c =
    lexical_refused (chars c.args.source.now) c.in_err-records.field-0.0 c.from_residual.result c.in_err-records.ensures.fault c.from_residual.ensures.1
