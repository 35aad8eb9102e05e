use Rattle.std.proofs.Common.{ap, sym, subst, ◌∙◌, Ok, arith}
use Rattle.std.specs.Str.{chars}
use Rattle.graphql_text.specs.Reading.{Place, IsTail, place_of}
use Rattle.graphql_text.specs.Tokens.{Located}
use Rattle.graphql_lexer.specs.declared.token_record.TokenRecord.{TokenRecord}
use Rattle.graphql_lexer.proofs.Leading.{tail_trans}
use Rattle.graphql_lexer.proofs.RecordLemmas.{tail_ahead, tail_token, token_goes_on, token_read, record_is, record_fits, cut_is}
use Rattle.graphql_lexer.proofs.recording.cut_record.Goals as goal

pub record_between-found-requires-clause-before : goal.record_between-found-requires-clause-before
record_between-found-requires-clause-before c =
    let p = place_of c.args.cursor in
    let P : Place → Type 0 = λ z. IsTail (chars c.args.cursor.rest.now) z.rest in
    tail_trans (chars c.args.source.now) (chars c.args.cursor.rest.now) (chars c.ahead-start.result.rest.now) c.requires (subst P (sym c.ahead-start.ensures) (tail_ahead p))

pub record_between-found-requires-clause-own : goal.record_between-found-requires-clause-own
record_between-found-requires-clause-own c = tail_token (place_of c.ahead-start.result) (place_of c.in_ok-item.end) c.in_ok-item.item c.in_ok-item.ensures

pub record_between-found-requires-clause-wide : goal.record_between-found-requires-clause-wide
record_between-found-requires-clause-wide c = token_goes_on (place_of c.ahead-start.result) (place_of c.in_ok-item.end) c.in_ok-item.item c.in_ok-item.ensures

pub returns-clause-token : goal.returns-clause-token
returns-clause-token c =
    let p = place_of c.args.cursor in
    let a = place_of c.ahead-start.result in
    let q = place_of c.in_ok-item.end in
    let x = c.in_ok-item.item in
    let r = c.record_between-found.result in
    let P : Place → Type 0 = λ z. IsTail (chars c.args.cursor.rest.now) z.rest in
    let tail : IsTail (chars c.args.source.now) (chars c.ahead-start.result.rest.now) = tail_trans (chars c.args.source.now) (chars c.args.cursor.rest.now) (chars c.ahead-start.result.rest.now) c.requires (subst P (sym c.ahead-start.ensures) (tail_ahead p)) in
    let made = c.record_between-found.ensures.record in
    let texts = c.record_between-found.ensures.texts in
    cut_is p a q x c.ahead-start.ensures c.in_ok-item.ensures
    ∙ sym (ap (λ (l : Located). Ok (l, q)) (record_is c.args.source.now c.ahead-start.result.rest.now c.in_ok-item.end.rest.now c.ahead-start.result.at c.in_ok-item.end.at x texts.0 texts.1 texts.2 tail
    (token_read a q x c.in_ok-item.ensures) r (ap (λ (z : TokenRecord). z.kind) made ∙ c.kind_of.ensures) (ap (λ (z : TokenRecord). z.offset) made) (ap (λ (z : TokenRecord). z.len) made) (ap (λ (z : TokenRecord). z.width) made) (ap (λ (z : TokenRecord). z.start) made)))

pub returns-clause-fits : goal.returns-clause-fits
returns-clause-fits c =
    let p = place_of c.args.cursor in
    let a = place_of c.ahead-start.result in
    let q = place_of c.in_ok-item.end in
    let x = c.in_ok-item.item in
    let r = c.record_between-found.result in
    let P : Place → Type 0 = λ z. IsTail (chars c.args.cursor.rest.now) z.rest in
    let tail : IsTail (chars c.args.source.now) (chars c.ahead-start.result.rest.now) = tail_trans (chars c.args.source.now) (chars c.args.cursor.rest.now) (chars c.ahead-start.result.rest.now) c.requires (subst P (sym c.ahead-start.ensures) (tail_ahead p)) in
    let made = c.record_between-found.ensures.record in
    let texts = c.record_between-found.ensures.texts in
    record_fits c.args.source.now c.ahead-start.result.rest.now c.in_ok-item.end.rest.now c.ahead-start.result.at c.in_ok-item.end.at x texts.0 texts.1 texts.2 tail
    (token_read a q x c.in_ok-item.ensures) r (ap (λ (z : TokenRecord). z.kind) made ∙ c.kind_of.ensures) (ap (λ (z : TokenRecord). z.offset) made) (ap (λ (z : TokenRecord). z.len) made) (ap (λ (z : TokenRecord). z.width) made) (ap (λ (z : TokenRecord). z.start) made)
    (let h = c.in_ok-item.end.room in omega (arith, h)) c.ahead-start.result.column

pub returns-clause-tail : goal.returns-clause-tail
returns-clause-tail c =
    let P : Place → Type 0 = λ z. IsTail (chars c.args.cursor.rest.now) z.rest in
    let tail : IsTail (chars c.args.source.now) (chars c.ahead-start.result.rest.now) = tail_trans (chars c.args.source.now) (chars c.args.cursor.rest.now) (chars c.ahead-start.result.rest.now) c.requires (subst P (sym c.ahead-start.ensures) (tail_ahead (place_of c.args.cursor))) in
    tail_trans (chars c.args.source.now) (chars c.ahead-start.result.rest.now) (chars c.in_ok-item.end.rest.now) tail (tail_token (place_of c.ahead-start.result) (place_of c.in_ok-item.end) c.in_ok-item.item c.in_ok-item.ensures)
