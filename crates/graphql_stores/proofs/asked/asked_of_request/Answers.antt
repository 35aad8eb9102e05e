use Rattle.std.proofs.Common.{string_bytes}
use Rattle.graphql_stores.proofs.AskedLines.{large-asked, plain-asked, refused-asked}
use Rattle.graphql_stores.proofs.asked.asked_of_request.Goals as goal

pub returns-in-Ok : goal.returns-in-Ok
returns-in-Ok g c = λ line asked asks holds.
    plain-asked _ _ line asked c.args.request.now holds asks (string_bytes c.in-Ok.text) c.in-Ok.ensures.plain

pub returns-in-Err-TooLarge : goal.returns-in-Err-TooLarge
returns-in-Err-TooLarge g c = λ line asked asks holds.
    large-asked _ _ line asked c.args.request.now holds asks c.in-Err-TooLarge.field-0 c.in-Err-TooLarge.field-0-is
    c.in-Err-TooLarge.ensures.refused

pub returns-in-Err-Refused : goal.returns-in-Err-Refused
returns-in-Err-Refused g c = λ line asked asks holds.
    refused-asked _ _ line asked c.args.request.now holds asks c.in-Err-Refused.field-0 c.in-Err-Refused.field-0-0
    c.in-Err-Refused.field-0-is c.in-Err-Refused.ensures.refused
