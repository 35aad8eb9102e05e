use Rattle.std.proofs.Common.{◌≡◌, IfSome, ap, is_some, subst, rules}
use Rattle.graphql_schema.specs.Promises.{IsFirstBroken}
use Rattle.graphql_file_service.specs.declared.fault_place.PromisePlace.{PromisePlace}
use Rattle.graphql_file_service.proofs.Placing.{promise_told}
use Rattle.graphql_file_service.proofs.places.promise_in.Goals as goal

pub returns-in_ok-field-in-Some : goal.returns-in_ok-field-in-Some
returns-in_ok-field-in-Some c =
    let types = c.args.outline.now.types in
    let broken = c.in-Some.broken in
    let at : PromisePlace = record { type_name = c.in_ok-type_name-in-Some.type_name; interface = c.in_ok-interface-in-Some.interface; field = c.in_ok-field-in-Some.field } in
    let names : c.in_ok-type_name-in-Some.type_name ≡ broken.type_name = search rules in
    let lists : c.in_ok-interface-in-Some.interface ≡ broken.interface = search rules in
    let lacks : c.in_ok-field-in-Some.field ≡ broken.field = search rules in
    let first = subst (λ o. IfSome o (IsFirstBroken types)) c.in-Some.is c.broken_promise.ensures.first in
    promise_told types broken at names lists lacks first

pub returns-in-None : goal.returns-in-None
returns-in-None c = c.broken_promise.ensures.executable.0 (ap is_some c.in-None.is)
