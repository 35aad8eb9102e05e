use Rattle.std.proofs.Common.{◌≡◌, ◌++◌, [], OnOk, codes, map, subst, sym, ◌∙◌, rules}
use Rattle.graphql_json.specs.Json.{joined}
use Rattle.graphql_answers.specs.Texts.{location_text}
use Rattle.graphql_names.specs.Names.{Bytes}
use Rattle.graphql_answers.proofs.Parts.{three_parts}
use Rattle.graphql_answers.proofs.Written.{some_locations}
use Rattle.graphql_answers.proofs.places.push_locations.Goals as goal

pub returns-clause-written : goal.returns-clause-written
returns-clause-written c =
    let o = c.args.out.now.items in
    let a = c.extend_from_slice.new.self.items in
    let b = c.push_each_location.new.out.items in
    let n = c.extend_from_slice-2.new.self.items in
    let first : a ≡ o ++ codes ",\"locations\":[" = c.in_ok-extend_from_slice.ensures.items in
    let end : OnOk c.extend_from_slice-2.result (n ≡ b ++ codes "]") = search rules in
    let whole = three_parts c.extend_from_slice-2.result o (codes ",\"locations\":[") a (joined [] (map location_text c.args.places.now)) b (codes "]") n first c.in_ok-push_each_location.ensures.written end in
    let P : Bytes → Type 0 = λ t. OnOk c.extend_from_slice-2.result (n ≡ o ++ t) in
    subst P (some_locations c.args.places.now (sym c.is_empty.ensures ∙ c.if-is_empty.false)) whole
