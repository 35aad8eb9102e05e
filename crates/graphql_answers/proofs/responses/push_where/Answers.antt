use Rattle.std.proofs.Common.{◌≡◌, ◌++◌, [], OnOk, codes, map, ap, ◌∙◌, rules}
use Rattle.graphql_json.specs.Json.{joined, json_text}
use Rattle.graphql_answers.specs.Texts.{location_text}
use Rattle.graphql_answers.proofs.Parts.{five_parts}
use Rattle.graphql_answers.proofs.responses.push_where.Goals as goal

pub returns-clause-written : goal.returns-clause-written
returns-clause-written g c =
    let o = c.args.out.now.items in
    let e = c.args.error.now in
    let a = c.extend_from_slice.new.self.items in
    let b = c.push_location.new.out.items in
    let d = c.extend_from_slice-2.new.self.items in
    let w = c.push_path.new.out.items in
    let n = c.extend_from_slice-3.new.self.items in
    let first : a ≡ o ++ codes ",\"locations\":[" = c.in_ok-extend_from_slice.ensures.items in
    let second : b ≡ a ++ location_text e.location = c.in_ok-push_location.ensures.written ∙ ap (λ p. a ++ location_text p) c.location.ensures in
    let third : d ≡ b ++ codes "],\"path\":[" = c.in_ok-extend_from_slice-2.ensures.items in
    let fourth : w ≡ d ++ joined [] (map json_text e.path) = c.in_ok-push_path.ensures.written ∙ ap (λ p. d ++ joined [] (map json_text p)) c.path.ensures in
    let end : OnOk c.extend_from_slice-3.result (n ≡ w ++ codes "]") = search rules in
    five_parts c.extend_from_slice-3.result o (codes ",\"locations\":[") a (location_text e.location) b (codes "],\"path\":[") d (joined [] (map json_text e.path)) w (codes "]") n first second third fourth end
