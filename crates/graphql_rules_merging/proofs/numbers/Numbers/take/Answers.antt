use Rattle.std.proofs.Common.{rules, ◌≡◌, ℕ, ap, sym, ◌∙◌, arith, ◌+◌, ◌-◌, ◌*◌, ◌<◌, ◌^◌, eqb, not, ◌&&◌, length, get_or}
use Rattle.std.specs.Int.{trailing_zeros, w64}
use Rattle.graphql_rules_merging.specs.Numbers.{has_number}
use Rattle.graphql_rules_merging.proofs.Bits.{was_in, taken_out, same_numbers}
use Rattle.graphql_rules_merging.proofs.numbers.Numbers.take.Goals as goal

pub returns : goal.returns
returns c =
    let words = c.last_word.new.words in
    let place = c.len-place.result - 1 in
    let last = c.in-Some.last in
    let facts = c.in-Some.ensures.last in
    let some = facts.0 in
    let any = facts.1 in
    let count : c.len-place.result ≡ length words = c.len-place.ensures in
    let within : place < length words = omega (arith, count, any) in
    let is : get_or words place 0 ≡ last = ap (λ n. get_or words (n - 1) 0) count ∙ facts.2 in
    let fits : last < 2 ^ 64 = search rules in
    let number = place * 64 + trailing_zeros w64 last in
    let seen : (n : ℕ) → has_number words n ≡ has_number c.args.self.now n = λ n. same_numbers words c.self.inside.words c.in-Some.ensures.same n ∙ ap (λ ws. has_number ws n) c.self.view_is in
    (sym (seen number) ∙ was_in words place last within is some fits, λ n. taken_out words place last within is some fits n ∙ ap (λ h. not (eqb n number) && h) (seen n))
