use Rattle.std.proofs.Common.{◌≡◌, ◌-◌, ◌+◌, ◌++◌, false, true, rules, arith, sym, ap, ◌∙◌}
use Rattle.std.specs.Prelude.{encode_utf8_all}
use Rattle.std.specs.Char.{is_ascii_alphanumeric}
use Rattle.std.specs.Str.{chars}
use Rattle.graphql_scalars.specs.StringValue.{letters}
use Rattle.graphql_scalars.proofs.StringLemmas.{letter_read, letters_stopped}
use Rattle.graphql_scalars.proofs.string_value.code_letters.Goals as goal

pub returns-then-not-is_ascii_alphanumeric : goal.returns-then-not-is_ascii_alphanumeric
returns-then-not-is_ascii_alphanumeric c =
    let other : is_ascii_alphanumeric c.in-Some.letter ≡ false = search rules in
    sym (letters_stopped c.letters.escape _ _ _ _ c.in-Some.ensures.chars other) ∙ c.letters.invariant.1

pub letters-preserved : goal.letters-preserved
letters-preserved c =
    let letter : is_ascii_alphanumeric c.in-Some.letter ≡ true = search rules in
    let behind = encode_utf8_all (letters (4 - (c.letters._letter + 1)) (chars c.in-Some.behind.now)) in
    (search rules, ap (λ t. t ++ behind) c.in_ok-push.ensures.ok ∙ letter_read c.letters.escape _ _ _ _ c.in-Some.ensures.chars letter (omega arith) ∙ c.letters.invariant.1)
