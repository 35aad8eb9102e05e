use Rattle.std.proofs.Common.{ap, sym, ◌∙◌, eqb, ◌/◌, ◌%◌}
use Rattle.std.proofs.lemmas.Nat.Bits.{shr_and_one}
use Rattle.graphql_rules_merging.proofs.Bits.{some_word, no_word, has_bit}
use Rattle.graphql_rules_merging.proofs.numbers.Numbers.has.Goals as goal

pub returns-in-Some : goal.returns-in-Some
returns-in-Some c =
    ap (λ b. eqb b 1) (shr_and_one c.in-Some.word.now (c.args.number % 64))
    ∙ sym (some_word c.self.inside.words (c.args.number / 64) (c.args.number % 64) c.in-Some.word.now c.in-Some.ensures.value)
    ∙ ap (λ words. has_bit words (c.args.number / 64) (c.args.number % 64)) c.self.view_is

pub returns-in-None : goal.returns-in-None
returns-in-None c =
    sym (no_word c.self.inside.words (c.args.number / 64) (c.args.number % 64) c.in-None.ensures.value)
    ∙ ap (λ words. has_bit words (c.args.number / 64) (c.args.number % 64)) c.self.view_is
