use Rattle.std.proofs.Common.{ap, ◌∙◌, rules, arith}
use Rattle.std.specs.Str.{chars}
use Rattle.std.proofs.lemmas.Str.{chars_past_char, chars-nil}
use Rattle.std.proofs.lemmas.List.{nil_from_length}
use Rattle.graphql_text.proofs.characters.first_character.Goals as goal

pub returns-in-Some-clause-chars : goal.returns-in-Some-clause-chars
returns-in-Some-clause-chars c = chars_past_char _ c.as_str.result.now c.in-Some.c c.utf8.text (search rules)

pub returns-in-None-clause-chars : goal.returns-in-None-clause-chars
returns-in-None-clause-chars c = ap chars (nil_from_length c.args.text.now (omega (arith, c.in-None.ensures.steps.0, c.chars-chars.ensures.len))) ∙ chars-nil
