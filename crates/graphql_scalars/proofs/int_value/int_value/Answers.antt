use Rattle.std.proofs.Common.{rules, sym, ap, ◌∙◌, Some}
use Rattle.std.proofs.lemmas.Int.{to_z-of_z}
use mir.Syntax.{w32}
use mir.Val.{SFits}
use Rattle.graphql_scalars.proofs.IntLemmas.{int_value_plus, int_value_read, read}
use Rattle.graphql_scalars.proofs.int_value.int_value.Goals as goal

pub returns-then-begins_with_plus : goal.returns-then-begins_with_plus
returns-then-begins_with_plus c = sym (int_value_plus c.args.text.now (sym c.begins_with_plus.ensures ∙ c.if-begins_with_plus.true))

pub returns-in-Ok : goal.returns-in-Ok
returns-in-Ok c =
    let e = int_value_read c.args.text.now c.from_str_radix.result c.from_str_radix.ensures.value (sym c.begins_with_plus.ensures ∙ c.if-begins_with_plus.false) in
    let f : SFits w32 c.in-Ok.value = search rules in
    ap Some (to_z-of_z _ _ f) ∙ sym (ap read c.in-Ok.is) ∙ e

pub returns-in-Err : goal.returns-in-Err
returns-in-Err c =
    let e = int_value_read c.args.text.now c.from_str_radix.result c.from_str_radix.ensures.value (sym c.begins_with_plus.ensures ∙ c.if-begins_with_plus.false) in
    sym (ap read c.in-Err.is) ∙ e
