use Rattle.std.proofs.Common.{◌≡◌, ◌++◌, ◌∷◌, [], true, false, cond, is_some, ap, sym, ◌∙◌, arith, rules}
use Rattle.graphql_output_values.specs.Objects.{field_value}
use Rattle.graphql_joined_data.proofs.JoinSteps.{new-more}
use Rattle.graphql_joined_data.proofs.joining.push_new_fields.Goals.{then-not-has+in_ok-clone+in_ok-clone-2+in_ok-add, else-not-has}
use Rattle.graphql_joined_data.proofs.joining.push_new_fields.Goals as goal

pub loop-field-preserved : goal.loop-field-preserved
loop-field-preserved g c =
    let field = c.field-item.result in
    let there : is_some (field_value c.args.first.now.fields field.0) ≡ c.has.result =
    sym (c.has.ensures ∙ ap is_some (c.in_ok-values.ensures c.as_str.result.now ∙ ap (field_value c.args.first.now.fields) c.as_str.ensures)) in
    let is : c.if-not-has.fields ≡ cond c.has.result c.loop-field.fields (c.loop-field.fields ++ field ∷ []) =
    elim c.if-not-has.branch as (λ w. c.if-not-has.fields ≡ cond c.has.result c.loop-field.fields (c.loop-field.fields ++ field ∷ [])) [
      | then-not-has+in_ok-clone+in_ok-clone-2+in_ok-add w ↦
          let off : c.has.result ≡ false = search rules in
          let key : w.in_ok-clone.field-0 ≡ field.0 = search rules in
          let copy : w.in_ok-clone-2.field-0 ≡ field.1 = search rules in
          w.fields-is ∙ w.in_ok-add.ensures ∙ (λ i. c.loop-field.fields ++ (key i, copy i) ∷ [])
          ∙ ap (λ b. cond b c.loop-field.fields (c.loop-field.fields ++ field ∷ [])) (sym off)
      | else-not-has w ↦
          let on : c.has.result ≡ true = search rules in
          w.fields-is ∙ ap (λ b. cond b c.loop-field.fields (c.loop-field.fields ++ field ∷ [])) (sym on)
    ] in
    new-more c.args.first.now.fields c.as_slice-field-items.result.now c.loop-field.field-index field c.loop-field.fields c.if-not-has.fields
    c.has.result (omega arith) c.field-item.is there is c.args.fields.now c.loop-field.invariant
