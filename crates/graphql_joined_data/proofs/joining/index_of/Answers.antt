use Rattle.std.proofs.Common.{◌≡◌, ◌<◌, ◌-◌, ◌∷◌, suc, length, drop, ap, sym, refl, ◌∙◌, arith}
use Rattle.std.proofs.Math.Seq.{drop-cons}
use Rattle.graphql_output_values.specs.Objects.{field_value}
use Rattle.graphql_output_values.proofs.LookupLemmas.{one_more}
use Rattle.graphql_joined_data.proofs.joining.index_of.Goals as goal

pub fields-preserved : goal.fields-preserved
fields-preserved g c =
    let fields = c.as_slice-fields.result.now in
    let at = c.fields.left - 1 in
    let field = c.index-fields-left.result in
    let within : at < length fields = omega arith in
    let next : suc at ≡ c.fields.left = omega arith in
    let split : drop at fields ≡ field ∷ drop c.fields.left fields = drop-cons fields at field within ∙ (λ i. sym c.index-fields-left.is i ∷ drop (next i) fields) in
    record {
      within = omega arith;
      indexed = λ key.
          one_more (drop c.fields.left fields) field c.fields.values c.insert.new.self c.as_str.result.now _ c.as_str.ensures refl c.fields.invariant.indexed c.in_ok-insert.ensures.updates key
          ∙ ap (λ fs. field_value fs key) (sym split);
    }

pub returns : goal.returns
returns g c key =
    let none : c.fields.left ≡ 0 = omega arith in
    c.fields.invariant.indexed key
    ∙ ap (λ n. field_value (drop n c.as_slice-fields.result.now) key) none
    ∙ ap (λ fs. field_value fs key) c.as_slice-fields.ensures
