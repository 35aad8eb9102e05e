use Rattle.std.proofs.Common.{◌≡◌, ◌<◌, false, true, get_or, length, ap, sym, ◌∙◌, rules, arith}
use Rattle.std.specs.Map.{keys_of}
use Rattle.std.specs.Str.{bytes_eq}
use Rattle.std.proofs.lemmas.Slice.Eq.{bytes_eq-Decides}
use Rattle.graphql_output_values.proofs.EqualByKeys.{keys_at, keys_more}
use Rattle.graphql_output_values.proofs.equality.have_same_keys.Goals as goal

pub returns-then-ne : goal.returns-then-ne
returns-then-ne g c =
    let field = c.field-item.result in
    let other = c.index-others-place.result in
    let beside : c.loop-place.place < length c.as_slice-others.result.now = omega (arith, c.loop-place.invariant.many, ap length c.as_slice-field-items.ensures) in
    let unlike : bytes_eq field.0 other.0 ≡ false = search rules in (
      λ wrong. absurd (cc wrong),
      λ same.
          let keys : keys_of c.as_slice-field-items.result.now ≡ keys_of c.as_slice-others.result.now = ap keys_of c.as_slice-field-items.ensures ∙ same ∙ ap keys_of (sym c.as_slice-others.ensures) in
          let alike = ap (λ p. p.0) c.field-item.is ∙ keys_at c.as_slice-field-items.result.now c.as_slice-others.result.now c.loop-place.place field other (omega arith) beside keys ∙ ap (λ p. p.0) (sym c.index-others-place.is) in
          let same_key = (bytes_eq-Decides field.0 other.0).1 alike in
          absurd (cc (unlike, same_key)),
    )

pub loop-place-preserved : goal.loop-place-preserved
loop-place-preserved g c =
    let fields = c.args.mine.now.fields in
    let field = c.field-item.result in
    let other = c.index-others-place.result in
    let beside : c.loop-place.place < length c.as_slice-others.result.now = omega (arith, c.loop-place.invariant.many, ap length c.as_slice-field-items.ensures) in
    let alike : bytes_eq field.0 other.0 ≡ true = search rules in
    let at : field ≡ get_or fields c.loop-place.place field = c.field-item.is ∙ ap (λ fs. get_or fs c.loop-place.place field) c.as_slice-field-items.ensures in
    let within : c.loop-place.place < length fields = omega (arith, ap length c.as_slice-field-items.ensures) in
    let key = sym (ap (λ p. p.0) at) ∙ (bytes_eq-Decides field.0 other.0).0 alike ∙ ap (λ p. p.0) c.index-others-place.is in
    record {
      same = keys_more fields c.as_slice-others.result.now c.loop-place.place field other within beside key c.loop-place.invariant.same;
      many = c.loop-place.invariant.many;
    }
