use Rattle.std.proofs.Common.{◌≡◌, ◌∙◌, ap, sym, subst, ℕ, ◌+◌, ◌*◌, ◌-◌, ◌<◌, ◌≤◌, List, ◌∷◌, ◌++◌, take, take_all, drop, length-drop, append-nil, slice_get, Some, length, reverse, arith}
use Rattle.std.proofs.lemmas.List.{drop_all, length-reverse}
use Rattle.graphql_bundles.specs.Conflicts.{places}
use Rattle.graphql_bundles.specs.Direct.{DirectParts}
use Rattle.graphql_bundles.proofs.DirectLemmas.{parts-first, parts-more, first-rest}
use Rattle.graphql_bundles.proofs.ListLemmas.{none-first}
use Rattle.graphql_bundles.proofs.direct.direct_group.Goals as goal

fewer-than : {X : Type 0} (n : ℕ) (h : X) (ys zs : List X) → h ∷ ys ≡ zs → n ≤ length ys → n < length zs
fewer-than n h ys zs e few = let k = ap length e in omega (arith, k, few)

-- what follows the first
behind : {X : Type 0} (xs rest : List X) (h : X) → xs ≡ rest → slice_get rest 0 ≡ Some h → h ∷ take (length xs - 1) (drop 1 xs) ≡ rest
behind xs rest h e at =
    let shorter = length-drop 1 xs in
    ap (λ ys. h ∷ ys) (take_all (length xs - 1) (drop 1 xs) (omega (arith, shorter))) ∙ ap (λ ys. h ∷ drop 1 ys) e ∙ first-rest rest h at

pub classes-smaller : goal.classes-smaller
classes-smaller g c =
    let rest = c.classes.rest in
    let at : slice_get rest 0 ≡ Some c.in-Some.head = sym c.first.ensures ∙ sym c.copied.ensures ∙ c.in-Some.is in
    fewer-than (length c.in_ok-more.more) c.in-Some.head (take (length c.as_slice.result.now - 1) (drop 1 c.as_slice.result.now)) rest
    (behind c.as_slice.result.now rest c.in-Some.head c.as_slice.ensures at) c.in_ok-more.ensures.fewer

pub returns-clause-told : goal.returns-clause-told
returns-clause-told g c = λ fragments.
    subst (λ rest. DirectParts g.S.PartialEq.eq c.args.schema.now.types fragments (reverse c.args.fields.now) rest (places c.args.told.now) (places c.classes.told))
    (none-first c.classes.rest (sym c.first.ensures ∙ sym c.copied.ensures ∙ c.in_default.is)) (c.classes.invariant.told fragments)

pub returns-clause-counted : goal.returns-clause-counted
returns-clause-counted g c = omega (arith, c.classes.invariant.counted)

-- what is written back of a list of the same length
written-back : {X : Type 0} (old new : List X) → length new ≡ length old → take (length old) (new ++ drop (length new) old) ≡ new
written-back old new same =
    ap (λ rest. take (length old) (new ++ rest)) (drop_all (length new) old (omega (arith, same))) ∙ ap (take (length old)) (append-nil new)
    ∙ take_all (length old) new (omega (arith, same))

pub classes-init : goal.classes-init
classes-init g c =
    let copied = c.in_ok-extend_from_slice.ensures.ok ∙ ap (λ fs. fs ++ c.args.fields.now) c.new-rest.ensures in
    let turned = c.reverse.ensures.after ∙ ap reverse (c.as_mut_slice.ensures.value ∙ copied) in
    let held = written-back c.extend_from_slice.new.self c.reverse.new.self (c.reverse.ensures.len ∙ ap length c.as_mut_slice.ensures.value) ∙ turned in record {
      counted =
          let same = ap length held ∙ length-reverse c.args.fields.now in
          subst (λ k. c.args.comparisons.now + k * k ≤ c.args.comparisons.now + length c.args.fields.now * length c.args.fields.now) (sym same) (omega arith);
      told = λ fragments.
          let fields = c.args.fields.now in
          subst (λ rest. DirectParts g.S.PartialEq.eq c.args.schema.now.types fragments (reverse fields) rest (places c.args.told.now) (places c.args.told.now))
          (sym held) (parts-first g.S.PartialEq.eq c.args.schema.now.types fragments (reverse fields) (places c.args.told.now));
    }

pub classes-preserved : goal.classes-preserved
classes-preserved g c = record {
  counted =
      let rest = c.classes.rest in
      let at : slice_get rest 0 ≡ Some c.in-Some.head = sym c.first.ensures ∙ sym c.copied.ensures ∙ c.in-Some.is in
      let whole = ap length (behind c.as_slice.result.now rest c.in-Some.head c.as_slice.ensures at) in
      let squares = ap (λ k. k * k) whole in
      omega (arith, squares, c.in_ok-more.ensures.counted, c.classes.invariant.counted);
  told = λ fragments.
      let eq = g.S.PartialEq.eq in
      let types = c.args.schema.now.types in
      let rest = c.classes.rest in
      let at : slice_get rest 0 ≡ Some c.in-Some.head = sym c.first.ensures ∙ sym c.copied.ensures ∙ c.in-Some.is in
      parts-more eq types fragments (reverse c.args.fields.now) rest c.in_ok-more.more (places c.args.told.now) (places c.classes.told) (places c.sort_all.new.told)
      (c.classes.invariant.told fragments)
      (subst (λ fs. DirectParts eq types fragments fs c.in_ok-more.more (places c.classes.told) (places c.sort_all.new.told))
      (behind c.as_slice.result.now rest c.in-Some.head c.as_slice.ensures at) (c.in_ok-more.ensures.parts fragments));
}
