use Rattle.std.proofs.Common.{◌≡◌, ◌++◌, [], ◌∷◌, true, false, ap, sym, ◌∙◌, rules, arith}
use Rattle.std.proofs.lemmas.Grind.{common_steps}
use Rattle.std.specs.Map.{keys_of}
use Rattle.std.specs.Vec.Iter.{into_iter_items}
use Rattle.graphql_names.specs.Names.{is_one_of, stands_twice}
use Rattle.graphql_records.proofs.TableLemmas.{moved, nothing_behind, once, twice}
use Rattle.graphql_records.proofs.records.Records.from_items.Goals as goal

pub returns-then-branch : goal.returns-then-branch
returns-then-branch c =
    let done = c.items.records.entries in
    let next : into_iter_items c.items.id-iterator ≡ (c.in-Some.id, c.in-Some.added) ∷ into_iter_items c.next.new.self = search rules in
    let there : is_one_of (keys_of done) c.in-Some.id ≡ true = search rules in (
      c.in-Some.id,
      ap (λ rs. stands_twice (keys_of rs) c.in-Some.id) (c.items.invariant.is ∙ ap (λ rs. done ++ rs) next)
          ∙ twice done c.in-Some.id c.in-Some.added (into_iter_items c.next.new.self) there,
    )

pub items-preserved : goal.items-preserved
items-preserved c =
    let done = c.items.records.entries in
    let next : into_iter_items c.items.id-iterator ≡ (c.in-Some.id, c.in-Some.added) ∷ into_iter_items c.next.new.self = search rules in
    let absent : is_one_of (keys_of done) c.in-Some.id ≡ false = search rules in
    let pushed : c.push.new.self.entries ≡ done ++ (c.in-Some.id, c.in-Some.added) ∷ [] = search rules in
    record {
      is = moved _ done c.push.new.self.entries (into_iter_items c.items.id-iterator) (into_iter_items c.next.new.self) (c.in-Some.id, c.in-Some.added) c.items.invariant.is next pushed;
      once_each = λ q. ap (λ rs. stands_twice (keys_of rs) q) pushed ∙ once done c.in-Some.id c.in-Some.added absent c.items.invariant.once_each q;
      root = c.in_ok-push.ensures.root ∙ c.items.invariant.root;
    }

pub returns : goal.returns
returns c =
    let ended : into_iter_items c.items.id-iterator ≡ [] = grind (arith, common_steps) in
    let whole = c.items.invariant.is ∙ ap (λ rs. c.items.records.entries ++ rs) ended ∙ nothing_behind c.items.records.entries in
    ((λ i. record { entries = sym whole i; root = c.items.invariant.root i }), λ id. ap (λ rs. stands_twice (keys_of rs) id) whole ∙ c.items.invariant.once_each id)
