use Rattle.std.proofs.Common.{◌&&◌, inr}
use Rattle.std.specs.Str.{bytes_eq}
use mathlib.Core.Bool.{beq}
use Rattle.graphql_bundles.specs.Conflicts.{places}
use Rattle.graphql_bundles.specs.declared.bundle.Bundle.{Bundle as Begun}
use Rattle.graphql_bundles.specs.Going.{stage_of}
use Rattle.graphql_bundles.proofs.BundleLemmas.{grows-none, grows-key, there-key, same-bundle}
use Rattle.graphql_bundles.proofs.bundle.Progress.begin.Goals as goal

pub returns-then-is_empty-clause-grows : goal.returns-then-is_empty-clause-grows
returns-then-is_empty-clause-grows c = grows-none _ _ (stage_of c.args.self.now)

pub returns-in-Ok-clause-grows : goal.returns-in-Ok-clause-grows
returns-in-Ok-clause-grows c =
    grows-key (λ x y. bytes_eq x.sets.items y.sets.items && beq x.around y.around) (λ b. record { sets = b.sets.items; around = b.around }) (places c.args.self.now.told) c.args.self.now.is_within c.args.self.now.bundles.keys c.insert_full.new.self.keys
    (record { sets = c.args.sets; around = c.args.around }) c.in-Ok.ensures.keys

pub returns-in-Ok-clause-there : goal.returns-in-Ok-clause-there
returns-in-Ok-clause-there c =
    let stored = c.in-Ok.ensures.stored in
    let alike = same-bundle c.args.sets.items stored.0.sets.items c.args.around stored.0.around stored.2 in
    inr (there-key (λ (b : Begun). record { sets = b.sets.items; around = b.around }) c.insert_full.new.self.keys c.in-Ok.field-0.0 stored.0
    (record { sets = c.args.sets.items; around = c.args.around }) stored.1 (λ i. record { sets = alike.0 i; around = alike.1 i }))
