use Rattle.std.proofs.Common.{◌≡◌, ◌∙◌, sym, ℕ, nat_eq, true, inl, inr}
use Rattle.std.proofs.lemmas.Bool.Decides.{Decides-eqb}
use Rattle.std.proofs.lemmas.Map.Views.{Contains-from_any}
use Rattle.graphql_merging.specs.Tables.{pieces_of}
use Rattle.graphql_bundles.specs.Going.{stage_of}
use Rattle.graphql_bundles.proofs.HeldLemmas.{each-none, each-passed, each-begun, each-all}
use Rattle.graphql_bundles.proofs.definitions.begin_others.Goals as goal

equal : (x y : ℕ) → nat_eq x y ≡ true → x ≡ y
equal x y e = (Decides-eqb x y).0 e

pub loop-definition-init : goal.loop-definition-init
loop-definition-init g c = λ fragments.
    each-none (pieces_of fragments c.args.table.now) c.args.definitions c.args.spread.now.keys c.args.held.now.keys (stage_of c.args.progress.now)

pub loop-definition-preserved-then-contains : goal.loop-definition-preserved-then-contains
loop-definition-preserved-then-contains g c = λ fragments.
    let spread = c.args.spread.now.keys in
    let number = c.loop-definition.definition-counter in
    each-passed (pieces_of fragments c.args.table.now) c.args.definitions spread c.args.held.now.keys number c.loop-definition.held.keys
    (stage_of c.args.progress.now) (stage_of c.loop-definition.progress) (inl (Contains-from_any equal number spread (sym c.contains.ensures ∙ c.if-contains.true)))
    (c.loop-definition.invariant fragments)

pub loop-definition-preserved-then-contains-2 : goal.loop-definition-preserved-then-contains-2
loop-definition-preserved-then-contains-2 g c = λ fragments.
    let held = c.loop-definition.held.keys in
    let number = c.loop-definition.definition-counter in
    each-passed (pieces_of fragments c.args.table.now) c.args.definitions c.args.spread.now.keys c.args.held.now.keys number held
    (stage_of c.args.progress.now) (stage_of c.loop-definition.progress)
    (inr (Contains-from_any equal number held (sym c.contains-in-loop-definition.ensures ∙ c.if-contains-2.true)))
    (c.loop-definition.invariant fragments)

pub loop-definition-preserved : goal.loop-definition-preserved
loop-definition-preserved g c = λ fragments.
    each-begun (pieces_of fragments c.args.table.now) c.args.definitions c.args.spread.now.keys c.args.held.now.keys c.loop-definition.definition-counter
    c.loop-definition.held.keys c.begin_definition.new.held.keys (stage_of c.args.progress.now) (stage_of c.loop-definition.progress)
    (stage_of c.begin_definition.new.progress) c.loop-definition-test.true (c.loop-definition.invariant fragments) (c.in_ok-begin_definition.ensures fragments)

pub returns : goal.returns
returns g c = λ fragments.
    each-all (pieces_of fragments c.args.table.now) c.args.definitions c.args.spread.now.keys c.args.held.now.keys c.loop-definition.definition-counter
    c.loop-definition.held.keys (stage_of c.args.progress.now) (stage_of c.loop-definition.progress) c.loop-definition-test.false (c.loop-definition.invariant fragments)
