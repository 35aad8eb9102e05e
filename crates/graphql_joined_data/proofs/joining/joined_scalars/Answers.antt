use Rattle.std.proofs.Common.{◌≡◌, ◌∙◌, sym, rules}
use Rattle.graphql_joined_data.proofs.JoinSteps.{scalars-differ, scalars-join}
use Rattle.graphql_joined_data.proofs.joining.joined_scalars.Goals as goal

pub returns-in_ok-clone-clause-joins : goal.returns-in_ok-clone-clause-joins
returns-in_ok-clone-clause-joins g c = λ exact.
    let copy : c.in_ok-clone.field-0 ≡ c.args.first.now = search (rules, g.met.S.ScalarValue.clones) in
    scalars-join c.args.first.now c.args.second.now c.in_ok-clone.field-0 copy (exact c.args.first.now c.args.second.now (sym c.eq.ensures ∙ c.if-eq.true))

pub returns-else-eq-clause-joins : goal.returns-else-eq-clause-joins
returns-else-eq-clause-joins g c =
    scalars-differ g.S.PartialEq.eq g.met.S.Eq.laws.refl c.new.result c.args.first.now c.args.second.now c.new.ensures (sym c.eq.ensures ∙ c.if-eq.false)
