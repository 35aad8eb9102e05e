use Rattle.graphql_schema.proofs.MeantScalars.{scalars_of}
use Rattle.std.proofs.Common.{arith}
use Rattle.graphql_literal_checks.specs.Conforms.{Conforms}
use Rattle.graphql_literal_checks.specs.Judged.{is_constant, lent}
use Rattle.graphql_literal_checks.proofs.OpenLemmas.{begins, ends, goes_on, left_push, stops}
use Rattle.graphql_literal_checks.proofs.conforming.Judge+S.judge.Goals as goal

pub values-init : goal.values-init
values-init g c =
    let scalars = scalars_of g.S.ParseScalarValue g.S.ScalarValue g.S.PartialEq g.S.Check.Check in
    let types = c.args.self.now.schema.now.types in
    let source = c.args.self.now.source in
    let conforms = Conforms scalars types source (lent c.args.asked.now) c.args.value.now in
    begins scalars types source conforms (is_constant c.args.value.now) c.in_ok-constant.constant c.new-opened.result c.enter.new.opened c.new-opened.ensures c.in_ok-constant.ensures.fits

pub values-preserved : goal.values-preserved
values-preserved g c =
    let scalars = scalars_of g.S.ParseScalarValue g.S.ScalarValue g.S.PartialEq g.S.Check.Check in
    let types = c.args.self.now.schema.now.types in
    let source = c.args.self.now.source in
    let conforms = Conforms scalars types source (lent c.args.asked.now) c.args.value.now in
    goes_on scalars types source conforms c.values.constant c.in-Ok.told c.pop.new.self c.values.opened c.resume.new.opened c.in-Some.innermost c.in-Some.ensures c.values.invariant c.in-Ok.ensures.fits

pub values-smaller : goal.values-smaller
values-smaller g c = omega (arith, c.in-Ok.ensures.ends, left_push _ _ _ c.in-Some.ensures)

pub returns-in-Err : goal.returns-in-Err
returns-in-Err g c = λ not_memory.
    let scalars = scalars_of g.S.ParseScalarValue g.S.ScalarValue g.S.PartialEq g.S.Check.Check in
    let types = c.args.self.now.schema.now.types in
    let source = c.args.self.now.source in
    let conforms = Conforms scalars types source (lent c.args.asked.now) c.args.value.now in
    stops scalars types source conforms c.values.constant c.in-Err.misfit c.pop.new.self c.values.opened c.resume.new.opened c.in-Some.innermost c.in-Some.ensures c.values.invariant c.in-Err.ensures.fits (λ memory. not_memory (c.within.ensures memory))

pub returns : goal.returns
returns g c =
    let scalars = scalars_of g.S.ParseScalarValue g.S.ScalarValue g.S.PartialEq g.S.Check.Check in
    let types = c.args.self.now.schema.now.types in
    let source = c.args.self.now.source in
    let conforms = Conforms scalars types source (lent c.args.asked.now) c.args.value.now in
    ends scalars types source conforms c.values.constant c.values.opened c.in_default.ensures.0 c.values.invariant
