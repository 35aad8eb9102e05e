use Rattle.std.proofs.Common.{refl}
use Rattle.graphql_validation.proofs.ApartLemmas.{asked, not_asked}
use Rattle.graphql_validation.proofs.introspection.IntrospectionVisitor.on.Goals as goal

pub returns-then-not-self : goal.returns-then-not-self
returns-then-not-self g c = not_asked c.args.event.now c.args.self.now c.args.context.now c.if-not-self.true

pub returns : goal.returns
returns g c =
    asked c.args.event.now c.args.self.now (record c.args.self.now { errors = c.swap_errors-2.new.errors }) c.args.context.now c.swap_errors.new.self c.tell.new.context c.swap_errors-2.new.self
    c.swap_errors.new.errors c.swap_errors.ensures.context c.swap_errors.ensures.errors c.tell.ensures c.swap_errors-2.ensures.context c.if-not-self.false refl c.swap_errors-2.ensures.errors
