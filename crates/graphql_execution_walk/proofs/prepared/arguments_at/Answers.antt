use Rattle.std.proofs.Common.{◌≡◌, sym, subst, ◌∙◌, []}
use Rattle.graphql_arguments.specs.GivenValues.{arguments_told}
use Rattle.graphql_text.specs.Memory.{GivesBy}
use Rattle.graphql_written_out.specs.Written.{head_of}
use Rattle.graphql_execution_walk.specs.Engines.{arguments_given}
use Rattle.graphql_execution_walk.proofs.PreparedLemmas.{bare-known}
use Rattle.graphql_execution_walk.proofs.prepared.arguments_at.Goals as goal

-- no argument has a value
pub returns-then-is_bare : goal.returns-then-is_bare
returns-then-is_bare g c =
    let rq = c.args.request.now in
    let head = head_of c.args.field.now in
    let none : arguments_given rq c.args.object.now head ≡ [] =
    bare-known rq c.args.object.now head c.args.prepared c.requires (sym c.is_bare.ensures ∙ c.if-is_bare.true) in
    subst (GivesBy arguments_told c.new.result) (sym none) c.new.ensures
