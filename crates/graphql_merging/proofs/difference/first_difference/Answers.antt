use Rattle.std.proofs.Common.{subst}
use Rattle.graphql_tree.specs.Documents.{arguments_in}
use Rattle.graphql_merging.specs.Selected.{member_of}
use Rattle.graphql_merging.specs.Told.{DiffersAsWritten}
use Rattle.graphql_merging.proofs.Reports.{as-written, alike, shapes-of}
use Rattle.graphql_merging.proofs.difference.first_difference.Goals as goal

pub returns-in-Some : goal.returns-in-Some
returns-in-Some g c = λ fragments.
    as-written g.S.PartialEq.eq c.args.schema.now.types c.is_excused-excused.result c.args.around (member_of fragments c.args.left.now) (member_of fragments c.args.right.now) c.in-Some.difference
    (c.is_excused-excused.ensures fragments)
    (subst (DiffersAsWritten g.S.PartialEq.eq c.is_excused-excused.result c.args.left.now.field.now.item.name.item c.args.right.now.field.now.item.name.item
    (arguments_in c.args.left.now.field.now.item.arguments) (arguments_in c.args.right.now.field.now.item.arguments)) c.in-Some.is c.in_ok-written.ensures)

pub returns-then-same_shapes : goal.returns-then-same_shapes
returns-then-same_shapes g c = λ fragments.
    alike g.S.PartialEq.eq c.args.schema.now.types c.is_excused-excused.result c.args.around (member_of fragments c.args.left.now) (member_of fragments c.args.right.now)
    (c.is_excused-excused.ensures fragments)
    (subst (DiffersAsWritten g.S.PartialEq.eq c.is_excused-excused.result c.args.left.now.field.now.item.name.item c.args.right.now.field.now.item.name.item
    (arguments_in c.args.left.now.field.now.item.arguments) (arguments_in c.args.right.now.field.now.item.arguments)) c.in-None.is c.in_ok-written.ensures)
    (shapes-of c.args.schema.now.types c.args.left.now.parent.now c.args.right.now.parent.now c.as_str-name.ensures c.as_str-other.ensures (c.same_shapes.ensures.0 c.if-same_shapes.true))
