use Rattle.graphql_literal_checks.proofs.Decided.{refuted}
use Rattle.graphql_schema_files.proofs.Readings.{added_made, none_added}
use Rattle.graphql_schema_files.proofs.reading.read_draft.Goals as goal

pub returns-then-not-is_named : goal.returns-then-not-is_named
returns-then-not-is_named g c = λ other. refuted c.is_named.result c.if-not-is_named.true c.is_named.ensures

pub returns-then-not-branch : goal.returns-then-not-branch
returns-then-not-branch g c = λ other. (
  c.is_named.ensures.0 c.if-not-is_named.false,
  refuted c.in_ok-has_types.field-0 c.if-not-branch.true c.in_ok-has_types.ensures,
)

pub returns-then-not-branch-2 : goal.returns-then-not-branch-2
returns-then-not-branch-2 g c = λ other.
    none_added c.args.types c.add_declared.new.types c.args.file.now (c.is_named.ensures.0 c.if-not-is_named.false) (c.in_ok-has_types.ensures.0 c.if-not-branch.false)
    c.in_ok-add_declared.field-0 c.if-not-branch-2.true c.in_ok-add_declared.ensures

pub returns : goal.returns
returns g c =
    added_made _ c.args.types c.args.file.now (c.is_named.ensures.0 c.if-not-is_named.false)
    c.add_declared.new.types c.in_ok-add_declared.field-0 c.if-not-branch-2.false c.in_ok-add_declared.ensures c.made.result c.made.ensures
