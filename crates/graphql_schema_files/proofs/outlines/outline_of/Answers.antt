use Rattle.std.proofs.Common.{◌≡◌, None, ap, ◌∙◌}
use Rattle.graphql_schema.specs.Schemas.{roots_named}
use Rattle.graphql_schema_files.specs.SchemaFiles.{roots_of, words_of}
use Rattle.graphql_schema_files.proofs.Outlining.{not_added, outlined, refused_types}
use Rattle.graphql_schema_files.proofs.outlines.outline_of.Goals as goal

pub returns-then-not-branch : goal.returns-then-not-branch
returns-then-not-branch c = λ other.
    not_added c.args.file.now c.as_slice.result.now c.as_slice.ensures c.in_ok-types.types c.add_types.new.types c.in_ok-add_types.field-0 c.if-not-branch.true c.in_ok-add_types.ensures

pub returns-in-Ok : goal.returns-in-Ok
returns-in-Ok c =
    let file = c.args.file.now in
    let same : roots_named c.as_str-query.result.now (words_of c.lent.result) None ≡ roots_of file = ap (λ query. roots_named query (words_of c.lent.result) None) c.as_str-query.ensures ∙ ap (λ mutation. roots_named file.query mutation None) c.lent.ensures in
    outlined file c.as_slice.result.now c.as_slice.ensures c.in_ok-types.types c.add_types.new.types c.in_ok-types.ensures c.in_ok-add_types.field-0 c.if-not-branch.false c.in_ok-add_types.ensures
    _ same c.in-Ok.schema c.in-Ok.ensures.made

pub returns-in-Err : goal.returns-in-Err
returns-in-Err c =
    let file = c.args.file.now in
    let same : roots_named c.as_str-query.result.now (words_of c.lent.result) None ≡ roots_of file = ap (λ query. roots_named query (words_of c.lent.result) None) c.as_str-query.ensures ∙ ap (λ mutation. roots_named file.query mutation None) c.lent.ensures in
    refused_types file c.as_slice.result.now c.as_slice.ensures c.in_ok-types.types c.add_types.new.types c.in_ok-types.ensures c.in_ok-add_types.field-0 c.if-not-branch.false c.in_ok-add_types.ensures
    _ same c.in-Err.fault c.from.result c.from.ensures c.in-Err.ensures.made
