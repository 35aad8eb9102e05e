use Rattle.std.proofs.Common.{◌≡◌, None, ap, ◌∙◌}
use Rattle.graphql_schema.specs.Schemas.{roots_named}
use Rattle.graphql_schema_files.specs.SchemaFiles.{roots_of, words_of}
use Rattle.graphql_schema_files.proofs.MadeSchemas.{faulty, sound}
use Rattle.graphql_schema_files.proofs.reading.made.Goals as goal

pub returns-in-Ok : goal.returns-in-Ok
returns-in-Ok g c =
    let file = c.args.file.now in
    let same : roots_named c.as_str-query.result.now (words_of c.lent.result) None ≡ roots_of file = ap (λ query. roots_named query (words_of c.lent.result) None) c.as_str-query.ensures ∙ ap (λ mutation. roots_named file.query mutation None) c.lent.ensures in
    sound _ c.args.types file _ c.in-Ok.schema c.rooted.result same c.in-Ok.ensures.made c.rooted.ensures

pub returns-in-Err : goal.returns-in-Err
returns-in-Err g c =
    let file = c.args.file.now in
    let same : roots_named c.as_str-query.result.now (words_of c.lent.result) None ≡ roots_of file = ap (λ query. roots_named query (words_of c.lent.result) None) c.as_str-query.ensures ∙ ap (λ mutation. roots_named file.query mutation None) c.lent.ensures in
    faulty _ c.args.types file _ c.in-Err.fault c.from.result same c.from.ensures c.in-Err.ensures.made
