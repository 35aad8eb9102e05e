-- What documents of rows are made of, for the crates above.
pub use Rattle.graphql_rules_document.proofs.ScopeRows.{at, put, query, select, spread}
