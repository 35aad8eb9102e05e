-- What a resolver over a table keeps of a schema.
use Rattle.std.specs.Prelude.{◌≡◌}
use Rattle.graphql_schema.specs.declared.schema.SchemaType.{SchemaType}
use Rattle.graphql_table.specs.TableTypes.{table_types}
use Rattle.graphql_table.specs.declared.resolver.TableResolver.{TableResolver}

-- its types, and the name of its mutation's root
abbrev pub IsResolverOf : {S C : Type 0} → SchemaType S C → TableResolver → Type 0
IsResolverOf schema r = (r.types ≡ table_types schema.types) × (r.mutation ≡ schema.mutation)
