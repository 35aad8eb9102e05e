-- What a table keeps of a schema's types (GraphQL October 2021, 3.4 Types).
use Rattle.std.specs.Prelude.{◌&&◌, not, List, map}
use Rattle.graphql_names.specs.TypeReference.{has_list}
use Rattle.graphql_names.specs.Names.{passes}
use Rattle.graphql_schema.specs.Types.{fields_of, own_name}
use Rattle.graphql_schema.specs.declared.meta.field.Field.{Field}
use Rattle.graphql_schema.specs.declared.meta.MetaType.{MetaType}
use Rattle.graphql_schema.specs.Faults.{is_composite}
use Rattle.graphql_schema.specs.Lookups.{by_kind, is_scalar, type_named}
use Rattle.graphql_schema.specs.Possible.{possible_types}
use Rattle.graphql_records.specs.declared.table_type.TableField.{TableField}
use Rattle.graphql_records.specs.declared.table_type.TableType.{TableType}

module _ {S C : Type 0} (types : List (MetaType S C)) where
  -- texts are links where the innermost type is composite; a mutation may set what is, non-null
  -- aside, a scalar
  abbrev pub table_field : Field S → TableField
  table_field f = record {
    name = f.name;
    of_type = f.field_type.name;
    is_leaf = not (passes is_composite (type_named types f.field_type.name));
    is_settable = passes is_scalar (type_named types f.field_type.name)
        && not (has_list f.field_type.modifiers);
  }

  abbrev pub table_type : MetaType S C → TableType
  table_type m = record {
    name = own_name m;
    fields = map table_field (fields_of m);
    possible = map own_name (possible_types types m);
  }

  abbrev pub table_types : List TableType
  table_types = map table_type (by_kind types)
