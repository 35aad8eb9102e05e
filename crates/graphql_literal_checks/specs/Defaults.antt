-- Whether the defaults of arguments and input fields conform to their types (GraphQL October 2021,
-- 5.6.1 Values of Correct Type).
use Rattle.std.specs.Prelude.{List, Option, Some, None, IfSome}
use Rattle.std.specs.Borrow.{Bor}
use Rattle.std.specs.List.{All}
use Rattle.graphql_names.specs.Names.{Bytes}
use Rattle.graphql_schema.specs.Scalars.{Scalars}
use Rattle.graphql_schema.specs.declared.meta.argument.Argument.{Argument}
use Rattle.graphql_schema.specs.declared.meta.field.Field.{Field}
use Rattle.graphql_schema.specs.declared.meta.MetaType.{MetaType}
use Rattle.graphql_schema.specs.Types.{arguments_of, fields_of, input_fields_of}
use Rattle.graphql_schema.specs.Lookups.{type_named}
use Rattle.graphql_schema.specs.Promises.{IsFirstWithout}
use Rattle.graphql_literal_checks.specs.Conforms.{Conforms}
use Rattle.graphql_literal_checks.specs.declared.source.Source.TheVariants.{Literal}

-- by what scalars mean, and the types of a schema
module _ {S C : Type 0} (scalars : Scalars S C) (types : List (MetaType S C)) where
  -- its default, where it has one, conforms to its type
  abbrev pub ArgumentConforms : Argument S → Type 0
  ArgumentConforms argument =
      IfSome argument.default_value (Conforms scalars types Literal argument.arg_type)

  abbrev pub FieldConforms : Field S → Type 0
  FieldConforms field = All ArgumentConforms (arguments_of field)

  -- those of the arguments of its fields, and those of its input fields
  abbrev pub TypeConforms : MetaType S C → Type 0
  TypeConforms m = All FieldConforms (fields_of m) × All ArgumentConforms (input_fields_of m)

  -- each default in the type of a name, where there is one, conforms
  abbrev pub NamedConforms : Bytes → Type 0
  NamedConforms name = IfSome (type_named types name) TypeConforms

  -- each default in the types of these names conforms, or this is the first name of a type of which
  -- one does not
  abbrev pub IsFirstUnfit : List Bytes → Option (Bor Bytes) → Type 0
  IsFirstUnfit names None = All NamedConforms names
  IsFirstUnfit names (Some name) = IsFirstWithout NamedConforms names name.now
