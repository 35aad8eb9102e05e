-- What is lent of a schema's declarations.
use Rattle.std.specs.Prelude.{List, []}
use Rattle.std.specs.Option.{option_copied, unwrap_or}
use Rattle.graphql_schema.specs.declared.meta.argument.Argument.{Argument}
use Rattle.graphql_schema.specs.declared.meta.field.Field.{Field}
use Rattle.graphql_schema.specs.Types.{TypeOf}
use Rattle.graphql_occurrences.specs.DeclaredLookups.{typename_field}
use Rattle.graphql_occurrences.specs.declared.arguments.DeclaredArguments.{DeclaredArguments}
use Rattle.graphql_occurrences.specs.declared.fields.KnownField.{KnownField}
use Rattle.graphql_occurrences.specs.declared.literal.TypeLiteral.{TypeLiteral}

-- the type that a lent one stands for
abbrev pub literal_of : TypeLiteral → TypeOf
literal_of t = record { name = t.name.now; modifiers = t.modifiers.now }

-- the field that is declared, else `__typename`
abbrev pub field_of_known : {S : Type 0} → KnownField S → Field S
field_of_known k = unwrap_or (option_copied k.declared) typename_field

-- the arguments that are declared, none where nothing is held
abbrev pub arguments_lent : {S : Type 0} → DeclaredArguments S → List (Argument S)
arguments_lent d = unwrap_or (option_copied d.held) []
