-- The parts of a document of which the rules speak, each with what its schema says there. Places
-- are those of first tokens.
use Rattle.std.specs.Prelude.{List, Bool, Option}
use Rattle.graphql_text.specs.declared.position.SourcePosition.{SourcePosition}
use Rattle.graphql_values.specs.InputValues.{Placed}
use Rattle.graphql_values.specs.declared.input_value.InputValue.{InputValue}
use Rattle.graphql_tree.specs.Arguments.{Argument}
use Rattle.graphql_schema.specs.declared.meta.argument.Argument.{Argument as Declared}
use Rattle.graphql_schema.specs.declared.meta.field.Field.{Field as DeclaredField}
use Rattle.graphql_schema.specs.declared.directive.DirectiveType.{DirectiveType}
use Rattle.graphql_schema.specs.declared.directive_location.DirectiveLocation.{DirectiveLocation}
use Rattle.graphql_schema.specs.declared.meta.MetaType.{MetaType}
use Rattle.graphql_schema.specs.Types.{TypeOf}
use Rattle.graphql_names.specs.Names.{Bytes}

-- where a value stands: the type of the values that are asked for, whether the place has a default
-- (5.8.5 All Variable Usages Are Allowed), and whether it is the one field that is given of an
-- input object, which refuses `null` by itself
pub record InputPlace : Type 0 where
  pub asked : TypeOf
  pub has_default : Bool
  pub is_only_field : Bool

-- a variable where it stands for a value (2.10 Variables)
pub record Use : Type 0 where
  pub name : Bytes
  pub place : SourcePosition
  pub at : Option InputPlace

-- what an operation says of a variable, its directives aside
pub record VariablePart (S : Type 0) : Type 0 where
  pub name : Placed Bytes
  pub type_of : Placed TypeOf
  pub default : Option (Placed (InputValue S))

-- a field, the type that it is selected of, and the field of its name there (2.5 Fields)
pub record FieldPart (S C : Type 0) : Type 0 where
  pub name : Bytes
  pub place : SourcePosition
  pub parent : MetaType S C
  pub declared : Option (DeclaredField S)
  pub has_set : Bool

-- a spread, and the type that it is selected of (2.8 Fragments)
pub record SpreadPart (S C : Type 0) : Type 0 where
  pub name : Placed Bytes
  pub place : SourcePosition
  pub parent : MetaType S C

-- an inline fragment, and the type that it is selected of (2.8.2 Inline Fragments)
pub record InlinePart (S C : Type 0) : Type 0 where
  pub condition : Option (Placed Bytes)
  pub place : SourcePosition
  pub parent : MetaType S C

-- a directive, where it stands, and the directive of its name (2.12 Directives)
pub record DirectivePart (S : Type 0) : Type 0 where
  pub name : Bytes
  pub place : SourcePosition
  pub location : DirectiveLocation
  pub declared : Option (DirectiveType S)

-- what a field or a directive is given, and what is declared for it, where it is known (2.6
-- Arguments)
pub record GivenPart (S : Type 0) : Type 0 where
  pub place : SourcePosition
  pub given : List (Argument S)
  pub declared : Option (List (Declared S))

-- the condition is that of an inline fragment or of a fragment, and the names are those of an
-- object's fields
pub data Part (S C : Type 0) : Type 0 where
  VariableDefined : VariablePart S → Part S C
  Condition : Placed Bytes → Part S C
  AField : FieldPart S C → Part S C
  ASpread : SpreadPart S C → Part S C
  AnInline : InlinePart S C → Part S C
  ADirective : DirectivePart S → Part S C
  Given : GivenPart S → Part S C
  ObjectOf : List (Placed Bytes) → Part S C
  VariableUsed : Use → Part S C
