-- The kinds of types (GraphQL October 2021, 4.2.2 The __Type Type, Type Kinds; 3.4 Types).
use Rattle.std.specs.Prelude.{Option, Some, None}
use Rattle.graphql_schema.specs.declared.meta.type_kind.TypeKind.{TypeKind}
use Rattle.graphql_schema.specs.declared.meta.type_kind.TypeKind.TheVariants as kind
use Rattle.graphql_schema.specs.declared.meta.MetaType.{MetaType}
use Rattle.graphql_schema.specs.declared.meta.MetaType.TheVariants as meta

module _ {S C : Type 0} where
  -- metadata that only refer to another type tell no kind
  abbrev pub kind_of : MetaType S C → Option TypeKind
  kind_of (meta.Scalar m) = Some kind.Scalar
  kind_of (meta.Object m) = Some kind.Object
  kind_of (meta.Interface m) = Some kind.Interface
  kind_of (meta.Union m) = Some kind.Union
  kind_of (meta.Enum m) = Some kind.Enum
  kind_of (meta.InputObject m) = Some kind.InputObject
  kind_of (meta.List m) = Some kind.List
  kind_of _ = None

  -- an object, an interface or a union (2.4 Selection Sets)
  abbrev pub IsComposite : MetaType S C → Type 0
  IsComposite (meta.Object m) = Unit {0}
  IsComposite (meta.Interface m) = Unit {0}
  IsComposite (meta.Union m) = Unit {0}
  IsComposite _ = ⊥

  -- a scalar or an enum (5.3.3 Leaf Field Selections)
  abbrev pub IsLeaf : MetaType S C → Type 0
  IsLeaf (meta.Scalar m) = Unit {0}
  IsLeaf (meta.Enum m) = Unit {0}
  IsLeaf _ = ⊥

  -- an interface or a union (3.4 Types)
  abbrev pub IsAbstract : MetaType S C → Type 0
  IsAbstract (meta.Interface m) = Unit {0}
  IsAbstract (meta.Union m) = Unit {0}
  IsAbstract _ = ⊥

  -- a scalar, an enum or an input object (3.4.2 Input and Output Types)
  abbrev pub IsInput : MetaType S C → Type 0
  IsInput (meta.Scalar m) = Unit {0}
  IsInput (meta.Enum m) = Unit {0}
  IsInput (meta.InputObject m) = Unit {0}
  IsInput _ = ⊥
