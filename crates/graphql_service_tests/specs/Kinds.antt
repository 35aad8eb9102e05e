-- Of which kind a value is, wherever it stands.
use Rattle.std.specs.Prelude.{codes}
use Rattle.graphql_names.specs.Names.{Bytes}
use Rattle.graphql_values.specs.declared.input_value.InputValue.{InputValue, out-InputValue}
use Rattle.graphql_values.specs.declared.input_value.InputValue.TheOpen.{InputValue-F}

abbrev pub kind_layer : {S X : Type 0} → InputValue-F S X → Bytes
kind_layer InputValue-F.Null = codes "null"
kind_layer (InputValue-F.Scalar scalar) = codes "scalar"
kind_layer (InputValue-F.Enum name) = codes "enum"
kind_layer (InputValue-F.Variable name) = codes "variable"
kind_layer (InputValue-F.List items) = codes "list"
kind_layer (InputValue-F.Object pairs) = codes "object"

abbrev pub kind : {S : Type 0} → InputValue S → Bytes
kind {S} v = kind_layer (out-InputValue S v)
