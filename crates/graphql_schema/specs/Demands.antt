-- What is asked of the types that names refer to (GraphQL October 2021, 3.4.2 Input and Output
-- Types, 3.6 to 3.8).
use Rattle.std.specs.Prelude.{◌&&◌, not, List, [], Bool, Option}
use Rattle.std.specs.Option.{is_some}
use Rattle.graphql_schema.specs.declared.meta.MetaType.{MetaType}
use Rattle.graphql_schema.specs.declared.faults.demand.Demand.{Demand}
use Rattle.graphql_schema.specs.declared.faults.demand.Demand.TheVariants as demand
use Rattle.graphql_names.specs.Names.{Bytes, is_one_of, passes}
use Rattle.graphql_schema.specs.Lookups.{type_named, is_object, is_scalar, is_interface}
use Rattle.graphql_schema.specs.Lookups.{is_input_object, interfaces_of, union_members}
use Rattle.graphql_schema.specs.Lookups.{output_names}
use Rattle.graphql_schema.specs.Lookups.{input_names, references_of}
use Rattle.graphql_schema.specs.Faults.{is_composite, refers}

module _ {S C : Type 0} where
  -- the type of a name, if there is one, is not what is asked for
  abbrev pub is_unmet : Demand → Option (MetaType S C) → Bool
  is_unmet demand.Known found = not (is_some found)
  is_unmet demand.Output found = passes is_input_object found
  is_unmet demand.Input found = passes is_composite found
  is_unmet demand.Object found = not (passes is_object found)
  is_unmet demand.Interface found = not (passes is_interface found)
  is_unmet demand.Scalar found = not (passes is_scalar found)

  -- the references of a type of which it is asked
  abbrev pub references_asked : Demand → MetaType S C → List Bytes
  references_asked demand.Known m = references_of m
  references_asked demand.Output m = output_names m
  references_asked demand.Input m = input_names m
  references_asked demand.Object m = union_members m
  references_asked demand.Interface m = interfaces_of m
  references_asked demand.Scalar m = []

  -- it is one of the names, and its type is not what is asked for
  abbrev pub misses : Demand → List (MetaType S C) → List Bytes → Bytes → Bool
  misses wanted types names name = is_one_of names name && is_unmet wanted (type_named types name)

  -- one of the types refers to it where that is asked, and its type is not what is asked for
  abbrev pub is_referred : Demand → List (MetaType S C) → Bytes → Bool
  is_referred wanted types name =
      refers (references_asked wanted) types name && is_unmet wanted (type_named types name)
