-- A service over files whose answers are kept.
use Rattle.std.proofs.Common.{◌≡◌, true, sym, subst}
use Rattle.graphql_scalars.specs.declared.default_scalar.DefaultScalarValue.{DefaultScalarValue}
use Rattle.graphql_schema.specs.Declarations.{declarations_of}
use Rattle.graphql_schema.specs.Directives.{has_standard_conditions}
use Rattle.graphql_schema.specs.declared.root_node.RootNode.{RootNode}
use Rattle.graphql_service.specs.Made.{Scalars, TakesStandIn, TakesTrue}
use Rattle.graphql_file_service.specs.TableServices.{TableService}

-- its schema takes the stand-in of plain texts
pub takes-stand-in : {C : Type 0} (s : Scalars DefaultScalarValue C) (service : TableService C) (root : RootNode DefaultScalarValue C)
    → service.root_node ≡ root → has_standard_conditions root.schema.directives ≡ true
    → TakesTrue s.accepts (declarations_of root.schema) s.of_bool → TakesStandIn s service.root_node.schema
takes-stand-in {C} s service root same conditions truth =
    subst (λ (n : RootNode DefaultScalarValue C). TakesStandIn s n.schema) (sym same) (record { conditions = conditions; truth = truth })
