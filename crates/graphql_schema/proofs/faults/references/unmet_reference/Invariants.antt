use Rattle.std.proofs.Common.{◌≡◌, ◌&&◌, false, take}
use Rattle.graphql_names.specs.Names.{Bytes}
use Rattle.graphql_schema.specs.Lookups.{type_named}
use Rattle.graphql_schema.specs.Faults.{refers}
use Rattle.graphql_schema.specs.Demands.{references_asked, is_unmet}
use Rattle.graphql_schema.proofs.faults.references.unmet_reference.Given as goal

-- no type so far refers to one that is not what is asked for
abbrev pub invariant-types : goal.invariant-types
invariant-types g l = (name : Bytes) → (refers (references_asked l.wanted) (take l.meta-index l.types) name && is_unmet l.wanted (type_named l.types name)) ≡ false
