-- Why there is no service, in words.
use Rattle.std.specs.Prelude.{codes}
use Rattle.graphql_names.specs.Names.{Bytes}
use Rattle.graphql_service.specs.declared.service.ServiceFault.{ServiceFault}
use Rattle.graphql_service.specs.declared.service.ServiceFault.TheVariants.{
  Memory,
  NotExecutable,
  OtherBoolean,
  OtherConditions,
}

abbrev pub service_fault_text : ServiceFault → Bytes
service_fault_text NotExecutable = codes "a type of the schema does not keep what it promises"
service_fault_text OtherConditions = codes "the directive skip or include is not the standard's"
service_fault_text OtherBoolean = codes "the type Boolean is no scalar that takes true"
service_fault_text Memory = codes "out of memory"
