-- Why a file has no allowed queries, in words.
use Rattle.std.specs.Prelude.{ℕ, List, ◌++◌, codes}
use Rattle.std.specs.Fmt.{decimal}
use Rattle.graphql_stores.specs.declared.allowed_fault.AllowedFault.{AllowedFault}
use Rattle.graphql_stores.specs.declared.allowed_fault.AllowedFault.TheVariants as fault

abbrev pub allowed_fault_text : AllowedFault → List ℕ
allowed_fault_text (fault.Line number) =
    codes "line " ++ decimal number ++ codes " tells no plain text"
allowed_fault_text fault.Memory = codes "out of memory"
