-- Laws of what a table answers and sets.
use Rattle.std.specs.Prelude.{◌≡◌, Bool, true, List, Err}
use Rattle.graphql_names.specs.Names.{Bytes}
use Rattle.graphql_arguments.specs.SameArguments.{SameArguments, SameInOrder}
use Rattle.graphql_scalars.specs.declared.default_scalar.DefaultScalarValue.{DefaultScalarValue}
use Rattle.graphql_field_results.specs.Answered.{TellsInDistinctKeys}
use Rattle.graphql_records.specs.Answers.{answer}
use Rattle.graphql_records.specs.Asked.{Asked}
use Rattle.graphql_records.specs.Settings.{Fault, root_answer, table_after}
use Rattle.graphql_records.specs.Tables.{Table}
use Rattle.graphql_records.specs.declared.table_node.TableNode.{TableNode}
use Rattle.graphql_records.specs.declared.table_type.TableType.{TableType}

-- scalars that are equal are one
abbrev pub IsExact : (DefaultScalarValue → DefaultScalarValue → Bool) → Type 0
IsExact eq = (a b : DefaultScalarValue) → eq a b ≡ true → a ≡ b

-- to arguments that are the same under each name, a table gives one answer
abbrev pub AnswersRespect : (DefaultScalarValue → DefaultScalarValue → Bool) → Type 0
AnswersRespect eq =
    (types : List TableType) (table : Table) (n : TableNode) (field : Bytes) (a b : Asked)
    → SameArguments eq a b → answer types table n field a ≡ answer types table n field b

-- to arguments that are the same in one order, a mutation's field gives one answer, and leaves one
-- table
abbrev pub SettingsRespect : (DefaultScalarValue → DefaultScalarValue → Bool) → Type 0
SettingsRespect eq = (types : List TableType) (table : Table) (of_type : Bytes) (a b : Asked)
    → SameInOrder eq a b
    → (root_answer types table of_type a ≡ root_answer types table of_type b)
    × (table_after types table of_type a ≡ table_after types table of_type b)

-- where it is refused, the table stays
abbrev pub RefusalsChangeNothing : Type 0
RefusalsChangeNothing =
    (types : List TableType) (table : Table) (of_type : Bytes) (given : Asked) (refusal : Fault)
    → root_answer types table of_type given ≡ Err refusal
    → table_after types table of_type given ≡ table

-- and what is told beside the reason has distinct keys
abbrev pub RefusalsTellDistinctKeys : Type 0
RefusalsTellDistinctKeys =
    (types : List TableType) (table : Table) (of_type : Bytes) (given : Asked)
    → TellsInDistinctKeys (root_answer types table of_type given)
