use Rattle.std.proofs.Common.{◌≡◌, Bool, Result, subst, sym}
use Rattle.graphql_text.specs.Memory.{Answers}
use Rattle.graphql_scalars.specs.ScalarAnswers.{ScalarAnswer}
use Rattle.graphql_grammar.specs.Faults.{Reading}
use Rattle.graphql_schema.specs.declared.meta.MetaType.{MetaType}
use Rattle.graphql_schema_rows.specs.Rows.{IsMemory}
use Rattle.graphql_schema_rows.specs.Types.{IsNoType, IsType}
use Rattle.graphql_schema_rows.specs.declared.row_fault.RowFault.{RowFault}
use Rattle.graphql_schema_rows.specs.declared.type_row.TypeRow.{TypeRow}
use Rattle.graphql_schema_rows.proofs.type_row.type_of_row.Goals as goal

-- what is answered of a row that is the given one
of_row : {S C : Type 0} (reads : Reading S) (of_bool : Bool → S) (answer : S → ScalarAnswer) (check : C) (given row : TypeRow) (r : Result (MetaType S C) RowFault) → given ≡ row
    → Answers (IsType reads of_bool answer row check) (IsNoType reads of_bool answer row) IsMemory r
    → Answers (IsType reads of_bool answer given check) (IsNoType reads of_bool answer given) IsMemory r
of_row reads of_bool answer check given row r is told = subst (λ it. Answers (IsType reads of_bool answer it check) (IsNoType reads of_bool answer it) IsMemory r) (sym is) told

pub returns-in-Object : goal.returns-in-Object
returns-in-Object g c = of_row g.S.ParseScalarValue.reads g.S.ScalarValue.of_bool g.S.ScalarValue.answer c.args.check c.args.row _ c.object.result c.in-Object.is c.object.ensures

pub returns-in-Interface : goal.returns-in-Interface
returns-in-Interface g c = of_row g.S.ParseScalarValue.reads g.S.ScalarValue.of_bool g.S.ScalarValue.answer c.args.check c.args.row _ c.interface.result c.in-Interface.is c.interface.ensures

pub returns-in-Union : goal.returns-in-Union
returns-in-Union g c = of_row g.S.ParseScalarValue.reads g.S.ScalarValue.of_bool g.S.ScalarValue.answer c.args.check c.args.row _ c.union_type.result c.in-Union.is c.union_type.ensures

pub returns-in-Enum : goal.returns-in-Enum
returns-in-Enum g c = of_row g.S.ParseScalarValue.reads g.S.ScalarValue.of_bool g.S.ScalarValue.answer c.args.check c.args.row _ c.enumeration.result c.in-Enum.is c.enumeration.ensures

pub returns-in-InputObject : goal.returns-in-InputObject
returns-in-InputObject g c = of_row g.S.ParseScalarValue.reads g.S.ScalarValue.of_bool g.S.ScalarValue.answer c.args.check c.args.row _ c.input_object.result c.in-InputObject.is c.input_object.ensures

pub returns-in-OneOf : goal.returns-in-OneOf
returns-in-OneOf g c = of_row g.S.ParseScalarValue.reads g.S.ScalarValue.of_bool g.S.ScalarValue.answer c.args.check c.args.row _ c.one_of.result c.in-OneOf.is c.one_of.ensures
