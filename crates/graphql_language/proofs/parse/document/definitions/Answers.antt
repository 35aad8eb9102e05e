use Rattle.std.proofs.Common.{◌≡◌, List, ◌∷◌, [], ◌++◌, true, false, sym, ap, ◌∙◌, refl, arith}
use Rattle.graphql_grammar.specs.Steps.{sees}
use Rattle.graphql_grammar.proofs.Turns.{sees_kind, all_refused, all_more, all_stopped}
use Rattle.graphql_grammar.proofs.Parts.{exits_with}
use Rattle.graphql_tree.specs.declared.document.Definition.{Definition}
use Rattle.graphql_language.specs.ReadDocuments.{definition_kinds, definition}
use Rattle.graphql_language.proofs.DocumentParts.{first_refused, first_read}
use Rattle.graphql_language.proofs.parse.document.definitions.Goals as goal

pub returns-in_err-definition-clause-reads : goal.returns-in_err-definition-clause-reads
returns-in_err-definition-clause-reads g c =
    exits_with c.from_residual-in_err-definition.result c.definition.new.cursor c.from_residual-in_err-definition.ensures.1 c.in_err-definition.ensures.reads (first_refused g.S.ParseScalarValue.reads g.S.ScalarValue.of_bool c.args.cursor.now)

pub definitions-init : goal.definitions-init
definitions-init g c =
    let kept = c.in_ok-keep.ensures.ok ∙ ap (λ (xs : List (Definition g.row.S.Denot)). xs ++ c.in_ok-definition.field-0 ∷ []) c.in_ok-found.ensures in
    record {
      reads = first_read g.S.ParseScalarValue.reads g.S.ScalarValue.of_bool c.args.cursor.now c.in_ok-definition.ensures.reads kept;
      no_more = omega arith;
    }

pub returns-in_err-definition-2-clause-reads : goal.returns-in_err-definition-2-clause-reads
returns-in_err-definition-2-clause-reads g c =
    let item = definition g.S.ParseScalarValue.reads g.S.ScalarValue.of_bool in
    let seen : sees definition_kinds c.definitions.cursor ≡ true = sees_kind definition_kinds c.definitions.cursor c.kind.result true c.kind.ensures (sym c.definitions-test.ensures) in
    exits_with c.from_residual-in_err-definition-2.result c.definition-in-definitions.new.cursor c.from_residual-in_err-definition-2.ensures.1 c.in_err-definition-2.ensures.reads
    (λ refused. all_refused definition_kinds item refl c.definitions.invariant.reads seen refused)

pub definitions-preserved : goal.definitions-preserved
definitions-preserved g c =
    let item = definition g.S.ParseScalarValue.reads g.S.ScalarValue.of_bool in
    let seen : sees definition_kinds c.definitions.cursor ≡ true = sees_kind definition_kinds c.definitions.cursor c.kind.result true c.kind.ensures (sym c.definitions-test.ensures) in
    record {
      reads = all_more definition_kinds item refl c.definitions.invariant.reads seen c.in_ok-definition-2.ensures.reads c.in_ok-definition-2.ensures.fewer c.in_ok-keep-2.ensures.ok;
      no_more = omega arith;
    }

pub returns-clause-reads : goal.returns-clause-reads
returns-clause-reads g c =
    let item = definition g.S.ParseScalarValue.reads g.S.ScalarValue.of_bool in
    let seen : sees definition_kinds c.definitions.cursor ≡ false = sees_kind definition_kinds c.definitions.cursor c.kind.result false c.kind.ensures (sym c.definitions-test.ensures) in
    all_stopped definition_kinds item c.definitions.invariant.reads seen
