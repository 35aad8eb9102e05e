use Rattle.std.proofs.Common.{◌≡◌, ◌≤◌, ◌<◌, ◌++◌, sym, ◌∙◌, ap, subst}
use Rattle.std.specs.String.{string_bytes}
use Rattle.graphql_written_out.specs.FinalVariables.{value_in}
use Rattle.graphql_written_out.specs.Written.{Settled, written}
use Rattle.graphql_tree.specs.Definitions.{fragments_listed}
use Rattle.graphql_plain_tree.specs.Plain.{size}
use Rattle.graphql_plain_tree.specs.PlainOperations.{plain_by, variables_used}
use Rattle.graphql_plain_text.specs.PlainTexts.{spaced}
use Rattle.graphql_plain_text.specs.SpanTokens.{tokens_within}
use Rattle.graphql_plain_text.specs.TreeTokens.{in_braces, selection_tokens}
use Rattle.graphql_plain_print.specs.NameSets.{AreSame}
use Rattle.graphql_plain_print.proofs.FaultLemmas.{too-large}
use Rattle.graphql_plain_print.proofs.OperationLemmas.{operation-text}
use Rattle.graphql_plain_print.proofs.operation.print_operation.Goals as goal

pub print_set-requires : goal.print_set-requires
print_set-requires g c = subst (λ d. Settled (fragments_listed d)) (sym (ap (λ b. b.now) c.in_ok-fragments.ensures)) c.requires

pub returns-clause-text : goal.returns-clause-text
returns-clause-text g c =
    let o = c.args.operation.now in
    let given = value_in c.args.variables.now in
    let tokens = c.args.tokens.now.tokens in
    let tree = plain_by g.S.ScalarValue.answer g.S.ScalarValue.of_bool given (written (fragments_listed c.args.document.now) o.selection_set) in
    let of_plan = plain_by g.S.ScalarValue.answer g.S.ScalarValue.of_bool given (written (fragments_listed c.in_ok-fragments.fragments.document.now) c.as_slice.result.now) in
    let same : of_plan ≡ tree = (λ i. plain_by g.S.ScalarValue.answer g.S.ScalarValue.of_bool given (written (fragments_listed (c.in_ok-fragments.ensures i).now) (c.as_slice.ensures i))) in
    let names = c.print_set.new.used.keys in
    let fresh : AreSame names (variables_used of_plan) = subst (λ l. AreSame names (l ++ variables_used of_plan)) c.new-used.ensures.empty c.in_ok-print_set.ensures.uses in
    let set_text : string_bytes c.print_set.new.text ≡ spaced (in_braces (selection_tokens (tokens_within tokens) of_plan)) =
    c.in_ok-print_set.ensures.text ∙ ap (λ l. l ++ spaced (in_braces (selection_tokens (tokens_within tokens) of_plan))) c.new-set.ensures.bytes in
    c.in_ok-push_str-2.ensures.bytes
    ∙ operation-text g.S.ScalarValue.answer g.S.ScalarValue.of_bool given tokens (fragments_listed c.args.document.now) o names c.definitions_of.result.now
    (string_bytes c.push_str.new.self) (string_bytes c.push_name.new.text) (string_bytes c.push_definitions.new.text) c.as_str.result.now
    (c.in_ok-push_str.ensures.bytes ∙ ap (λ l. l ++ c.keyword_of.result.now) c.new-text.ensures.bytes ∙ c.keyword_of.ensures)
    c.in_ok-push_name.ensures c.in_ok-push_definitions.ensures c.definitions_of.ensures (subst (λ t. AreSame names (variables_used t)) same fresh)
    (c.as_str.ensures.value ∙ set_text ∙ ap (λ t. spaced (in_braces (selection_tokens (tokens_within tokens) t))) same)

pub returns-clause-uses : goal.returns-clause-uses
returns-clause-uses g c =
    let given = value_in c.args.variables.now in
    let tree = plain_by g.S.ScalarValue.answer g.S.ScalarValue.of_bool given (written (fragments_listed c.args.document.now) c.args.operation.now.selection_set) in
    let of_plan = plain_by g.S.ScalarValue.answer g.S.ScalarValue.of_bool given (written (fragments_listed c.in_ok-fragments.fragments.document.now) c.as_slice.result.now) in
    let same : of_plan ≡ tree = (λ i. plain_by g.S.ScalarValue.answer g.S.ScalarValue.of_bool given (written (fragments_listed (c.in_ok-fragments.ensures i).now) (c.as_slice.ensures i))) in
    let names = c.print_set.new.used.keys in
    subst (λ t. AreSame names (variables_used t)) same
    (subst (λ l. AreSame names (l ++ variables_used of_plan)) c.new-used.ensures.empty c.in_ok-print_set.ensures.uses)

pub returns-clause-fits : goal.returns-clause-fits
returns-clause-fits g c =
    let given = value_in c.args.variables.now in
    let tree = plain_by g.S.ScalarValue.answer g.S.ScalarValue.of_bool given (written (fragments_listed c.args.document.now) c.args.operation.now.selection_set) in
    let of_plan = plain_by g.S.ScalarValue.answer g.S.ScalarValue.of_bool given (written (fragments_listed c.in_ok-fragments.fragments.document.now) c.as_slice.result.now) in
    let same : of_plan ≡ tree = (λ i. plain_by g.S.ScalarValue.answer g.S.ScalarValue.of_bool given (written (fragments_listed (c.in_ok-fragments.ensures i).now) (c.as_slice.ensures i))) in
    subst (λ t. size t ≤ c.args.limit) same c.in_ok-print_set.ensures.fits

pub returns-in_err-print_set-clause-large : goal.returns-in_err-print_set-clause-large
returns-in_err-print_set-clause-large g c =
    let given = value_in c.args.variables.now in
    let tree = plain_by g.S.ScalarValue.answer g.S.ScalarValue.of_bool given (written (fragments_listed c.args.document.now) c.args.operation.now.selection_set) in
    let of_plan = plain_by g.S.ScalarValue.answer g.S.ScalarValue.of_bool given (written (fragments_listed c.in_ok-fragments.fragments.document.now) c.as_slice.result.now) in
    let same : of_plan ≡ tree = (λ i. plain_by g.S.ScalarValue.answer g.S.ScalarValue.of_bool given (written (fragments_listed (c.in_ok-fragments.ensures i).now) (c.as_slice.ensures i))) in
    too-large Unit c.from_residual-in_err-print_set.result c.in_err-print_set.field-0.0 (c.args.limit < size of_plan) (c.args.limit < size tree)
    c.from_residual-in_err-print_set.ensures.1 c.in_err-print_set.ensures.large (subst (λ t. c.args.limit < size t) same)
