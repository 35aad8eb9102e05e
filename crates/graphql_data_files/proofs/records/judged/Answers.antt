use Rattle.std.proofs.Common.{◌≡◌, true, false, ap, sym, subst, rules, ◌∙◌}
use Rattle.std.specs.List.{list_all}
use Rattle.graphql_records.specs.Tables.{IsTableOf}
use Rattle.graphql_data_files.specs.DataFiles.{has_fields, is_of_object_type, judged, linked}
use Rattle.graphql_data_files.proofs.Judging.{repeat_refused, untyped_refused, unknown_refused, links_left}
use Rattle.graphql_data_files.proofs.ReadSteps.{meets_same}
use Rattle.graphql_data_files.proofs.records.judged.Goals as goal

pub returns-in_default : goal.returns-in_default
returns-in_default c =
    let told = subst (IsTableOf c.args.records) c.in_default.is c.in_ok-records.ensures in
    λ u. repeat_refused c.args.types.now c.args.query.now c.args.root.now c.args.records told.0 told.1

pub returns-then-not-are_typed : goal.returns-then-not-are_typed
returns-then-not-are_typed c =
    let told = subst (IsTableOf c.args.records) c.in-Some.is c.in_ok-records.ensures in
    let not_typed : list_all (is_of_object_type c.args.types.now) c.args.records ≡ false = search rules in
    λ u. untyped_refused c.args.types.now c.args.query.now c.args.root.now c.args.records told.1 not_typed

pub returns-then-not-are_known : goal.returns-then-not-are_known
returns-then-not-are_known c =
    let told = subst (IsTableOf c.args.records) c.in-Some.is c.in_ok-records.ensures in
    let typed : list_all (is_of_object_type c.args.types.now) c.args.records ≡ true = search rules in
    let not_known : list_all (has_fields c.args.types.now) c.args.records ≡ false = search rules in
    λ u. unknown_refused c.args.types.now c.args.query.now c.args.root.now c.args.records told.1 typed not_known

pub returns : goal.returns
returns c =
    let types = c.args.types.now in
    let query = c.args.query.now in
    let told = subst (IsTableOf c.args.records) c.in-Some.is c.in_ok-records.ensures in
    let typed : list_all (is_of_object_type types) c.args.records ≡ true = search rules in
    let known : list_all (has_fields types) c.args.records ≡ true = search rules in
    meets_same c.linked.result (judged types query c.args.root.now c.args.records)
    (links_left types query c.args.root.now c.args.records told.1 typed known
    ∙ ap (λ root. linked types query root c.args.records) (sym c.in_ok-root.ensures)
    ∙ ap (λ table. linked types query c.in_ok-root.root table.entries) (sym told.0)
    ∙ sym c.linked.ensures)
