use Rattle.std.proofs.Common.{◌≡◌, ◌*◌, arith, length, ap, sym, subst, ◌∙◌, map, inl, inr}
use Rattle.std.proofs.lemmas.Result.{on_ok_weaker}
use Rattle.graphql_merging.specs.Tables.{pieces_of, piece_field}
use Rattle.graphql_rules_merging.specs.Comparing.{stage_of}
use Rattle.graphql_rules_merging.specs.Counted.{field_count_at}
use Rattle.graphql_rules_merging.proofs.Numbered.{direct_at, fields-of, inner_at, empty_at}
use Rattle.graphql_rules_merging.proofs.Weights.{weight-one, weight-two}
use Rattle.graphql_rules_merging.proofs.WholeSets.{compares_empty, compares_itself, compares_other}
use Rattle.graphql_rules_merging.specs.Agenda.{listed_of}
use Rattle.graphql_bundles.specs.Groups.{fields_in}
use Rattle.graphql_rules_merging.specs.Classes.{AreNumbered}
use Rattle.graphql_rules_merging.proofs.sets.compare_sets.Goals as goal

pub returns-in_default-clause-compared : goal.returns-in_default-clause-compared
returns-in_default-clause-compared g c = λ fragments.
    compares_empty g.S.PartialEq.eq c.args.schema.now.types (pieces_of fragments c.args.table.now) c.args.pair (stage_of c.args.progress.now)
    (inl (empty_at fragments c.args.table.now c.args.pair.left c.in_default.ensures))

pub returns-in_default-get-clause-compared : goal.returns-in_default-get-clause-compared
returns-in_default-get-clause-compared g c = λ fragments.
    compares_empty g.S.PartialEq.eq c.args.schema.now.types (pieces_of fragments c.args.table.now) c.args.pair (stage_of c.args.progress.now)
    (inr (empty_at fragments c.args.table.now c.args.pair.right c.in_default-get.ensures))

pub returns-then-pair-clause-compared : goal.returns-then-pair-clause-compared
returns-then-pair-clause-compared g c =
    on_ok_weaker c.compare_itself.result
    (λ both fragments.
    let table = c.args.table.now in
    let left = c.args.pair.left in
    let one = c.in-Some.one.now in
    compares_itself g.S.PartialEq.eq c.args.schema.now.types (pieces_of fragments table) c.args.pair c.as_slice.result.now c.as_slice-2.result.now
    (map (piece_field fragments) c.as_slice-fields.result.now) (stage_of c.args.progress.now) (stage_of c.compare_itself.new.progress)
    (listed_of c.begin_with.new.agenda) (listed_of c.begin_with-2.new.agenda)
    (c.as_slice.ensures ∙ sym (inner_at fragments table left one c.in-Some.ensures))
    (c.as_slice-2.ensures ∙ sym (inner_at fragments table c.args.pair.right c.in-Some-get.other.now c.in-Some-get.ensures))
    (ap (map (piece_field fragments)) c.as_slice-fields.ensures ∙ sym (direct_at fragments table left one c.in-Some.ensures))
    (c.in_ok-begin_with.ensures fragments) (c.in_ok-begin_with-2.ensures fragments) c.if-pair.true (both fragments).0 (both fragments).1)
    c.compare_itself.ensures.compared

pub returns-else-pair-clause-compared : goal.returns-else-pair-clause-compared
returns-else-pair-clause-compared g c =
    on_ok_weaker c.compare_between.result
    (λ compares fragments.
    let table = c.args.table.now in
    let left = c.args.pair.left in
    let right = c.args.pair.right in
    let one = c.in-Some.one.now in
    let other = c.in-Some-get.other.now in
    compares_other g.S.PartialEq.eq c.args.schema.now.types (pieces_of fragments table) c.args.pair c.as_slice.result.now c.as_slice-2.result.now
    (map (piece_field fragments) c.as_slice-fields.result.now) (stage_of c.args.progress.now) (stage_of c.compare_between.new.progress)
    (listed_of c.begin_with.new.agenda) (listed_of c.begin_with-2.new.agenda)
    (c.as_slice.ensures ∙ sym (inner_at fragments table left one c.in-Some.ensures))
    (c.as_slice-2.ensures ∙ sym (inner_at fragments table right other c.in-Some-get.ensures))
    (ap (map (piece_field fragments)) c.as_slice-fields.ensures ∙ sym (direct_at fragments table left one c.in-Some.ensures))
    (c.in_ok-begin_with.ensures fragments) (c.in_ok-begin_with-2.ensures fragments)
    (map (piece_field fragments) c.as_slice-else-pair.result.now)
    (ap (map (piece_field fragments)) c.as_slice-else-pair.ensures ∙ sym (direct_at fragments table right other c.in-Some-get.ensures))
    c.if-pair.false (compares fragments).told (compares fragments).begun)
    c.compare_between.ensures.compared

pub returns-then-pair-clause-counted : goal.returns-then-pair-clause-counted
returns-then-pair-clause-counted g c =
    let table = c.args.table.now in
    let left = c.args.pair.left in
    let fields = ap length (c.as_slice-fields.ensures ∙ fields-of table left c.in-Some.one.now c.in-Some.ensures) in
    let weighs = weight-one (field_count_at table) left c.args.pair.right c.if-pair.true in
    on_ok_weaker c.compare_itself.result (λ counted. omega (arith, counted, weighs, ap (λ n. n * n) fields)) c.compare_itself.ensures.counted

pub returns-else-pair-clause-counted : goal.returns-else-pair-clause-counted
returns-else-pair-clause-counted g c =
    let table = c.args.table.now in
    let left = c.args.pair.left in
    let right = c.args.pair.right in
    let one = ap length (c.as_slice-fields.ensures ∙ fields-of table left c.in-Some.one.now c.in-Some.ensures) in
    let other = ap length (c.as_slice-else-pair.ensures ∙ fields-of table right c.in-Some-get.other.now c.in-Some-get.ensures) in
    let both : length c.as_slice-fields.result.now * length c.as_slice-else-pair.result.now ≡ field_count_at table left * field_count_at table right = (λ i. one i * other i) in
    let weighs = weight-two (field_count_at table) left right c.if-pair.false in
    on_ok_weaker c.compare_between.result (λ counted. omega (arith, counted, weighs, both)) c.compare_between.ensures.counted

pub compare_itself-requires : goal.compare_itself-requires
compare_itself-requires g c =
    let left = c.args.pair.left in
    let are = c.as_slice-fields.ensures ∙ fields-of c.args.table.now left c.in-Some.one.now c.in-Some.ensures in
    subst (λ fs. AreNumbered g.S.PartialEq.eq c.args.schema.now.types c.args.numbers.now fs fs) (sym are) (c.requires left left)

pub compare_between-requires : goal.compare_between-requires
compare_between-requires g c =
    let table = c.args.table.now in
    let left = c.args.pair.left in
    let right = c.args.pair.right in
    let one = c.as_slice-fields.ensures ∙ fields-of table left c.in-Some.one.now c.in-Some.ensures in
    let other = c.as_slice-else-pair.ensures ∙ fields-of table right c.in-Some-get.other.now c.in-Some-get.ensures in
    subst (λ fs. AreNumbered g.S.PartialEq.eq c.args.schema.now.types c.args.numbers.now fs c.as_slice-else-pair.result.now) (sym one)
    (subst (λ gs. AreNumbered g.S.PartialEq.eq c.args.schema.now.types c.args.numbers.now (fields_in table left) gs) (sym other) (c.requires left right))
