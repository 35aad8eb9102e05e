use Rattle.std.proofs.Common.{◌≡◌, refl, ap, sym, subst, []}
use Rattle.graphql_bundles.proofs.ListLemmas.{here}
use Rattle.graphql_bundles.specs.Groups.{key_at}
use Rattle.graphql_rules_merging.proofs.Classing.{alike-agree}
use Rattle.graphql_rules_merging.specs.Classes.{DoTell, numbers_of}
use Rattle.std.proofs.lemmas.Result.{on_ok_weaker}
use Rattle.graphql_merging.specs.Selected.{member_of}
use Rattle.graphql_merging.specs.Tables.{pieces_of, piece_field}
use Rattle.graphql_merging.specs.Told.{Differs, in_order}
use Rattle.graphql_merging.proofs.SameWraps.{same-text}
use Rattle.graphql_merging.proofs.Reports.{differing}
use Rattle.graphql_rules_merging.specs.Agenda.{listed_of, pair_of, ListsPairs}
use Rattle.graphql_rules_merging.specs.Comparing.{stage_of}
use Rattle.graphql_rules_merging.proofs.Texts.{unlike_text}
use Rattle.graphql_rules_merging.proofs.Comparisons.{compares_unlike, compares_differ, compares_agree}
use Rattle.graphql_rules_merging.proofs.fields.compare.Goals as goal

pub returns-then-have_other_keys-clause-compared : goal.returns-then-have_other_keys-clause-compared
returns-then-have_other_keys-clause-compared g c = λ fragments.
    compares_unlike g.S.PartialEq.eq c.args.schema.now.types (pieces_of fragments c.args.table.now) c.args.around
    (piece_field fragments c.args.left.now, piece_field fragments c.args.right.now) (stage_of c.args.progress.now)
    (unlike_text (key_at c.args.left.now) (key_at c.args.right.now) c.have_other_keys.result c.have_other_keys.ensures c.if-have_other_keys.true)

pub returns-in-Some-clause-compared : goal.returns-in-Some-clause-compared
returns-in-Some-clause-compared g c =
    let key = same-text (key_at c.args.left.now) (key_at c.args.right.now) c.have_other_keys.result c.have_other_keys.ensures c.if-have_other_keys.false in
    on_ok_weaker c.tell.result
    (λ told fragments.
    compares_differ g.S.PartialEq.eq c.args.schema.now.types (pieces_of fragments c.args.table.now) c.args.around
    (piece_field fragments c.args.left.now, piece_field fragments c.args.right.now) (stage_of c.args.progress.now)
    (stage_of (record { told = c.tell.new.told; agenda = c.args.progress.now.agenda; comparisons = c.count_comparison.new.comparisons }))
    (in_order c.args.left.now.selected.field.now.span.start c.args.right.now.selected.field.now.span.start) key
    (differing g.S.PartialEq.eq c.args.schema.now.types c.args.around (member_of fragments c.args.left.now.selected) (member_of fragments c.args.right.now.selected) c.in-Some.difference
    (subst (Differs g.S.PartialEq.eq c.args.schema.now.types c.args.around (member_of fragments c.args.left.now.selected) (member_of fragments c.args.right.now.selected)) c.in-Some.is
    (c.in_ok-difference.ensures fragments)))
    refl told.at refl)
    c.tell.ensures

pub returns-then-are_of_one_class-clause-compared : goal.returns-then-are_of_one_class-clause-compared
returns-then-are_of_one_class-clause-compared g c =
    let left = c.args.left.now in
    let right = c.args.right.now in
    let eq = g.S.PartialEq.eq in
    let types = c.args.schema.now.types in
    let class = c.are_of_one_class.ensures c.if-are_of_one_class.true in
    let told = subst (λ m. DoTell eq types m c.numbers_at-other.result left right) (sym c.numbers_at-one.ensures)
    (subst (λ n. DoTell eq types (numbers_of c.args.numbers.now left) n left right) (sym c.numbers_at-other.ensures) (c.requires left right (here left []) (here right []))) in
    let alike = told.classes class.0 class.1 in
    on_ok_weaker c.begin_sets.result
    (λ begun fragments.
    compares_agree eq types (pieces_of fragments c.args.table.now) c.args.around
    (piece_field fragments left, piece_field fragments right) (stage_of c.args.progress.now)
    (stage_of (record { told = c.args.progress.now.told; agenda = c.begin_sets.new.agenda; comparisons = c.count_comparison.new.comparisons })) alike.key
    (alike-agree eq types fragments c.args.around left right alike)
    refl
    (subst (λ k. ListsPairs (pieces_of fragments c.args.table.now) (λ pair. pair ≡ k) (λ pair. pair ≡ k) (listed_of c.args.progress.now.agenda) (listed_of c.begin_sets.new.agenda))
    (ap (pair_of left.own right.own) (c.are_excused-excused.ensures fragments)) (begun fragments)))
    c.begin_sets.ensures

pub returns-in-None-clause-compared : goal.returns-in-None-clause-compared
returns-in-None-clause-compared g c =
    let key = same-text (key_at c.args.left.now) (key_at c.args.right.now) c.have_other_keys.result c.have_other_keys.ensures c.if-have_other_keys.false in
    on_ok_weaker c.begin_sets-in-None.result
    (λ begun fragments.
    compares_agree g.S.PartialEq.eq c.args.schema.now.types (pieces_of fragments c.args.table.now) c.args.around
    (piece_field fragments c.args.left.now, piece_field fragments c.args.right.now) (stage_of c.args.progress.now)
    (stage_of (record { told = c.args.progress.now.told; agenda = c.begin_sets-in-None.new.agenda; comparisons = c.count_comparison.new.comparisons })) key
    (subst (Differs g.S.PartialEq.eq c.args.schema.now.types c.args.around (member_of fragments c.args.left.now.selected) (member_of fragments c.args.right.now.selected)) c.in-None.is
    (c.in_ok-difference.ensures fragments))
    refl
    (subst (λ k. ListsPairs (pieces_of fragments c.args.table.now) (λ pair. pair ≡ k) (λ pair. pair ≡ k) (listed_of c.args.progress.now.agenda) (listed_of c.begin_sets-in-None.new.agenda))
    (ap (pair_of c.args.left.now.own c.args.right.now.own) (c.are_excused-excused-in-None.ensures fragments)) (begun fragments)))
    c.begin_sets-in-None.ensures
