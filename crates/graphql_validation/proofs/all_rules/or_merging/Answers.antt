use Rattle.std.proofs.Common.{◌≡◌, [], subst, sym, ◌∙◌}
use Rattle.std.proofs.lemmas.Bool.{false≢true}
use Rattle.graphql_rule_errors.specs.Places.{places}
use Rattle.graphql_schema.proofs.MeantScalars.{scalars_of}
use Rattle.graphql_schema.specs.Declarations.{declarations_of}
use Rattle.graphql_rules_document.proofs.KnownFieldTypes.{field-types-are-known}
use Rattle.graphql_rules_document.proofs.SettledFragments.{ending-fragments-are-settled}
use Rattle.graphql_visitors.specs.Subjects.{Subject}
use Rattle.graphql_validation.specs.AllRules.{AllRules, IsValid, of_first_stage}
use Rattle.graphql_validation.specs.FirstStage.{FirstStage}
use Rattle.graphql_validation.proofs.AllRulesLemmas.{all-exactly, merged, settled-where-well-formed, some_places}
use Rattle.graphql_validation.proofs.ReportedLemmas.{errors_none}
use Rattle.graphql_validation.proofs.WellFormedLemmas.{well_formed}
use Rattle.graphql_validation.proofs.all_rules.or_merging.Goals as goal

told : goal.returns-then-is_empty-clause-told
told g c =
    let scalars = scalars_of g.S.ParseScalarValue g.S.ScalarValue g.S.PartialEq g.S.Check.Check in
    let schema = declarations_of c.args.schema.now in
    let here : Subject g.row.S.Denot g.row.S-Check.Denot = record { schema = schema; document = c.args.document.now } in
    let empty : c.args.stage ≡ [] = c.is_empty.ensures.0 c.if-is_empty.true in
    let fault = c.requires.none.0 empty in
    let first = subst (λ errors. FirstStage scalars here (places errors)) empty c.requires.told in
    let settled = settled-where-well-formed here (ending-fragments-are-settled schema (field-types-are-known schema c.args.schema.now.faultless)) (well_formed _ here fault) in
    merged scalars here c.overlapping_fields_can_be_merged.result first settled c.overlapping_fields_can_be_merged.ensures.merging

pub returns-then-is_empty-clause-told : goal.returns-then-is_empty-clause-told
returns-then-is_empty-clause-told g c = told g c

pub returns-then-is_empty-clause-none : goal.returns-then-is_empty-clause-none
returns-then-is_empty-clause-none g c =
    let scalars = scalars_of g.S.ParseScalarValue g.S.ScalarValue g.S.PartialEq g.S.Check.Check in
    let here : Subject g.row.S.Denot g.row.S-Check.Denot = record { schema = declarations_of c.args.schema.now; document = c.args.document.now } in
    errors_none (AllRules scalars here) (IsValid scalars here)
    c.overlapping_fields_can_be_merged.result (told g c) (all-exactly scalars here)

pub returns-clause-told : goal.returns-clause-told
returns-clause-told g c = of_first_stage c.requires.told (some_places c.args.stage (λ e. false≢true (sym c.if-is_empty.false ∙ c.is_empty.ensures.1 e)))

pub returns-clause-none : goal.returns-clause-none
returns-clause-none g c =
    ((λ e. absurd (false≢true (sym c.if-is_empty.false ∙ c.is_empty.ensures.1 e))), λ v. c.requires.none.1 v.no_fault)
