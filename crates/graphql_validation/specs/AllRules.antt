-- What all rules tell, and valid documents (GraphQL October 2021, 5 Validation).
use Rattle.graphql_schema.specs.Scalars.{Scalars}
use Rattle.std.specs.Prelude.{◌≡◌, Bool, true, false, [], ◌++◌, IsPermutation}
use Rattle.std.specs.List.{All}
use Rattle.graphql_occurrences.specs.Parts.{AField}
use Rattle.graphql_rule_errors.specs.Places.{Places}
use Rattle.graphql_visitors.specs.Subjects.{Subject}
use Rattle.graphql_merging.specs.Merging.{Merging}
use Rattle.graphql_merging.specs.Sets.{document_sets, members_of}
use Rattle.graphql_rules.specs.DisableIntrospection.{introspects}
use Rattle.graphql_rules.specs.Laws.{EachOf}
use Rattle.graphql_rules_merging.specs.OverlappingFieldsCanBeMerged.{MergingTold}
use Rattle.graphql_validation.specs.FirstStage.{FirstStage, introspection_places, parts}
use Rattle.graphql_validation.specs.Valid.{HasNoFault}

module _ {S C : Type 0} (eq : S → S → Bool) (subject : Subject S C) where
  -- in each selection set, fragments written out, each two fields of one response key merge
  abbrev pub FieldsMerge : Type 0
  FieldsMerge = All (λ set. Merging eq subject.schema.types (members_of subject.schema.types set))
      (document_sets subject.schema subject.document)

module _ {S C : Type 0} (scalars : Scalars S C) (subject : Subject S C) where
  -- what all rules tell: the first stage, if it tells anything, else the rule that fields merge
  pub data AllRules (told : Places) : Type 0 where
    of_first_stage : FirstStage scalars subject told → (told ≡ [] → ⊥) → AllRules told
    of_merging : FirstStage scalars subject [] → MergingTold scalars.eq subject told → AllRules told

  -- a valid document: no rule of the first stage finds a fault, and fields merge
  pub record IsValid : Type 0 where
    pub no_fault : HasNoFault scalars subject
    pub fields_merge : FieldsMerge scalars.eq subject

  -- what all rules tell, and what the rule against introspection tells
  pub record WithoutIntrospection (told : Places) : Type 0 where
    pub of_rules : Places
    pub rules_told : AllRules of_rules
    pub all : IsPermutation (of_rules ++ introspection_places subject) told

  -- what is told of a request, by whether introspection is disabled
  abbrev pub RequestTold : Bool → Places → Type 0
  RequestTold true told = WithoutIntrospection told
  RequestTold false told = AllRules told

  -- valid as a request: where introspection is disabled, no field is `__schema` or `__type` either
  -- (4.2 Schema Introspection)
  pub record IsValidAt (introspection_disabled : Bool) : Type 0 where
    pub valid : IsValid
    pub introspects_nothing : introspection_disabled ≡ true
        → EachOf AField (λ f. introspects f.name ≡ false) (parts subject)
