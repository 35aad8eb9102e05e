-- What holds of a document in which no rule of the first stage finds a fault, for what merges,
-- executes and rewrites it (GraphQL October 2021, 5 Validation, 6 Execution).
use Rattle.std.specs.Prelude.{List, length, map, not}
use Rattle.std.specs.List.{All, IsDistinct, filter_map}
use Rattle.std.specs.Option.{IsSome}
use Rattle.std.specs.Str.{bytes_eq}
use Rattle.graphql_names.specs.Names.{Bytes}
use Rattle.graphql_tree.specs.Definitions.{fragment_named}
use Rattle.graphql_occurrences.specs.Parts.{AField, ASpread, Condition, Given, VariableDefined}
use Rattle.graphql_rules_document.specs.Scopes.{FragmentScope, OperationScope}
use Rattle.graphql_schema.specs.Faults.{is_composite}
use Rattle.graphql_visitors.specs.Subjects.{Subject}
use Rattle.graphql_rules.specs.Laws.{AreDistinct, EachOf, IsDeclaredField, IsKnownAs}
use Rattle.graphql_rules_document.specs.Ends.{EndsWithin}
use Rattle.graphql_validation.specs.FirstStage.{parts, scopes}

module _ {S C : Type 0} (subject : Subject S C) where
  abbrev operations : List (OperationScope S)
  operations = (scopes subject).operations

  abbrev fragments : List FragmentScope
  fragments = (scopes subject).fragments

  pub record IsWellFormed : Type 0 where
    -- names stand once: of operations, of fragments, of the variables of an operation, of what a
    -- field or a directive is given
    pub operation_names : IsDistinct bytes_eq (filter_map (λ o. o.name) operations)
    pub fragment_names : IsDistinct bytes_eq (map (λ f. f.name) fragments)
    pub variable_names : All (λ o. IsDistinct bytes_eq (map (λ v. v.name.item) o.defined))
        operations
    pub argument_names : EachOf Given AreDistinct (parts subject)
    -- each spread means a fragment, and fragments end when they are written out
    pub spreads : EachOf ASpread (λ s. IsSome (fragment_named subject.document s.name.item))
        (parts subject)
    pub fragments_end : (name : Bytes) → EndsWithin fragments (length fragments) name
    -- the types of variables are input types, those of conditions are composite, and all are known
    pub variable_types : EachOf VariableDefined (λ v.
        IsKnownAs subject.schema (λ m. not (is_composite m)) v.type_of.item.name) (parts subject)
    pub conditions : EachOf Condition (λ name. IsKnownAs subject.schema is_composite name.item)
        (parts subject)
    -- fields are declared, and have a set exactly where their type has fields
    pub fields : EachOf AField (IsDeclaredField subject.schema) (parts subject)
