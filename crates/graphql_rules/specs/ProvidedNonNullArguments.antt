-- An argument that must be given, and is not (GraphQL October 2021, 5.4.2.1 Required Arguments).
use Rattle.std.specs.Prelude.{[], ◌∷◌, ◌||◌, not, Bool, map, unwrap_or}
use Rattle.std.specs.List.{flat_map}
use Rattle.graphql_schema.specs.declared.meta.argument.Argument.{Argument as Declared}
use Rattle.graphql_names.specs.Names.{Bytes, is_one_of}
use Rattle.graphql_occurrences.specs.Parts.{GivenPart}
use Rattle.graphql_rule_errors.specs.Places.{Places, error_if}
use Rattle.graphql_schema.specs.Executable.{is_optional}
use Rattle.graphql_text.specs.declared.position.SourcePosition.{SourcePosition}
use Rattle.graphql_visitors.specs.Rules.{Rule}
use Rattle.graphql_rules.specs.Givens.{of_given}

module _ {S : Type 0} where
  -- an error where it must be given, and is not
  abbrev pub missing : SourcePosition → (Bytes → Bool) → Declared S → Places
  missing place is_given a = error_if (not (is_optional a || is_given a.name)) (place ∷ [])

  -- nothing is asked for by an unknown field or directive
  abbrev pub missing_in : GivenPart S → Places
  missing_in g =
      flat_map (missing g.place (is_one_of (map (λ a. a.0.item) g.given))) (unwrap_or g.declared [])

-- each field or directive without an argument that it needs
abbrev pub provided_non_null_arguments_faults : {S C : Type 0} → Rule S C
provided_non_null_arguments_faults = of_given missing_in
