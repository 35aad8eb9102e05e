-- What a definition tells of itself, and why it tells nothing (GraphQL October 2021, 3.2
-- Descriptions, 3.13.3 @deprecated).
use Rattle.std.specs.Prelude.{◌≡◌, ◌==◌, if◌then◌else◌, Option, Some, None, Result, Ok, Err, List}
use Rattle.std.specs.Prelude.{[], ◌∷◌, codes, length, slice_get}
use Rattle.std.specs.Option.{option_and_then}
use Rattle.std.specs.Str.{bytes_eq}
use Rattle.graphql_text.specs.Memory.{◌>>=◌}
use Rattle.graphql_text.specs.Spelling.{source_of}
use Rattle.graphql_text.specs.declared.parse_error.ParseError.{ParseError}
use Rattle.graphql_text.specs.declared.parse_error.ParseError.TheVariants.{UnexpectedToken}
use Rattle.graphql_text.specs.declared.position.Span.{Span}
use Rattle.graphql_text.specs.declared.token.Token.{Token}
use Rattle.graphql_text.specs.declared.token.Token.TheVariants as token
use Rattle.graphql_names.specs.Names.{Bytes}
use Rattle.graphql_scalars.specs.Literals.{reads_text}
use Rattle.graphql_scalars.specs.ScalarAnswers.{ScalarAnswer, as_text}
use Rattle.graphql_values.specs.declared.input_value.InputValue.{InputValue, out-InputValue}
use Rattle.graphql_values.specs.declared.input_value.InputValue.TheOpen.{InputValue-F}
use Rattle.graphql_tree.specs.Arguments.{value_of}
use Rattle.graphql_tree.specs.declared.directive.Arguments.{Arguments}
use Rattle.graphql_tree.specs.declared.directive.Directive.{Directive}
use Rattle.graphql_grammar.specs.Input.{At}
use Rattle.graphql_schema.specs.declared.meta.argument.Argument.{Argument}
use Rattle.graphql_schema.specs.declared.meta.deprecation.DeprecationStatus.{DeprecationStatus}
use Rattle.graphql_schema.specs.declared.meta.deprecation.DeprecationStatus.TheVariants as status
use Rattle.graphql_schema.specs.declared.meta.enum_value.EnumValue.{EnumValue}
use Rattle.graphql_schema.specs.declared.meta.field.Field.{Field}
use Rattle.graphql_schema_rows.specs.declared.head.Head.{Head}
use Rattle.graphql_schema_rows.specs.declared.note_fault.NoteFault.{NoteFault}
use Rattle.graphql_schema_rows.specs.declared.note_fault.NoteFault.TheVariants as fault
use Rattle.graphql_schema_rows.specs.declared.written.ArgumentDefinition.{ArgumentDefinition}
use Rattle.graphql_schema_rows.specs.declared.written.FieldDefinition.{FieldDefinition}
use Rattle.graphql_schema_rows.specs.declared.written.HeadDefinition.{HeadDefinition}
use Rattle.graphql_schema_rows.specs.declared.written.ValueDefinition.{ValueDefinition}

-- the fault tells nothing of the definition
abbrev pub IsMemory : NoteFault → Type 0
IsMemory e = e ≡ fault.Memory

-- ---- descriptions

-- the text that a string stands for (2.9.4 String Value); another token stands for none
abbrev pub text_of_token : Token → Result Bytes ParseError
text_of_token (token.Scalar s) = reads_text {S = Bytes} (λ text. text) s
text_of_token other = Err (UnexpectedToken (source_of other))

abbrev pub described_at : Span → Result Bytes ParseError → Result (Option Bytes) NoteFault
described_at span (Ok text) = Ok (Some text)
described_at span (Err e) = Err (fault.NoDescription (record { item = e; span = span }))

-- the text of a description, where there is one
abbrev pub described : Option (At Token) → Result (Option Bytes) NoteFault
described None = Ok None
described (Some at) = described_at at.span (text_of_token at.item)

-- ---- deprecation, by what scalars answer

module _ {S : Type 0} where
  abbrev pub scalar_layer : {A : Type 0} → InputValue-F S A → Option S
  scalar_layer (InputValue-F.Scalar s) = Some s
  scalar_layer InputValue-F.Null = None
  scalar_layer (InputValue-F.Enum n) = None
  scalar_layer (InputValue-F.Variable n) = None
  scalar_layer (InputValue-F.List xs) = None
  scalar_layer (InputValue-F.Object ps) = None

  -- the scalar that a value is
  abbrev pub scalar_of : InputValue S → Option S
  scalar_of v = scalar_layer (out-InputValue S v)

  -- the name of a directive, at the directive's place
  abbrev pub directive_name : At (Directive S) → At Bytes
  directive_name d = record { item = d.item.name.item; span = d.span }

  module _ (answer : S → ScalarAnswer) where
    -- the text that a value is
    abbrev pub text_of_value : InputValue S → Option Bytes
    text_of_value v = option_and_then (λ s. as_text (answer s)) (scalar_of v)

    -- the text of the one argument, `reason`; without arguments its default
    abbrev pub reason_of : Option (At (Arguments S)) → Option Bytes
    reason_of None = Some (codes "No longer supported")
    reason_of (Some arguments) =
        if length arguments.item.items == 1 then option_and_then (λ v. text_of_value v.item)
        (value_of (codes "reason") arguments.item.items) else None

    abbrev pub for_reason : At (Directive S) → Option Bytes → Result DeprecationStatus NoteFault
    for_reason d None = Err (fault.NoReason (directive_name d))
    for_reason d (Some reason) = Ok (status.Deprecated (Some reason))

    -- what one directive tells, which has to be `@deprecated`
    abbrev pub deprecated_by : At (Directive S) → Result DeprecationStatus NoteFault
    deprecated_by d =
        if bytes_eq d.item.name.item (codes "deprecated")
        then for_reason d (reason_of d.item.arguments)
        else Err (fault.OtherDirective (directive_name d))

    -- where no second one stands
    abbrev pub alone : Option (At (Directive S)) → DeprecationStatus
        → Result DeprecationStatus NoteFault
    alone None told = Ok told
    alone (Some second) told = Err (fault.SecondDirective (directive_name second))

    abbrev pub deprecated_first : Option (At (Directive S)) → Option (At (Directive S))
        → Result DeprecationStatus NoteFault
    deprecated_first None second = Ok status.Current
    deprecated_first (Some d) second = deprecated_by d >>= (λ told. alone second told)

    -- whether directives deprecate: none, or `@deprecated` alone
    abbrev pub deprecation : Option (List (At (Directive S))) → Result DeprecationStatus NoteFault
    deprecation None = Ok status.Current
    deprecation (Some ds) = deprecated_first (slice_get ds 0) (slice_get ds 1)

-- ---- what definitions define, with what they tell

abbrev pub told_head : HeadDefinition → Result Head NoteFault
told_head d = do
  told ← described d.description
  Ok (record { name = d.name; description = told })

module _ {S : Type 0} where
  abbrev pub told_argument : ArgumentDefinition S → Result (Argument S) NoteFault
  told_argument d = do
    told ← described d.description
    Ok (record {
      name = d.name;
      description = told;
      arg_type = d.arg_type;
      default_value = d.default_value;
    })

  -- one after the other, up to the first that can't
  abbrev pub told_arguments : List (ArgumentDefinition S) → Result (List (Argument S)) NoteFault
  told_arguments [] = Ok []
  told_arguments (d ∷ ds) =
      told_argument d >>= (λ first. told_arguments ds >>= (λ more. Ok (first ∷ more)))

  abbrev pub told_where_given : Option (List (ArgumentDefinition S))
      → Result (Option (List (Argument S))) NoteFault
  told_where_given None = Ok None
  told_where_given (Some ds) = told_arguments ds >>= (λ arguments. Ok (Some arguments))

  module _ (answer : S → ScalarAnswer) where
    abbrev pub told_field : FieldDefinition S → Result (Field S) NoteFault
    told_field d = do
      told ← described d.description
      arguments ← told_where_given d.arguments
      standing ← deprecation answer d.directives
      Ok (record {
        name = d.name;
        description = told;
        arguments = arguments;
        field_type = d.field_type;
        deprecation_status = standing;
      })

    abbrev pub told_value : ValueDefinition S → Result EnumValue NoteFault
    told_value d = do
      told ← described d.description
      standing ← deprecation answer d.directives
      Ok (record { name = d.name; description = told; deprecation_status = standing })
