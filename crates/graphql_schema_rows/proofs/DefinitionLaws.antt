-- Definitions of heads, arguments, fields and values: the law of each production.
use Rattle.std.proofs.Common.{◌≡◌, ℕ, ◌-◌, Bool, true, false, [], Result, Err, refl, arith}
use Rattle.graphql_text.specs.declared.position.Span.{Span}
use Rattle.graphql_text.specs.declared.position.SourcePosition.{SourcePosition}
use Rattle.graphql_text.specs.declared.token.ScalarToken.{ScalarToken}
use Rattle.graphql_text.specs.declared.token.ScalarToken.TheVariants as scalars
use Rattle.graphql_text.specs.declared.token.Token.TheVariants as tokens
use Rattle.graphql_text.specs.declared.parse_error.ParseError.{ParseError}
use Rattle.graphql_grammar.specs.declared.kind.Kind.TheVariants as k
use Rattle.graphql_grammar.specs.Kinds.{Kinds, enum_names, only, no_kind, names}
use Rattle.graphql_grammar.specs.Input.{Located, Fault, ◌>>=◌, peek, peek_kind, refusal}
use Rattle.graphql_grammar.specs.Steps.{sees, token, expect, name_in, name_of, optional}
use Rattle.graphql_grammar.specs.Ahead.{mk, refused_at}
use Rattle.graphql_grammar.specs.Relations.{OptionOf, TokenOf}
use Rattle.graphql_grammar.specs.Faults.{BadScalar, GoodScalar}
use Rattle.graphql_grammar.proofs.Law.{Law, law_bind, law_made, law_wider}
use Rattle.graphql_grammar.proofs.Choices.{law_expect, law_located, law_optional, law_token}
use Rattle.graphql_grammar.proofs.Loops.{Takes, law_some_between}
use Rattle.graphql_grammar.proofs.Recursion.{uses_law}
use Rattle.graphql_value_syntax.specs.ReadValues.{value}
use Rattle.graphql_value_syntax.specs.Directives.{DefaultOf}
use Rattle.graphql_value_syntax.proofs.DirectiveLaws.{law_directives}
use Rattle.graphql_value_syntax.proofs.ValueLaws.{law_name, law_value}
use Rattle.graphql_value_syntax.proofs.TypeLaws.{law_type}
use Rattle.graphql_schema_rows.specs.ReadDefinitions.{argument, argument_definition, arguments, description, enum_value, field, field_definition, head, head_of, value_definition}
use Rattle.graphql_schema_rows.specs.Definitions.{ArgumentOf, ArgumentsOf, DescriptionOf, FieldOf, HeadOf, ValueOf}

-- what a definition begins with
abbrev pub definition_starts : Kinds
definition_starts k.Scalar = true
definition_starts w = names w

-- what can't follow a field or a value, as it would be part of it
abbrev pub definition_stops : Kinds
definition_stops k.ExclamationMark = true
definition_stops k.ParenOpen = true
definition_stops k.At = true
definition_stops w = false

-- what can't follow an argument, as it would be part of it
abbrev pub argument_stops : Kinds
argument_stops k.ExclamationMark = true
argument_stops k.Equals = true
argument_stops w = false

module _ (Bad : Located → Fault → Type 0) (Good : Located → Type 0) where
  law_description : {n : ℕ} → Law Bad Good false (only k.Scalar) (only k.Scalar) DescriptionOf n description
  law_description = law_wider Bad Good (only k.Scalar) (only k.Scalar) refl refl
      (law_optional Bad Good (only k.Scalar) refl (law_located Bad Good refl refl (law_token (only k.Scalar) (λ v. v) Bad Good (tokens.Scalar (scalars.Int [])) refl refl)))

  law_value_name : {n : ℕ} → Law Bad Good true enum_names no_kind (TokenOf enum_names name_of) n (name_in enum_names)
  law_value_name = law_token enum_names name_of Bad Good (tokens.Name []) refl refl

  pub law_head : (n : ℕ) → Law Bad Good true definition_starts no_kind HeadOf n head
  unfolding head
  law_head n = law_wider Bad Good definition_starts no_kind refl refl
      (law_bind Bad Good refl law_description (λ w. law_made Bad Good (λ m. head_of w m) (law_name Bad Good)))

module _ {S : Type 0} (reads : ScalarToken → Result S ParseError) (of_bool : Bool → S) where
  abbrev Bad : Located → Fault → Type 0
  Bad = BadScalar reads

  abbrev Good : Located → Type 0
  Good = GoodScalar reads

  law_default : {n : ℕ} → Law Bad Good false (only k.Equals) (only k.Equals) (OptionOf (DefaultOf S reads of_bool)) n (optional (only k.Equals) (expect k.Equals >>= (λ u. value reads of_bool true)))
  law_default = law_wider Bad Good (only k.Equals) (only k.Equals) refl refl (law_optional Bad Good (only k.Equals) refl (law_bind Bad Good refl (law_expect Bad Good k.Equals refl) (λ u. law_value reads of_bool true _)))

  pub law_argument : (n : ℕ) → Law Bad Good true definition_starts argument_stops (ArgumentOf S reads of_bool) n (argument reads of_bool)
  unfolding argument
  law_argument n = law_wider Bad Good definition_starts argument_stops refl refl
      (law_bind Bad Good refl (law_description Bad Good)
      (λ w. law_bind Bad Good refl (law_name Bad Good)
      (λ m. law_bind Bad Good refl (law_expect Bad Good k.Colon refl)
      (λ u. law_bind Bad Good refl (law_type Bad Good _)
      (λ t. law_made Bad Good (λ d. argument_definition w m t d) law_default)))))

  takes_argument : Takes (argument reads of_bool)
  takes_argument i x j r = let l = uses_law Bad Good law_argument i x j r in omega arith

  argument_at_end : (f : Span) (e : SourcePosition) → argument reads of_bool (mk [] f e) ≡ Err (refused_at f [])
  unfolding argument sees peek_kind peek token refusal
  argument_at_end f e = refl

  pub law_arguments : (n : ℕ) → Law Bad Good true (only k.ParenOpen) no_kind (ArgumentsOf S reads of_bool) n (arguments reads of_bool)
  law_arguments n =
      law_some_between k.ParenClose (argument reads of_bool) refl takes_argument argument_at_end Bad Good definition_starts argument_stops (ArgumentOf S reads of_bool) refl refl
      k.ParenOpen refl refl refl refl n (law_argument (n - 1))

  law_some_arguments : {n : ℕ} → Law Bad Good false (only k.ParenOpen) (only k.ParenOpen) (OptionOf (ArgumentsOf S reads of_bool)) n (optional (only k.ParenOpen) (arguments reads of_bool))
  law_some_arguments = law_wider Bad Good (only k.ParenOpen) (only k.ParenOpen) refl refl (law_optional Bad Good (only k.ParenOpen) refl (law_arguments _))

  pub law_field : (n : ℕ) → Law Bad Good true definition_starts definition_stops (FieldOf S reads of_bool) n (field reads of_bool)
  unfolding field
  law_field n = law_wider Bad Good definition_starts definition_stops refl refl
      (law_bind Bad Good refl (law_description Bad Good)
      (λ w. law_bind Bad Good refl (law_name Bad Good)
      (λ m. law_bind Bad Good refl law_some_arguments
      (λ args. law_bind Bad Good refl (law_expect Bad Good k.Colon refl)
      (λ u. law_bind Bad Good refl (law_type Bad Good _)
      (λ t. law_made Bad Good (λ ds. field_definition w m args t ds) (law_directives reads of_bool true _)))))))

  pub law_enum_value : (n : ℕ) → Law Bad Good true definition_starts definition_stops (ValueOf S reads of_bool) n (enum_value reads of_bool)
  unfolding enum_value
  law_enum_value n = law_wider Bad Good definition_starts definition_stops refl refl
      (law_bind Bad Good refl (law_description Bad Good)
      (λ w. law_bind Bad Good refl (law_value_name Bad Good)
      (λ m. law_made Bad Good (λ ds. value_definition w m ds) (law_directives reads of_bool true _))))
