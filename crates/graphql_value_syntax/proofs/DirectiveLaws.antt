-- Arguments, directives and variables: the law of each production.
use Rattle.std.proofs.Common.{◌≡◌, ℕ, ◌-◌, Bool, true, false, [], Result, Err, refl, arith}
use Rattle.graphql_text.specs.declared.position.Span.{Span}
use Rattle.graphql_text.specs.declared.position.SourcePosition.{SourcePosition}
use Rattle.graphql_text.specs.declared.token.ScalarToken.{ScalarToken}
use Rattle.graphql_text.specs.declared.parse_error.ParseError.{ParseError}
use Rattle.graphql_grammar.specs.declared.kind.Kind.TheVariants as k
use Rattle.graphql_grammar.specs.Kinds.{Kinds, only, no_kind, either, names}
use Rattle.graphql_grammar.specs.Input.{Located, Fault, ◌>>=◌, peek, peek_kind, refusal}
use Rattle.graphql_grammar.specs.Steps.{sees, token, expect, optional}
use Rattle.graphql_grammar.specs.Ahead.{mk, refused_at}
use Rattle.graphql_grammar.specs.Relations.{OptionOf}
use Rattle.graphql_grammar.specs.Faults.{BadScalar, GoodScalar}
use Rattle.graphql_grammar.proofs.Law.{Law, law_bind, law_made, law_wider}
use Rattle.graphql_grammar.proofs.Choices.{law_expect, law_optional, law_located}
use Rattle.graphql_grammar.proofs.Loops.{Takes, law_some_between, law_all}
use Rattle.graphql_grammar.proofs.Recursion.{uses_law}
use Rattle.graphql_value_syntax.specs.ReadValues.{name_and, value}
use Rattle.graphql_value_syntax.specs.ReadDirectives.{some_of, arguments, directive, directives, variable_definition, variable_definitions}
use Rattle.graphql_value_syntax.specs.Directives.{ArgumentsOf, DirectiveOf, DirectivesOf, VariableDefinitionOf, VariableDefinitionsOf, ArgumentOf, DefaultOf}
use Rattle.graphql_value_syntax.proofs.ValueLaws.{law_name, law_placed_name, law_named, law_value, takes_named, named_at_end}
use Rattle.graphql_value_syntax.proofs.TypeLaws.{law_type}

-- what can't follow the definition of a variable, as it would be part of it
abbrev definition_stops : Kinds
definition_stops k.ExclamationMark = true
definition_stops k.Equals = true
definition_stops k.At = true
definition_stops k.ParenOpen = true
definition_stops w = false

module _ {S : Type 0} (reads : ScalarToken → Result S ParseError) (of_bool : Bool → S) where
  abbrev Bad : Located → Fault → Type 0
  Bad = BadScalar reads

  abbrev Good : Located → Type 0
  Good = GoodScalar reads

  pub law_arguments : (c : Bool) (n : ℕ) → Law Bad Good true (only k.ParenOpen) no_kind (ArgumentsOf S reads of_bool c) n (arguments reads of_bool c)
  unfolding arguments
  law_arguments c n = law_located Bad Good refl refl (law_made Bad Good (λ ps. record { items = ps })
      (law_some_between k.ParenClose (name_and (value reads of_bool c)) refl (takes_named reads of_bool c) (named_at_end reads of_bool c) Bad Good names no_kind (ArgumentOf S reads of_bool c) refl refl
      k.ParenOpen refl refl refl refl n (law_named reads of_bool c (n - 1) (law_value reads of_bool c (n - 1)))))

  pub law_directive : (c : Bool) (n : ℕ) → Law Bad Good true (only k.At) (only k.ParenOpen) (DirectiveOf S reads of_bool c) n (directive reads of_bool c)
  unfolding directive
  law_directive c n = law_located Bad Good refl refl (law_wider Bad Good (only k.At) (only k.ParenOpen) refl refl
      (law_bind Bad Good refl (law_expect Bad Good k.At refl) (λ u. law_bind Bad Good refl (law_placed_name Bad Good) (λ m. law_made Bad Good (λ args. record { name = m; arguments = args })
      (law_optional Bad Good (only k.ParenOpen) refl (law_arguments c _))))))

  takes_directive : (c : Bool) → Takes (directive reads of_bool c)
  takes_directive c i x j r = let l = uses_law Bad Good (law_directive c) i x j r in omega arith

  -- what can't follow directives
  pub law_directives : (c : Bool) (n : ℕ) → Law Bad Good false (only k.At) (either (only k.ParenOpen) (only k.At)) (DirectivesOf S reads of_bool c) n (directives reads of_bool c)
  unfolding directives
  law_directives c n = law_made Bad Good some_of (law_all (only k.At) (directive reads of_bool c) refl (takes_directive c) Bad Good (only k.At) (only k.ParenOpen) (DirectiveOf S reads of_bool c) refl refl n (law_directive c n))

  abbrev VariableLaw : ℕ → Type 0
  VariableLaw n = Law Bad Good true (only k.Dollar) definition_stops (VariableDefinitionOf S reads of_bool) n (variable_definition reads of_bool)

  law_default : {n : ℕ} → Law Bad Good false (only k.Equals) (only k.Equals) (OptionOf (DefaultOf S reads of_bool)) n (optional (only k.Equals) (expect k.Equals >>= (λ u. value reads of_bool true)))
  law_default = law_wider Bad Good (only k.Equals) (only k.Equals) refl refl (law_optional Bad Good (only k.Equals) refl (law_bind Bad Good refl (law_expect Bad Good k.Equals refl) (λ u. law_value reads of_bool true _)))

  law_variable : (n : ℕ) → VariableLaw n
  unfolding variable_definition
  law_variable n = law_wider Bad Good (only k.Dollar) definition_stops refl refl
      (law_bind Bad Good refl (law_located Bad Good refl refl (law_bind Bad Good refl (law_expect Bad Good k.Dollar refl) (λ u. law_name Bad Good)))
      (λ m. law_bind Bad Good refl (law_expect Bad Good k.Colon refl)
      (λ u. law_bind Bad Good refl (law_type Bad Good _)
      (λ t. law_bind Bad Good refl law_default
      (λ d. law_made Bad Good (λ ds. (m, record { var_type = t; default_value = d; directives = ds })) (law_directives true _))))))

  takes_variable : Takes (variable_definition reads of_bool)
  takes_variable i x j r = let l = uses_law Bad Good law_variable i x j r in omega arith

  variable_at_end : (f : Span) (e : SourcePosition) → variable_definition reads of_bool (mk [] f e) ≡ Err (refused_at f [])
  unfolding variable_definition sees peek_kind peek token refusal
  variable_at_end f e = refl

  pub law_variables : (n : ℕ) → Law Bad Good true (only k.ParenOpen) no_kind (VariableDefinitionsOf S reads of_bool) n (variable_definitions reads of_bool)
  unfolding variable_definitions
  law_variables n = law_located Bad Good refl refl (law_made Bad Good (λ ds. record { items = ds })
      (law_some_between k.ParenClose (variable_definition reads of_bool) refl takes_variable variable_at_end Bad Good (only k.Dollar) definition_stops (VariableDefinitionOf S reads of_bool) refl refl
      k.ParenOpen refl refl refl refl n (law_variable (n - 1))))
