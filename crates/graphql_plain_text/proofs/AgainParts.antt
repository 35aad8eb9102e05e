-- What spells a value or a type spells it again wherever it stands.
use Rattle.std.proofs.Common.{◌≡◌, refl, sym, ◌∙◌, ap, subst, ℕ, suc, arith, Bool, false, List, [], ◌++◌, length, Result, Ok, Err}
use Rattle.std.proofs.lemmas.List.{append-nil}
use Rattle.graphql_text.specs.declared.position.Span.{Span}
use Rattle.graphql_text.specs.declared.position.SourcePosition.{SourcePosition}
use Rattle.graphql_text.specs.Position.{origin}
use Rattle.graphql_text.specs.declared.token.ScalarToken.{ScalarToken}
use Rattle.graphql_text.specs.declared.parse_error.ParseError.{ParseError}
use Rattle.graphql_values.specs.declared.input_value.InputValue.{InputValue}
use Rattle.graphql_values.specs.InputValues.{unplaced, unlocated}
use Rattle.graphql_grammar.specs.declared.kind.Kind.TheVariants as k
use Rattle.graphql_grammar.specs.Kinds.{Kinds}
use Rattle.graphql_grammar.specs.Input.{At, Located, Parser, Outcome}
use Rattle.graphql_grammar.specs.Ahead.{mk}
use Rattle.graphql_grammar.specs.Faults.{BadScalar, GoodScalar}
use Rattle.graphql_grammar.specs.Relations.{end_of}
use Rattle.graphql_grammar.specs.Alike.{tokens_of, SameOutcome}
use Rattle.graphql_grammar.proofs.Law.{Law}
use Rattle.graphql_grammar.proofs.Alike.{Even}
use Rattle.graphql_grammar.proofs.FirstFaults.{spelled}
use Rattle.graphql_tree.specs.Unlocated.{without_place}
use Rattle.graphql_value_syntax.specs.ReadValues.{value}
use Rattle.graphql_value_syntax.specs.ReadTypes.{TypeRef, type_ref}
use Rattle.graphql_value_syntax.specs.Values.{ValueOf}
use Rattle.graphql_value_syntax.specs.Types.{TypeOf}
use Rattle.graphql_value_syntax.proofs.ValueLaws.{law_value}
use Rattle.graphql_value_syntax.proofs.TypeLaws.{law_type}
use Rattle.graphql_value_syntax.proofs.Places.{even_value, even_type}
use Rattle.graphql_plain_text.specs.Again.{Again}
use Rattle.graphql_plain_text.proofs.AgainSteps.{no_token}

module _ {S A B : Type 0} (reads : ScalarToken → Result S ParseError) {solid : Bool}
    {starts stops : Kinds} (Tree : List Located → A → Type 0) (see : A → B) (p : Parser A)
    (law : (n : ℕ) → Law (BadScalar reads) (GoodScalar reads) solid starts stops Tree n p)
    (free : stops k.EndOfFile ≡ false) (even : Even see p p) where
  read_again : (us : List Located) (x : A) (f : Span) (e : SourcePosition) (o : Outcome A)
      → p (mk us f origin) ≡ o → SameOutcome see (Ok (x, mk [] f e)) o
      → (y : A) × Tree us y × (see y ≡ see x)
  read_again us x f e (Ok q) r h =
      let s = spelled reads Tree p law free (mk us f origin) q.0 q.1 r in
      let whole : us ≡ s.tokens =
      s.front ∙ ap (λ ws. s.tokens ++ ws) (no_token q.1.ahead (sym h.1)) ∙ append-nil s.tokens in
      (q.0, subst (λ ws. Tree ws q.0) (sym whole) s.spells, sym h.0)
  read_again us x f e (Err d) r h = absurd h

  pub again_by : (ts : List Located) (x : A) → Tree ts x → Again Tree see (tokens_of ts) (see x)
  again_by ts x d us h =
      let f : Span = record { start = origin; end = origin } in
      let read = (law (suc (length ts))).reads ts x d (omega arith) [] free f origin in
      let same =
      even.at (mk (ts ++ []) f origin) (mk us f origin) (ap tokens_of (append-nil ts) ∙ sym h) in
      read_again us x f (end_of origin ts) (p (mk us f origin)) refl
      (subst (λ o. SameOutcome see o (p (mk us f origin))) read same)

module _ {S : Type 0} (reads : ScalarToken → Result S ParseError) (of_bool : Bool → S) where
  pub again_value : (c : Bool) (ts : List Located) (x : At (InputValue S))
      → ValueOf S reads of_bool c ts x
      → Again (ValueOf S reads of_bool c) (without_place unlocated) (tokens_of ts)
      (unplaced (unlocated x.item))
  again_value c =
      again_by reads (ValueOf S reads of_bool c) (without_place unlocated) (value reads of_bool c)
      (law_value reads of_bool c) refl (even_value reads of_bool c)

  pub again_type : (ts : List Located) (x : At TypeRef) → TypeOf ts x
      → Again TypeOf (without_place (λ t. t)) (tokens_of ts) (unplaced x.item)
  again_type =
      again_by reads TypeOf (without_place (λ t. t)) type_ref
      (law_type (BadScalar reads) (GoodScalar reads)) refl even_type
