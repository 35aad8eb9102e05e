-- What a parser that has not failed answers is all that may be answered where it stands.
use Rattle.std.proofs.Common.{◌≡◌, subst, None, Result, Ok, Err}
use Rattle.std.specs.Prelude.{MatchOption}
use Rattle.graphql_grammar.specs.Input.{Input, Fault}
use Rattle.graphql_language.specs.Literals.{NeverBoth, OneRefusal}
use Rattle.graphql_language.specs.Parser.{Calls, CallsFresh, RefusesAgain, Rule, State}
use Rattle.graphql_law_rows.specs.OnlyAnswers.{AnsweredAlone}

module _ {A : Type 0} (rule : Rule A) (never_both : NeverBoth rule) (one_fault : OneRefusal rule) where
  fresh_alone : (i : Input) (r : Result A Fault) (new : State) → CallsFresh rule i r new → AnsweredAlone rule i r new
  fresh_alone i (Ok x) new h = λ e k refused. never_both i new.input k x e h.0 refused
  fresh_alone i (Err f) new h = (
    h.fault,
    h.kept,
    λ told. (
      (λ x k read. never_both i k new.input x h.fault read (h.refuses told)),
      (λ e k refused. one_fault i k new.input e h.fault refused (h.refuses told)),
    ),
  )

  pub answered_alone : (old new : State) (r : Result A Fault) → Calls rule old r new → old.refused ≡ None → AnsweredAlone rule old.input r new
  answered_alone old new r h fresh =
      fresh_alone old.input r new
      (subst (λ o. MatchOption o (CallsFresh rule old.input r new) (λ e. RefusesAgain e r × (new ≡ old))) fresh h)
