-- What a reason, or none, tells of a definition.
use Rattle.std.proofs.Common.{◌≡◌, List, Bool, false, not, Option, Some, None, Result, Ok, Err, IfOk, MatchOption, Bor, refl, sym, ap, subst, ◌∙◌}
use Rattle.std.specs.Option.{is_some, option_copied}
use Rattle.graphql_schema.specs.Scalars.{Scalars}
use Rattle.graphql_schema.specs.declared.meta.MetaType.{MetaType}
use Rattle.graphql_names.specs.Names.{Bytes}
use Rattle.graphql_schema.specs.Lookups.{type_named}
use Rattle.graphql_tree.specs.Variables.{Variable}
use Rattle.graphql_values.specs.declared.input_value.InputValue.{InputValue}
use Rattle.graphql_written_out.specs.FinalValues.{variable_name}
use Rattle.graphql_variable_checks.specs.Accepted.{FitsVariable, IsAccepted, IsKnown, variable_type}

copied_is_some : {A : Type 0} (o : Option (Bor A)) → is_some (option_copied o) ≡ is_some o
copied_is_some None = refl
copied_is_some (Some x) = refl

-- what is given for a name, by what was found for the same bytes
pub looked_up : {A : Type 0} (given : Bytes → Option A) (bytes name : Bytes) (found seen : Option (Bor A)) → bytes ≡ name → option_copied found ≡ given bytes → found ≡ seen → given name ≡ option_copied seen
looked_up given bytes name found seen same is shown = ap given (sym same) ∙ sym is ∙ ap option_copied shown

-- the type of a variable is known where one was found for its name
pub known_type : {S C : Type 0} (types : List (MetaType S C)) (v : Variable S) (bytes : Bytes) (found : Option (Bor (MetaType S C))) (missing : Bool) → bytes ≡ (variable_type v).name → option_copied found ≡ type_named types bytes
    → is_some found ≡ not missing → missing ≡ false → IsKnown types v
known_type types v bytes found missing same is looked there = ap is_some (looked_up (type_named types) bytes (variable_type v).name found found same is refl) ∙ copied_is_some found ∙ looked ∙ ap not there

-- none tells a fact, and a reason that it does not hold
abbrev pub Reason : {A E : Type 0} → Type 0 → Result (Option A) E → Type 0
Reason P result = IfOk result (λ reason. MatchOption reason P (λ _. P → ⊥))

-- of two facts that hold together a result that tells the one tells the other
reason_as : {A E : Type 0} (P Q : Type 0) → (P → Q) → (Q → P) → (result : Result (Option A) E) → Reason P result → Reason Q result
reason_as P Q to back (Ok None) h = to h
reason_as P Q to back (Ok (Some x)) h = λ q. h (back q)
reason_as P Q to back (Err e) h = tt

module _ {S C A E : Type 0} (scalars : Scalars S C) (types : List (MetaType S C)) (given : Bytes → Option (InputValue S)) where
  -- of a variable of a known type it tells whether what is given for its name fits
  pub reason_of_known : (v : Variable S) (o : Option (InputValue S)) → IsKnown types v → given (variable_name v) ≡ o → (result : Result (Option A) E) → Reason (FitsVariable scalars types v o) result → Reason (IsAccepted scalars types given v) result
  reason_of_known v o known is =
      reason_as (FitsVariable scalars types v o) (IsAccepted scalars types given v) (λ fits _. subst (FitsVariable scalars types v) (sym is) fits) (λ accepted. subst (FitsVariable scalars types v) is (accepted known))
