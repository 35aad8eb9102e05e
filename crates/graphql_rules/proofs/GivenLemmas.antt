-- What fields and directives are given.
use Rattle.std.proofs.Common.{◌≡◌, ◌||◌, ◌&&◌, List, [], ◌∷◌, ◌++◌, Bool, true, false, not, refl, sym, ap, ◌∙◌, append-nil}
use Rattle.std.specs.List.{flat_map, list_all}
use Rattle.std.proofs.lemmas.Grind.{flat_map-append}
use Rattle.graphql_schema.specs.declared.meta.argument.Argument.{Argument as Declared}
use Rattle.graphql_names.specs.Names.{Bytes}
use Rattle.graphql_occurrences.specs.Parts.{Part, GivenPart}
use Rattle.graphql_rule_errors.specs.Places.{Places, error_if}
use Rattle.graphql_schema.specs.Executable.{is_optional}
use Rattle.graphql_text.specs.declared.position.SourcePosition.{SourcePosition}
use Rattle.graphql_visitors.specs.Subjects.{Subject}
use Rattle.graphql_rules.specs.Givens.{given_in, of_given}
use Rattle.graphql_rules.specs.ProvidedNonNullArguments.{missing}

module _ {S C : Type 0} (says : GivenPart S → Places) (subject : Subject S C) where
  told_given : (parts : List (Part S C)) → flat_map (of_given says subject) parts ≡ flat_map says (flat_map given_in parts)
  told_given [] = refl
  told_given (p ∷ ps) = ap (λ told. flat_map says (given_in p) ++ told) (told_given ps) ∙ sym (flat_map-append says (given_in p) (flat_map given_in ps))

  -- parts of which one is given something, and the others nothing
  pub told_some : (parts : List (Part S C)) (g : GivenPart S) → flat_map given_in parts ≡ g ∷ [] → flat_map (of_given says subject) parts ≡ says g
  told_some parts g is = told_given parts ∙ ap (flat_map says) is ∙ append-nil (says g)

module _ {S : Type 0} (place : SourcePosition) (is_given : Bytes → Bool) where
  -- of arguments that need not be given none is missing
  pub none_missing : (declared : List (Declared S)) → list_all is_optional declared ≡ true → flat_map (missing place is_given) declared ≡ []
  none_missing [] optional = refl
  none_missing (a ∷ rest) optional = either (is_optional a) optional (none_missing rest)
    where
      either : (b : Bool) → (b && list_all is_optional rest) ≡ true → (list_all is_optional rest ≡ true → flat_map (missing place is_given) rest ≡ []) → error_if (not (b || is_given a.name)) (place ∷ []) ++ flat_map (missing place is_given) rest ≡ []
      either true optional others = others optional
      either false optional others = absurd (cc)
