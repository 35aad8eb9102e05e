-- Fragments with their places and without.
use Rattle.std.proofs.Common.{◌≡◌, Bool, true, false, List, [], ◌∷◌, Some, if◌then◌else◌, None, Option, map, refl, sym, ap, ◌∙◌}
use Rattle.std.specs.Option.{is_some, option_map}
use Rattle.std.specs.Str.{bytes_eq}
use Rattle.graphql_names.specs.Names.{Bytes, named}
use Rattle.graphql_tree.specs.Definitions.{fragment_named, fragments_listed, fragments_of}
use Rattle.graphql_tree.specs.declared.document.Definition.{Definition}
use Rattle.graphql_tree.specs.declared.document.Fragment.{Fragment}
use Rattle.graphql_values.specs.InputValues.{Placed}
use Rattle.graphql_written_out.specs.Written.{fragment_meant}

-- what is found of items by what each stands for
found_lent : {A B D : Type 0} (now : A → B) (name_of : B → Bytes) (tell : B → D) (xs : List A) (name : Bytes)
    → option_map (λ x. tell (now x)) (named (λ x. name_of (now x)) xs name) ≡ option_map tell (named name_of (map now xs) name)
found_lent now name_of tell [] name = refl
found_lent {A} {B} {D} now name_of tell (x ∷ xs) name = either (bytes_eq (name_of (now x)) name) (found_lent now name_of tell xs name)
  where
    either : (b : Bool) → option_map (λ y. tell (now y)) (named (λ y. name_of (now y)) xs name) ≡ option_map tell (named name_of (map now xs) name)
        → option_map (λ y. tell (now y)) (if b then Some x else named (λ y. name_of (now y)) xs name) ≡ option_map tell (if b then Some (now x) else named name_of (map now xs) name)
    either true same = refl
    either false same = same

module _ {S : Type 0} (document : List (Definition S)) (name : Bytes) where
  -- what is told of the fragment that a name means
  pub told-named : {D : Type 0} (tell : Fragment S → D) (o : Option (Fragment S)) → o ≡ fragment_meant (fragments_listed document) name
      → option_map tell o ≡ option_map (λ f. tell f.item) (fragment_named document name)
  told-named tell o is =
      ap (option_map tell) is ∙ sym (found_lent (λ (f : Placed (Fragment S)). f.item) (λ f. f.name.item) tell (fragments_of document) name)

  -- it means one where one is defined
  pub known-named : {A : Type 0} (now : A → Fragment S) (o : Option A) → option_map now o ≡ fragment_meant (fragments_listed document) name → is_some o ≡ is_some (fragment_named document name)
  known-named now o is =
      sym (some-mapped now o) ∙ sym (some-mapped (λ f. f) (option_map now o)) ∙ ap is_some (told-named (λ f. f) (option_map now o) is)
      ∙ some-mapped (λ f. f.item) (fragment_named document name)
    where
      some-mapped : {A B : Type 0} (tell : A → B) (o : Option A) → is_some (option_map tell o) ≡ is_some o
      some-mapped tell None = refl
      some-mapped tell (Some x) = refl
