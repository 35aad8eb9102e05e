-- The first of a name, and what is shown of it.
use Rattle.std.proofs.Common.{◌≡◌, Bool, true, false, cond, List, [], ◌∷◌, Option, Some, None, Bor, map, refl}
use Rattle.std.specs.Option.{option_map}
use Rattle.std.specs.Str.{bytes_eq}
use Rattle.graphql_names.specs.Names.{Bytes, named}

pub shown_of : {A B : Type 0} (view : A → B) (o : Option (Bor A)) → option_map (λ a. view a.now) o ≡ option_map view (option_map (λ a. a.now) o)
shown_of view None = refl
shown_of view (Some x) = refl

module _ {A B : Type 0} (view : A → B) (name_of : B → Bytes) where
  pub first_shown : (xs : List A) (name : Bytes) → option_map view (named (λ x. name_of (view x)) xs name) ≡ named name_of (map view xs) name
  first_shown [] name = refl
  first_shown (x ∷ xs) name = either (bytes_eq (name_of (view x)) name) (first_shown xs name)
    where
      either : (b : Bool) → option_map view (named (λ y. name_of (view y)) xs name) ≡ named name_of (map view xs) name
          → option_map view (cond b (Some x) (named (λ y. name_of (view y)) xs name)) ≡ cond b (Some (view x)) (named name_of (map view xs) name)
      either true others = refl
      either false others = others
