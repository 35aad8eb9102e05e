-- Errors without their places: how many there are, and how many places each names.
use Rattle.std.proofs.Common.{◌≡◌, refl, sym, ◌∙◌, ap, Bool, true, false, List, [], ◌∷◌, ◌++◌, map, cond, Option, Some, None}
use Rattle.std.specs.List.{flat_map}
use Rattle.std.specs.Option.{option_map}
use Rattle.std.specs.Str.{bytes_eq}
use Rattle.std.proofs.lemmas.List.{map-append}
use Rattle.graphql_names.specs.Names.{Bytes, named}
use Rattle.graphql_text.specs.declared.position.SourcePosition.{SourcePosition}
use Rattle.graphql_rule_errors.specs.Places.{Places, error_if}
use Rattle.graphql_rule_errors.specs.Repeats.{Mention, behind_first, repeats, repeats_behind}
use Rattle.graphql_moved.proofs.Unlocated.{nowhere}

abbrev pub erase : Places → Places
erase = map (map nowhere)

pub none-erased : (ps : Places) → erase ps ≡ [] → ps ≡ []
none-erased [] h = refl
none-erased (p ∷ ps) h = absurd (cc)

pub error-erased : (b : Bool) (at : List SourcePosition) → error_if b (map nowhere at)
    ≡ erase (error_if b at)
error-erased true at = refl
error-erased false at = refl

-- of items and of their images
pub each-erased : {A B : Type 0} (g : A → B) (r : A → Places) (s : B → Places)
    → ((x : A) → s (g x) ≡ erase (r x)) → (xs : List A)
    → flat_map s (map g xs) ≡ erase (flat_map r xs)
each-erased g r s h [] = refl
each-erased g r s h (x ∷ xs) = (λ i. h x i ++ each-erased g r s h xs i)
    ∙ sym (map-append (map nowhere) (r x) (flat_map r xs))

-- of the same items
pub all-erased : {A : Type 0} (r s : A → Places) → ((x : A) → s x ≡ erase (r x)) → (xs : List A)
    → flat_map s xs ≡ erase (flat_map r xs)
all-erased r s h [] = refl
all-erased r s h (x ∷ xs) = (λ i. h x i ++ all-erased r s h xs i)
    ∙ sym (map-append (map nowhere) (r x) (flat_map r xs))

-- ---- lists of lists

pub flat-mapped : {A B C D : Type 0} (g : A → B) (e : C → D) (r : A → List C) (s : B → List D)
    → ((x : A) → s (g x) ≡ map e (r x)) → (xs : List A)
    → flat_map s (map g xs) ≡ map e (flat_map r xs)
flat-mapped g e r s h [] = refl
flat-mapped g e r s h (x ∷ xs) = (λ i. h x i ++ flat-mapped g e r s h xs i)
    ∙ sym (map-append e (r x) (flat_map r xs))

pub named-mapped : {A B : Type 0} (g : A → B) (name_of : A → Bytes) (other : B → Bytes)
    → ((x : A) → other (g x) ≡ name_of x) → (xs : List A) (name : Bytes)
    → named other (map g xs) name ≡ option_map g (named name_of xs name)
named-mapped g name_of other h [] name = refl
named-mapped g name_of other h (x ∷ xs) name =
    ap (λ n. cond (bytes_eq n name) (Some (g x)) (named other (map g xs) name)) (h x)
    ∙ (elim (bytes_eq (name_of x) name) as
    (λ b. cond b (Some (g x)) (named other (map g xs) name)
    ≡ option_map g (cond b (Some x) (named name_of xs name)))
    [ true ↦ refl | false ↦ named-mapped g name_of other h xs name ])

-- ---- names that are repeated

abbrev pub unlocated_mention : Mention → Mention
unlocated_mention m = record { name = m.name; place = nowhere m.place }

behind-erased : (first : Option Mention) (x : Mention)
    → behind_first (option_map unlocated_mention first) (unlocated_mention x) ≡ erase (behind_first first x)
behind-erased None x = refl
behind-erased (Some f) x = refl

repeats-from : (before xs : List Mention) → repeats_behind (map unlocated_mention before)
    (map unlocated_mention xs) ≡ erase (repeats_behind before xs)
repeats-from before [] = refl
repeats-from before (x ∷ xs) =
    let first = ap (λ o. behind_first o (unlocated_mention x))
    (named-mapped unlocated_mention (λ m. m.name) (λ m. m.name) (λ m. refl) before x.name)
    ∙ behind-erased (named (λ m. m.name) before x.name) x in
    let more = ap (λ ms. repeats_behind ms (map unlocated_mention xs))
    (sym (map-append unlocated_mention before (x ∷ []))) ∙ repeats-from (before ++ x ∷ []) xs in
    (λ i. first i ++ more i) ∙ sym (map-append (map nowhere)
    (behind_first (named (λ m. m.name) before x.name) x) (repeats_behind (before ++ x ∷ []) xs))

pub repeats-erased : (xs : List Mention) → repeats (map unlocated_mention xs) ≡ erase (repeats xs)
repeats-erased = repeats-from []
