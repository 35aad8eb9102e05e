-- The parts of a group: each two fields that are not apart are in one without the flag, and no others are.
use Rattle.std.proofs.Common.{◌≡◌, refl, ap, sym, ◌∙◌, Bool, true, false, not, ◌&&◌, List, [], ◌∷◌, map, Option, Some, None, inl, inr}
use Rattle.std.specs.Str.{bytes_eq}
use Rattle.std.proofs.lemmas.Slice.Eq.{bytes_eq-Decides}
use Rattle.std.proofs.lemmas.Bool.{false≢true}
use Rattle.graphql_names.specs.Names.{Bytes}
use Rattle.graphql_bundles.specs.Bundles.{GroupPart, every, of_object, parts, admits}
use Rattle.graphql_merging.proofs.DirectFields.{In}

same : (n m : Bytes) → n ≡ m → bytes_eq n m ≡ true
same n m e = (bytes_eq-Decides n m).1 e

equal : (n m : Bytes) → bytes_eq n m ≡ true → n ≡ m
equal n m e = (bytes_eq-Decides n m).0 e

pub map-In : (n : Bytes) (names : List Bytes) → In n names → In (of_object n) (map of_object names)
map-In n [] i = absurd i
map-In n (m ∷ names) (inl e) = inl (ap of_object e)
map-In n (m ∷ names) (inr i) = inr (map-In n names i)

In-map : (part : GroupPart) (names : List Bytes) → In part (map of_object names) → (n : Bytes) × (part ≡ of_object n)
In-map part [] i = absurd i
In-map part (m ∷ names) (inl e) = (m, e)
In-map part (m ∷ names) (inr i) = In-map part names i

pub only-In : (n m : Bytes) → In n (m ∷ []) → n ≡ m
only-In n m (inl e) = e
only-In n m (inr i) = absurd i

-- a parent whose name is that of the part, where it is an object type
admitted : (k : Bytes) (o : Bool) (n : Bytes) → (o ≡ true → n ≡ k) → admits (Some k) o n ≡ true
admitted k false n h = refl
admitted k true n h = same n k (h refl)

abbrev pub Apart : Bool → Bytes → Bool → Bytes → Bool
Apart o n p m = (o && p) && not (bytes_eq n m)

-- two parents that are not apart are in one part without the flag
pub record Covered (names : List Bytes) (o : Bool) (n : Bytes) (p : Bool) (m : Bytes) : Type 0 where
  pub of : Option Bytes
  pub is_part : In (record { of = of; around = false }) (parts false names)
  pub left : admits of o n ≡ true
  pub right : admits of p m ≡ true

not-true : (b : Bool) → not b ≡ false → b ≡ true
not-true true e = refl
not-true false e = sym e

pub covered : (names : List Bytes) (o : Bool) (n : Bytes) (p : Bool) (m : Bytes) → (o ≡ true → In n names) → (p ≡ true → In m names) → Apart o n p m ≡ false → Covered names o n p m
covered [] o n p m f g e = record { of = None; is_part = inl refl; left = refl; right = refl }
covered (k ∷ []) o n p m f g e =
    record { of = Some k; is_part = inl refl; left = admitted k o n (λ h. only-In n k (f h)); right = admitted k p m (λ h. only-In m k (g h)) }
covered (k ∷ l ∷ names) false n false m f g e = record { of = Some k; is_part = inr (inl refl); left = refl; right = refl }
covered (k ∷ l ∷ names) true n false m f g e =
    record { of = Some n; is_part = inr (map-In n (k ∷ l ∷ names) (f refl)); left = same n n refl; right = refl }
covered (k ∷ l ∷ names) false n true m f g e =
    record { of = Some m; is_part = inr (map-In m (k ∷ l ∷ names) (g refl)); left = refl; right = same m m refl }
covered (k ∷ l ∷ names) true n true m f g e =
    record { of = Some n; is_part = inr (map-In n (k ∷ l ∷ names) (f refl)); left = same n n refl; right = same m n (sym (equal n m (not-true (bytes_eq n m) e))) }

-- two parents that are apart: there are two names, so that all are in one part with the flag
pub both-apart : (names : List Bytes) (o : Bool) (n : Bytes) (p : Bool) (m : Bytes) → (o ≡ true → In n names) → (p ≡ true → In m names) → Apart o n p m ≡ true
    → In (every true) (parts false names)
both-apart names false n p m f g e = absurd (false≢true e)
both-apart names true n false m f g e = absurd (false≢true e)
both-apart [] true n true m f g e = absurd (f refl)
both-apart (k ∷ []) true n true m f g e =
    absurd (false≢true (ap not (sym (same n m (only-In n k (f refl) ∙ sym (only-In m k (g refl))))) ∙ e))
both-apart (k ∷ l ∷ names) true n true m f g e = inl refl

-- two object types of one name are not apart
pub of-name : (k : Bytes) (o : Bool) (n : Bytes) (p : Bool) (m : Bytes) → admits (Some k) o n ≡ true → admits (Some k) p m ≡ true → Apart o n p m ≡ false
of-name k false n p m f g = refl
of-name k true n false m f g = refl
of-name k true n true m f g = ap not (same n m (equal n k f ∙ sym (equal m k g)))

of-one : (part : GroupPart) (k : Bytes) → part ≡ of_object k → (o : Bool) (n : Bytes) → admits part.of o n ≡ true → admits (Some k) o n ≡ true
of-one part k e o n h = (λ i. admits ((sym e i).of) o n) ∙ h

-- in a part without the flag no two are apart, and fields around them are not
pub never-apart : (x : Bool) (names : List Bytes) (part : GroupPart) → In part (parts x names) → part.around ≡ false → (o : Bool) (n : Bytes) (p : Bool) (m : Bytes)
    → (o ≡ true → In n names) → (p ≡ true → In m names) → admits part.of o n ≡ true → admits part.of p m ≡ true → (x ≡ false) × (Apart o n p m ≡ false)
never-apart true names part (inl i) e o n p m f g u v = absurd (false≢true (sym e ∙ ap (λ (q : GroupPart). q.around) i))
never-apart true names part (inr i) e o n p m f g u v = absurd i
never-apart false [] part i e false n p m f g u v = (refl, refl)
never-apart false [] part i e true n p m f g u v = absurd (f refl)
never-apart false (k ∷ []) part (inl i) e o n p m f g u v = (refl, of-name k o n p m (of-one part k i o n u) (of-one part k i p m v))
never-apart false (k ∷ []) part (inr i) e o n p m f g u v = absurd i
never-apart false (k ∷ l ∷ names) part (inl i) e o n p m f g u v = absurd (false≢true (sym e ∙ ap (λ (q : GroupPart). q.around) i))
never-apart false (k ∷ l ∷ names) part (inr i) e o n p m f g u v =
    let j = In-map part (k ∷ l ∷ names) i in (refl, of-name j.0 o n p m (of-one part j.0 j.1 o n u) (of-one part j.0 j.1 p m v))
