-- Answers that are kept by pairs of names.
use Rattle.std.proofs.Common.{◌≡◌, refl, sym, ap, ◌∙◌, Bool, true, false, cond, ◌&&◌, Some, Bor, Result, Ok, Err, OnOk}
use Rattle.std.specs.HashMap.{HashMap, IsUnchanged, Updates, get}
use Rattle.std.specs.Map.{lookup}
use Rattle.std.specs.Result.{OnErr}
use Rattle.std.specs.Str.{bytes_eq}
use Rattle.std.proofs.lemmas.Slice.Eq.{bytes_eq-Decides}
use Rattle.graphql_names.specs.Names.{Bytes}
use Rattle.graphql_rules.specs.Overlaps.{are_apart, are_same}
use Rattle.graphql_schema.specs.Declarations.{Declarations}

both_true : (a b : Bool) → (a && b) ≡ true → (a ≡ true) × (b ≡ true)
both_true true b e = (refl, e)
both_true false b e = absurd (cc)

some_is : (a b : Bool) → Some a ≡ Some b → a ≡ b
some_is a b e = cc

module _ {S C H : Type 0} (schema : Declarations S C) where
  -- each answer that is kept is right
  abbrev AllRight : HashMap (Bor Bytes × Bor Bytes) Bool H → Type 0
  AllRight answers = (names : Bor Bytes × Bor Bytes) → (answer : Bool) → get are_same answers names ≡ Some answer → answer ≡ are_apart schema names.0.now names.1.now

  module _ (asked : Bor Bytes × Bor Bytes) (put : Bool) (old new : HashMap (Bor Bytes × Bor Bytes) Bool H) where
    right_with : AllRight old → put ≡ are_apart schema asked.0.now asked.1.now → Updates are_same old new asked (Some put) → AllRight new
    right_with right is updates names answer gives = either (are_same asked names) refl (sym (updates.0 names) ∙ gives)
      where
        either : (same : Bool) → are_same asked names ≡ same → cond same (Some put) (get are_same old names) ≡ Some answer → answer ≡ are_apart schema names.0.now names.1.now
        either true e gives =
            let both = both_true (bytes_eq asked.0.now names.0.now) (bytes_eq asked.1.now names.1.now) e in
            let one = (bytes_eq-Decides asked.0.now names.0.now).0 both.0 in
            let other = (bytes_eq-Decides asked.1.now names.1.now).0 both.1 in
            sym (some_is put answer gives) ∙ is ∙ (λ i. are_apart schema (one i) (other i))
        either false e gives = right names answer gives

    -- a right answer is put, or there is no memory for it
    pub right_after : {A E : Type 0} (result : Result A E) → AllRight old → put ≡ are_apart schema asked.0.now asked.1.now
        → OnOk result (Updates are_same old new asked (Some put)) → OnErr result (IsUnchanged old new) → AllRight new
    right_after (Ok x) right is updates same = right_with right is updates
    right_after (Err e) right is updates same = λ names answer gives. right names answer (sym (ap (lookup (are_same names)) same) ∙ gives)
