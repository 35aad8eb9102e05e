-- The wraps of a type, by the outermost one.
use Rattle.std.proofs.Common.{◌≡◌, ◌&&◌, ℕ, ◌+◌, ◌-◌, Bool, true, false, cond, List, [], ◌∷◌, ◌++◌, Option, Some, length, get_or, reverse, slice_get, take, refl, sym, ap, subst, ◌∙◌, arith}
use Rattle.std.proofs.Math.Seq.{get_or-append_seam, take-append_seam}
use Rattle.std.proofs.lemmas.List.{length_push, reverse-append, reverse-reverse}
use Rattle.std.proofs.lemmas.Option.{slice_get_read}
use Rattle.graphql_schema.specs.Subtypes.{is_named_subtype, is_subtype, is_wrapped_subtype}
use Rattle.graphql_schema.specs.Types.{TypeOf, refuses_null}
use Rattle.graphql_schema.specs.declared.meta.MetaType.{MetaType}
use Rattle.graphql_names.specs.TypeReference.{is_non_null, nullable, outermost}
use Rattle.graphql_names.specs.declared.type_modifier.TypeModifier.{TypeModifier}
use Rattle.graphql_names.specs.declared.type_modifier.TypeModifier.TheVariants as modifier
use Rattle.graphql_rules_document.specs.VariablesInAllowedPosition.{with_null, without_null}

module _ (ms within : List TypeModifier) (m : TypeModifier) (are : ms ≡ within ++ m ∷ []) (count : length within + 1 ≡ length ms) where
  last_at : length ms - 1 ≡ length within
  last_at = omega (arith, count)

  outermost_is : outermost ms ≡ Some m
  outermost_is = ap (slice_get ms) last_at ∙ slice_get_read ms (length ms) (length within) m refl (omega (arith, count)) (sym (ap (λ xs. get_or xs (length within) m) are ∙ get_or-append_seam within m [] m))

  nullable_is : nullable ms ≡ cond (is_non_null (Some m)) (take (length ms - 1) ms) ms
  nullable_is = ap (λ o. cond (is_non_null o) (take (length ms - 1) ms) ms) outermost_is

  pub without_non_null : m ≡ modifier.NonNull → within ≡ nullable ms
  without_non_null is = sym (nullable_is ∙ ap (λ w. cond (is_non_null (Some w)) (take (length ms - 1) ms) ms) is ∙ ap (λ n. take n ms) last_at ∙ ap (take (length within)) are ∙ take-append_seam within (m ∷ []))

  pub with_list : (size : Option ℕ) → m ≡ modifier.List size → ms ≡ nullable ms
  with_list size is = sym (nullable_is ∙ ap (λ w. cond (is_non_null (Some w)) (take (length ms - 1) ms) ms) is)

-- ---- what is below a type without `null`

never : (b : Bool) → (b && false) ≡ false
never true = refl
never false = refl

-- `ws`: the wraps of the other type, with `null`; `named`: whether the names allow it
module _ (ws : List TypeModifier) (named : Bool) where
  abbrev Tested : List TypeModifier → List TypeModifier → Type 0
  Tested ms outermost_first =
      (is_non_null (outermost ms) && (named && is_wrapped_subtype (reverse (nullable ms)) (reverse ws)))
      ≡ (named && is_wrapped_subtype outermost_first (modifier.NonNull ∷ reverse ws))

  by_outermost : (rest ms : List TypeModifier) → ms ≡ reverse rest → Tested ms rest
  by_outermost [] ms is = subst (λ xs. Tested xs []) (sym is) (sym (never named))
  by_outermost (modifier.List size ∷ rest) ms is =
      let are : ms ≡ reverse rest ++ modifier.List size ∷ [] = is ∙ reverse-append (modifier.List size ∷ []) rest in
      let count : length (reverse rest) + 1 ≡ length ms = sym (ap length are ∙ length_push (reverse rest) (modifier.List size)) in
      ap (λ o. is_non_null o && (named && is_wrapped_subtype (reverse (nullable ms)) (reverse ws))) (outermost_is ms (reverse rest) (modifier.List size) are count)
      ∙ sym (never named)
  by_outermost (modifier.NonNull ∷ rest) ms is =
      let are : ms ≡ reverse rest ++ modifier.NonNull ∷ [] = is ∙ reverse-append (modifier.NonNull ∷ []) rest in
      let count : length (reverse rest) + 1 ≡ length ms = sym (ap length are ∙ length_push (reverse rest) modifier.NonNull) in
      ap (λ o. is_non_null o && (named && is_wrapped_subtype (reverse (nullable ms)) (reverse ws))) (outermost_is ms (reverse rest) modifier.NonNull are count)
      ∙ ap (λ xs. named && is_wrapped_subtype (reverse xs) (reverse ws)) (sym (without_non_null ms (reverse rest) modifier.NonNull are count refl))
      ∙ ap (λ xs. named && is_wrapped_subtype xs (reverse ws)) (reverse-reverse rest)

-- it has no `null`, and with `null` is below that type with `null`
pub below_without_null : {S C : Type 0} (types : List (MetaType S C)) (sub super : TypeOf)
    → (refuses_null sub && is_subtype types (with_null sub) (with_null super)) ≡ is_subtype types sub (without_null super)
below_without_null types sub super =
    let named = is_named_subtype types sub.name super.name in
    let ws = nullable super.modifiers in
    by_outermost ws named (reverse sub.modifiers) sub.modifiers (sym (reverse-reverse sub.modifiers))
    ∙ ap (λ xs. named && is_wrapped_subtype (reverse sub.modifiers) xs) (sym (reverse-append ws (modifier.NonNull ∷ [])))
