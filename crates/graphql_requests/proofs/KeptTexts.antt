-- Texts that are kept, where one more is put to them.
use Rattle.std.proofs.Common.{◌≡◌, Bool, true, false, List, ℕ, Result, Ok, Err, cond, inl, inr, refl, sym, ap, subst, ◌∙◌, String, string_bytes}
use Rattle.std.specs.Prelude.{◌⊎◌, OnOk, OnErr}
use Rattle.std.specs.HashSet.{HashSet, IsUnchanged, Updates, contains_text}
use Rattle.std.specs.List.{list_any}
use Rattle.std.specs.Str.{bytes_eq, chars}
use Rattle.std.specs.String.{string_eq}
use Rattle.std.proofs.lemmas.Map.Text.{hash_set_updates_text}
use Rattle.std.proofs.lemmas.Slice.Eq.{bytes_eq-Decides}
use Rattle.graphql_tree.specs.declared.document.Definition.{Definition}
use Rattle.graphql_schema.specs.Declarations.{Declarations}
use Rattle.graphql_requests.specs.Refusals.{IsRead, IsValidIn, IsValidText}
use Rattle.graphql_schema.specs.Scalars.{Scalars}

module _ {Y H : Type 0} (old new : HashSet (String Y) H) (key : String Y) where
  abbrev IsAmong : List ℕ → Type 0
  IsAmong other = (other ≡ string_bytes key) ⊎ (contains_text old other ≡ true)

  by-cases : (other : List ℕ) (same : Bool) → bytes_eq (string_bytes key) other ≡ same
      → contains_text new other ≡ cond same true (contains_text old other) → contains_text new other ≡ true → IsAmong other
  by-cases other true e is h = inl (sym ((bytes_eq-Decides (string_bytes key) other).0 e))
  by-cases other false e is h = inr (sym is ∙ h)

  -- what is kept then is the text, or was kept before, whether or not there was memory for it
  pub put-more : {A E : Type 0} (r : Result A E) → OnOk r (Updates string_eq old new key true) → OnErr r (IsUnchanged old new)
      → (other : List ℕ) → contains_text new other ≡ true → IsAmong other
  put-more (Ok x) updates same other h =
      by-cases other (bytes_eq (string_bytes key) other) refl (hash_set_updates_text (string_bytes key) old new true updates other) h
  put-more (Err e) updates same other h =
      inr (sym (ap (λ ks. list_any (λ k. bytes_eq other (string_bytes k)) ks) same) ∙ h)

module _ {S C : Type 0} (s : Scalars S C) (schema : Declarations S C) (introspection_disabled : Bool) where
  -- the one document that a text spells is valid, so each is
  pub read-valid : (text : List ℕ) (document : List (Definition S)) → IsRead s schema introspection_disabled text document
      → IsValidText s schema introspection_disabled text
  read-valid text document read other spelled =
      subst (λ (d : List (Definition S)). IsValidIn s schema introspection_disabled d) (sym (read.alone other spelled)) read.valid

  -- a text that is kept is the one that was put to the others, or one of these
  pub kept-valid : (source text : List ℕ) (before : Bool) → IsValidText s schema introspection_disabled (chars source)
      → (before ≡ true → IsValidText s schema introspection_disabled (chars text)) → (text ≡ source) ⊎ (before ≡ true)
      → IsValidText s schema introspection_disabled (chars text)
  kept-valid source text before valid was (inl same) = subst (λ t. IsValidText s schema introspection_disabled (chars t)) (sym same) valid
  kept-valid source text before valid was (inr kept) = was kept
