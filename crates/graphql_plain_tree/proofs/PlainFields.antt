-- The fields of a plain set are those of the set, each with its own set plain.
use Rattle.std.proofs.Common.{◌≡◌, refl, sym, ◌∙◌, ap, Bool, true, false, not, ◌&&◌, ◌||◌, List, [], ◌∷◌, ◌++◌, map, cond}
use Rattle.std.proofs.lemmas.List.{map-append}
use Rattle.graphql_names.specs.Names.{Bytes}
use Rattle.graphql_written_out.specs.Trees.{Directives, Tree, none, field, inline}
use Rattle.graphql_written_out.specs.Fields.{Found, fields, applies}
use Rattle.graphql_plain_tree.specs.Plain.{drops_all, plain_set, plain}
use Rattle.graphql_plain_tree.specs.Laws.{Fit, plain_found}

module _ {S : Type 0} (drops : Directives S → Bool) (stand_in : Directives S) (fit : Fit drops stand_in) (is_above : Bytes → Bool) where
  abbrev found : Tree S → List (Found S)
  found = fields drops is_above

  abbrev P : Found S → Found S
  P = plain_found drops stand_in

  abbrev p : Tree S → Tree S
  p = plain drops stand_in

  abbrev set : Bool → Tree S → Tree S
  set = plain_set drops stand_in

  -- a set of which all are left out has no fields
  no-fields : (t : Tree S) → drops_all drops t ≡ true → found t ≡ []
  no-fields none = λ h. refl
  no-fields (field head directives below rest) =
      elim (drops directives) as (λ d. (d && drops_all drops rest) ≡ true → cond d (found rest) (record { head = head; below = below } ∷ found rest) ≡ [])
      [ true ↦ no-fields rest | false ↦ λ h. cc ]
  no-fields (inline on directives below rest) =
      elim (drops directives) as (λ d. (d && drops_all drops rest) ≡ true → cond (d || not (applies is_above on)) (found rest) (found below ++ found rest) ≡ [])
      [ true ↦ no-fields rest | false ↦ λ h. cc ]

  -- a stand-in is left out
  stand-in-fields : (t : Tree S) → found (set true t) ≡ []
  stand-in-fields none = refl
  stand-in-fields (field head directives below rest) = rw fit.0 refl
  stand-in-fields (inline on directives below rest) = rw fit.0 refl

  inside : (f : Bool) (xs ys xs' ys' : List (Found S)) → xs' ≡ map P xs → ys' ≡ map P ys → cond f ys' (xs' ++ ys') ≡ map P (cond f ys (xs ++ ys))
  inside true xs ys xs' ys' e f = f
  inside false xs ys xs' ys' e f = rw (e, f) (sym (map-append P xs ys))

  whole : (t : Tree S) → found (set false t) ≡ map P (found t) → found (p t) ≡ map P (found t)
  whole t h =
      let cases : (out : Bool) → drops_all drops t ≡ out → found (set out t) ≡ map P (found t) =
      elim [ true ↦ λ e. stand-in-fields t ∙ sym (ap (map P) (no-fields t e)) | false ↦ λ e. h ] in
      cases (drops_all drops t) refl

  kept-fields : (t : Tree S) → found (set false t) ≡ map P (found t)
  kept-fields none = refl
  kept-fields (field head directives below rest) =
      elim (drops directives) as (λ d. found (cond d (set false rest) (field head [] (p below) (set false rest))) ≡ map P (cond d (found rest) (record { head = head; below = below } ∷ found rest)))
      [ true ↦ kept-fields rest | false ↦ rw fit.1 (ap (λ (xs : List (Found S)). record { head = head; below = p below } ∷ xs) (kept-fields rest)) ]
  kept-fields (inline on directives below rest) =
      elim (drops directives) as (λ d. found (cond d (set false rest) (inline on [] (p below) (set false rest))) ≡ map P (cond (d || not (applies is_above on)) (found rest) (found below ++ found rest)))
      [ true ↦ kept-fields rest | false ↦ rw fit.1 (inside (not (applies is_above on)) _ _ _ _ (whole below (kept-fields below)) (kept-fields rest)) ]

  pub fields-plain : (t : Tree S) → found (p t) ≡ map P (found t)
  fields-plain t = whole t (kept-fields t)
