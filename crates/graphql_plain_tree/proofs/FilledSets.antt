-- A plain set is empty where the set is, and its sets stand where those of the set do.
use Rattle.std.proofs.Common.{◌≡◌, refl, sym, ◌∙◌, ap, Bool, true, false, not, ◌&&◌, [], cond}
use Rattle.graphql_written_out.specs.Trees.{Directives, Tree, none, field, inline, is_empty, IsFilled}
use Rattle.graphql_plain_tree.specs.Plain.{drops_all, plain_set, plain}

module _ {S : Type 0} (drops : Directives S → Bool) (stand_in : Directives S) where
  abbrev set : Bool → Tree S → Tree S
  set = plain_set drops stand_in

  abbrev p : Tree S → Tree S
  p = plain drops stand_in

  kept-empty : (t : Tree S) → drops_all drops t ≡ false → is_empty (set false t) ≡ false
  kept-empty none = λ h. cc
  kept-empty (field head directives below rest) =
      elim (drops directives) as (λ d. (d && drops_all drops rest) ≡ false → is_empty (cond d (set false rest) (field head [] (p below) (set false rest))) ≡ false)
      [ true ↦ kept-empty rest | false ↦ λ h. refl ]
  kept-empty (inline on directives below rest) =
      elim (drops directives) as (λ d. (d && drops_all drops rest) ≡ false → is_empty (cond d (set false rest) (inline on [] (p below) (set false rest))) ≡ false)
      [ true ↦ kept-empty rest | false ↦ λ h. refl ]

  -- of a set that is not empty, by whether all are left out
  some : (t : Tree S) → is_empty (set true t) ≡ false → is_empty (p t) ≡ false
  some t h =
      let cases : (out : Bool) → drops_all drops t ≡ out → is_empty (set out t) ≡ false = elim [ true ↦ λ e. h | false ↦ λ e. kept-empty t e ] in
      cases (drops_all drops t) refl

  pub same-empty : (t : Tree S) → is_empty (p t) ≡ is_empty t
  same-empty none = refl
  same-empty (field head directives below rest) = some (field head directives below rest) refl
  same-empty (inline on directives below rest) = some (inline on directives below rest) refl

  filled : (t : Tree S) (out : Bool) → IsFilled t → IsFilled (set out t)
  filled none out h = tt
  filled (field head directives below rest) true h = (h.0 ∙ ap not (sym (same-empty below)), filled below (drops_all drops below) h.1, tt)
  filled (field head directives below rest) false h =
      elim (drops directives) as (λ d. IsFilled (cond d (set false rest) (field head [] (p below) (set false rest))))
      [ true ↦ filled rest false h.2 | false ↦ (h.0 ∙ ap not (sym (same-empty below)), filled below (drops_all drops below) h.1, filled rest false h.2) ]
  filled (inline on directives below rest) true h = (same-empty below ∙ h.0, filled below (drops_all drops below) h.1, tt)
  filled (inline on directives below rest) false h =
      elim (drops directives) as (λ d. IsFilled (cond d (set false rest) (inline on [] (p below) (set false rest))))
      [ true ↦ filled rest false h.2 | false ↦ (same-empty below ∙ h.0, filled below (drops_all drops below) h.1, filled rest false h.2) ]

  pub filled-plain : (t : Tree S) → IsFilled t → IsFilled (p t)
  filled-plain t = filled t (drops_all drops t)
