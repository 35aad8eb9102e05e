-- A plain set has no directives but those of stand-ins, each alone in its set; such a set is its own plain set.
use Rattle.std.proofs.Common.{◌≡◌, refl, sym, ◌∙◌, ap, Bool, true, false, ◌&&◌, [], cond, ⊎_elim, inl, inr}
use Rattle.graphql_written_out.specs.Trees.{Directives, Tree, none, field, inline}
use Rattle.graphql_plain_tree.specs.Plain.{drops_all, plain_set, plain}
use Rattle.graphql_plain_tree.specs.PlainShape.{IsPlain, IsPlainSet}
use Rattle.graphql_plain_tree.specs.Laws.{Fit}

module _ {S : Type 0} (drops : Directives S → Bool) (stand_in : Directives S) where
  abbrev set : Bool → Tree S → Tree S
  set = plain_set drops stand_in

  abbrev p : Tree S → Tree S
  p = plain drops stand_in

  -- ---- the shape of a plain set

  abbrev Shape : Bool → Tree S → Type 0
  Shape = IsPlainSet stand_in

  either : (t : Tree S) (out : Bool) → Shape true (set true t) → Shape false (set false t) → IsPlain stand_in (set out t)
  either t true h k = inl h
  either t false h k = inr k

  shapes : (t : Tree S) → Shape true (set true t) × Shape false (set false t)
  shapes none = (tt, tt)
  shapes (field head directives below rest) =
      let below_plain = either below (drops_all drops below) (shapes below).0 (shapes below).1 in (
        (refl, refl, below_plain),
        elim (drops directives) as (λ d. Shape false (cond d (set false rest) (field head [] (p below) (set false rest))))
            [ true ↦ (shapes rest).1 | false ↦ (refl, (shapes rest).1, below_plain) ],
      )
  shapes (inline on directives below rest) =
      let below_plain = either below (drops_all drops below) (shapes below).0 (shapes below).1 in (
        (refl, refl, below_plain),
        elim (drops directives) as (λ d. Shape false (cond d (set false rest) (inline on [] (p below) (set false rest))))
            [ true ↦ (shapes rest).1 | false ↦ (refl, (shapes rest).1, below_plain) ],
      )

  pub plain-throughout : (t : Tree S) → IsPlain stand_in (p t)
  plain-throughout t = either t (drops_all drops t) (shapes t).0 (shapes t).1

  -- ---- a set of that shape

  module _ (fit : Fit drops stand_in) where
    -- all of a stand-in are left out
    out-alone : (t : Tree S) → Shape true t → drops_all drops t ≡ true
    out-alone none h = refl
    out-alone (field head directives below rest) h = (λ i. drops (h.0 i) && drops_all drops (h.1 i)) ∙ ap (λ d. d && true) fit.0
    out-alone (inline on directives below rest) h = (λ i. drops (h.0 i) && drops_all drops (h.1 i)) ∙ ap (λ d. d && true) fit.0

    -- what each form is by itself
    abbrev Itself : Tree S → Type 0
    Itself t = (Shape true t → set true t ≡ t) × (Shape false t → set false t ≡ t)

    some-kept : (t : Tree S) → Shape false t → set false t ≡ t → p t ≡ t
    some-kept none h e = refl
    some-kept (field head directives below rest) h e = ap (λ out. set out (field head directives below rest)) (ap (λ d. d && drops_all drops rest) (ap drops h.0 ∙ fit.1)) ∙ e
    some-kept (inline on directives below rest) h e = ap (λ out. set out (inline on directives below rest)) (ap (λ d. d && drops_all drops rest) (ap drops h.0 ∙ fit.1)) ∙ e

    whole : (t : Tree S) → Itself t → IsPlain stand_in t → p t ≡ t
    whole t i h = ⊎_elim (λ s. ap (λ out. set out t) (out-alone t s) ∙ i.0 s) (λ s. some-kept t s (i.1 s)) h

    itself : (t : Tree S) → Itself t
    itself none = (λ h. refl, λ h. refl)
    itself (field head directives below rest) = (
      λ h. (λ i. field head (sym h.0 i) (whole below (itself below) h.2 i) (sym h.1 i)),
      λ h. rw (ap drops h.0 ∙ fit.1) (λ i. field head (sym h.0 i) (whole below (itself below) h.2 i) ((itself rest).1 h.1 i)),
    )
    itself (inline on directives below rest) = (
      λ h. (λ i. inline on (sym h.0 i) (whole below (itself below) h.2 i) (sym h.1 i)),
      λ h. rw (ap drops h.0 ∙ fit.1) (λ i. inline on (sym h.0 i) (whole below (itself below) h.2 i) ((itself rest).1 h.1 i)),
    )

    pub plain-stays : (t : Tree S) → IsPlain stand_in t → p t ≡ t
    plain-stays t = whole t (itself t)

-- so a plain set is its own plain set, also where other directives leave out
pub plain-again : {S : Type 0} (drops other : Directives S → Bool) (stand_in : Directives S) → Fit other stand_in → (t : Tree S)
    → plain other stand_in (plain drops stand_in t) ≡ plain drops stand_in t
plain-again drops other stand_in fit t = plain-stays other stand_in fit (plain drops stand_in t) (plain-throughout drops stand_in t)
