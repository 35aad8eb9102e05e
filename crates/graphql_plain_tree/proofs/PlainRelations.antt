-- The relation holds of a set and its plain set, and of no other.
use Rattle.std.proofs.Common.{◌≡◌, ◌↔◌, refl, ◌∙◌, ap, ap₂, subst, Bool, true, false, [], cond}
use Rattle.graphql_written_out.specs.Trees.{Directives, Tree, none, field, inline}
use Rattle.graphql_plain_tree.specs.Plain.{drops_all, plain_set, plain}
use Rattle.graphql_plain_tree.specs.PlainRelation.{IsPlainOf, kept, empty, first_field, first_inline, KeepsOf, end, field_out, field_in, inline_out, inline_in}

module _ {S : Type 0} (drops : Directives S → Bool) (stand_in : Directives S) where
  abbrev set : Bool → Tree S → Tree S
  set = plain_set drops stand_in

  abbrev p : Tree S → Tree S
  p = plain drops stand_in

  abbrev IsP : Tree S → Tree S → Type 0
  IsP = IsPlainOf drops stand_in

  abbrev Keeps : Tree S → Tree S → Type 0
  Keeps = KeepsOf drops stand_in

  mutual
    is-plain : {t q : Tree S} → IsP t q → p t ≡ q
    is-plain (kept t q some k) = ap (λ out. set out t) some ∙ is-kept k
    is-plain empty = refl
    is-plain (first_field head directives below rest q all h) =
        ap (λ out. set out (field head directives below rest)) all ∙ ap (λ (x : Tree S). field head stand_in x none) (is-plain h)
    is-plain (first_inline on directives below rest q all h) =
        ap (λ out. set out (inline on directives below rest)) all ∙ ap (λ (x : Tree S). inline on stand_in x none) (is-plain h)

    is-kept : {t q : Tree S} → Keeps t q → set false t ≡ q
    is-kept end = refl
    is-kept (field_out head directives below rest q out k) = rw out (is-kept k)
    is-kept (field_in head directives below rest q r stays h k) = rw stays (ap₂ (λ (x y : Tree S). field head [] x y) (is-plain h) (is-kept k))
    is-kept (inline_out on directives below rest q out k) = rw out (is-kept k)
    is-kept (inline_in on directives below rest q r stays h k) = rw stays (ap₂ (λ (x y : Tree S). inline on [] x y) (is-plain h) (is-kept k))

  -- both forms of a set
  abbrev Both : Tree S → Type 0
  Both t = (drops_all drops t ≡ true → IsP t (set true t)) × Keeps t (set false t)

  whole : (t : Tree S) → Both t → IsP t (p t)
  whole t h =
      let cases : (out : Bool) → drops_all drops t ≡ out → IsP t (set out t) = elim [ true ↦ h.0 | false ↦ λ e. kept t (set false t) e h.1 ] in
      cases (drops_all drops t) refl

  forms : (t : Tree S) → Both t
  forms none = (λ e. empty, end)
  forms (field head directives below rest) =
      let below_plain = whole below (forms below) in
      let cases : (d : Bool) → drops directives ≡ d → Keeps (field head directives below rest) (cond d (set false rest) (field head [] (p below) (set false rest))) =
      elim [
        | true ↦ λ e. field_out head directives below rest (set false rest) e (forms rest).1
        | false ↦ λ e. field_in head directives below rest (p below) (set false rest) e below_plain (forms rest).1
      ] in
      (λ e. first_field head directives below rest (p below) e below_plain, cases (drops directives) refl)
  forms (inline on directives below rest) =
      let below_plain = whole below (forms below) in
      let cases : (d : Bool) → drops directives ≡ d → Keeps (inline on directives below rest) (cond d (set false rest) (inline on [] (p below) (set false rest))) =
      elim [
        | true ↦ λ e. inline_out on directives below rest (set false rest) e (forms rest).1
        | false ↦ λ e. inline_in on directives below rest (p below) (set false rest) e below_plain (forms rest).1
      ] in
      (λ e. first_inline on directives below rest (p below) e below_plain, cases (drops directives) refl)

  pub one-plain : (t q : Tree S) → IsP t q ↔ (p t ≡ q)
  one-plain t q = (is-plain, λ e. subst (IsP t) e (whole t (forms t)))
