-- Agreement with one field of all is agreement of each two.
use Rattle.std.proofs.Common.{◌≡◌, ap, sym, subst, ◌∙◌, Bool, List, Option, Some, None, get_or, inl, inr}
use Rattle.std.specs.List.{All}
use Rattle.std.proofs.lemmas.Bool.{or_cases, or_left, or_right}
use Rattle.graphql_values.specs.Laws.{SameByAThird}
use Rattle.graphql_tree.specs.Arguments.{Argument}
use Rattle.graphql_schema.specs.declared.meta.MetaType.{MetaType}
use Rattle.graphql_schema.specs.Types.{TypeOf}
use Rattle.graphql_merging.specs.Merging.{is_leaf, IsAmong, SameArguments, SameShape, SameShapes}
use Rattle.graphql_bundles.specs.BundleLaws.{SameFieldByAThird}

module _ {S : Type 0} (eq : S → S → Bool) (third : SameByAThird eq) where
  among-third : (ys zs : List (Argument S)) → All (IsAmong eq zs) ys → (x : Argument S) → IsAmong eq ys x → IsAmong eq zs x
  among-third ys zs h x a =
      let b = subst (IsAmong eq zs) a.3 (h a.0 a.1 a.2) in
      (b.0, b.1, b.2, b.3, (a.4.0 ∙ b.4.0, third x.1.item a.1.1.item b.1.1.item a.4.1 b.4.1))

  arguments-third : (xs ys zs : List (Argument S)) → SameArguments eq xs ys → SameArguments eq ys zs → SameArguments eq xs zs
  arguments-third xs ys zs f g = ((λ k d w. among-third ys zs g.0 (get_or xs k d) (f.0 k d w)), (λ k d w. among-third ys xs f.1 (get_or zs k d) (g.1 k d w)))

pub same-field-by-a-third : (S C : Type 0) (eq : S → S → Bool) → SameByAThird eq → SameFieldByAThird S C eq
same-field-by-a-third S C eq third types a b h f g =
    (f.0 ∙ sym g.0, arguments-third eq third a.head.arguments h.head.arguments b.head.arguments f.1 (g.1.1, g.1.0))

module _ {S C : Type 0} (types : List (MetaType S C)) where
  shape-third : (s t u : TypeOf) → SameShape types s u → SameShape types t u → SameShape types s t
  shape-third s t u f g = (
    f.0 ∙ sym g.0,
    λ e. elim (or_cases (is_leaf types s.name) (is_leaf types t.name) e) [
      | inl l ↦ (let i = f.1 (or_left (is_leaf types s.name) (is_leaf types u.name) l) in
          i ∙ sym (g.1 (or_right (is_leaf types t.name) (is_leaf types u.name) (ap (is_leaf types) (sym i) ∙ l))))
      | inr l ↦ (let i = g.1 (or_left (is_leaf types t.name) (is_leaf types u.name) l) in
          f.1 (or_right (is_leaf types s.name) (is_leaf types u.name) (ap (is_leaf types) (sym i) ∙ l)) ∙ sym i)
    ],
  )

  pub shapes-third : (s t : Option TypeOf) (u : TypeOf) → SameShapes types s (Some u) → SameShapes types t (Some u) → SameShapes types s t
  shapes-third None None u f g = tt
  shapes-third None (Some t) u f g = tt
  shapes-third (Some s) None u f g = tt
  shapes-third (Some s) (Some t) u f g = shape-third s t u f g

  pub shapes-none : (s t : Option TypeOf) → s ≡ None → SameShapes types s t
  shapes-none None None e = tt
  shapes-none None (Some t) e = tt
  shapes-none (Some s) t e = absurd (some e)
    where
      some : Some s ≡ None → ⊥
      some e = cc
