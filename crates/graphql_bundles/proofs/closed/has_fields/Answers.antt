use Rattle.std.proofs.Common.{◌≡◌, refl, ap, sym, ◌∙◌, Bool, true, false, not, List, [], ◌∷◌, map}
use Rattle.std.specs.Option.{option_map_or}
use Rattle.std.proofs.lemmas.Bool.{false≢true}
use Rattle.graphql_merging.specs.declared.table.WrittenSet.{WrittenSet}
use Rattle.graphql_merging.specs.Tables.{piece_field, pieces_of}
use Rattle.graphql_bundles.proofs.closed.has_fields.Goals as goal

map_empty : {A B : Type 0} (f : A → B) (xs : List A) → map f xs ≡ [] → xs ≡ []
map_empty f [] e = refl
map_empty f (x ∷ xs) e = cc

pub returns-in-Some : goal.returns-in-Some
returns-in-Some g c = λ fragments.
    let at : (pieces_of {C = g.row.C.Denot} fragments c.args.table.now).direct c.args.number ≡ map (piece_field fragments) c.in-Some.set.now.fields =
    ap (λ o. map (piece_field {C = g.row.C.Denot} fragments) (option_map_or (λ (s : WrittenSet g.row.S.Denot g.row.C.Denot). s.fields) o [])) (sym c.in-Some.ensures) in (
      (λ yes none. absurd (clash c.is_empty.result yes (c.is_empty.ensures.1 (map_empty (piece_field fragments) c.in-Some.set.now.fields (sym at ∙ none))))),
      (λ some. cases c.is_empty.result (λ yes. some (at ∙ ap (map (piece_field fragments)) (c.is_empty.ensures.0 yes)))),
    )
  where
    clash : (b : Bool) → not b ≡ true → b ≡ true → ⊥
    clash true y e = false≢true y
    clash false y e = false≢true e

    cases : (b : Bool) → (b ≡ true → ⊥) → not b ≡ true
    cases true h = absurd (h refl)
    cases false h = refl
