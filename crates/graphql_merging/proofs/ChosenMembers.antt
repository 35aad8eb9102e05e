-- The members that apply to an object type, one by one.
use Rattle.std.proofs.Common.{◌≡◌, refl, ◌∙◌, ap, subst, suc, arith, Bool, true, false, not, ◌||◌, List, [], ◌∷◌, ◌++◌, map, Option, Some, None, cond, inl, inr}
use Rattle.std.specs.Option.{IfSome, IsSome}
use Rattle.std.specs.List.{All, Contains}
use Rattle.std.proofs.lemmas.Slice.Eq.{bytes_eq-Decides}
use Rattle.std.proofs.lemmas.Bool.{false≢true}
use Rattle.std.proofs.lemmas.List.{map-append}
use Rattle.std.proofs.lemmas.List.Elements.{Contains-append_left, Contains-append_right, Contains-append_cases}
use Rattle.graphql_names.specs.Names.{Bytes}
use Rattle.graphql_names.proofs.NameMaps.{found_is_in}
use Rattle.graphql_schema.specs.declared.meta.MetaType.{MetaType}
use Rattle.graphql_schema.specs.Lookups.{own_name, type_named}
use Rattle.graphql_written_out.specs.Trees.{Directives, Tree, none, field, inline}
use Rattle.graphql_written_out.specs.Fields.{Found, applies, fields}
use Rattle.graphql_merging.specs.Members.{Member, Scope, member, inside, members}
use Rattle.graphql_merging.specs.Sets.{Set, members_of}
use Rattle.graphql_merging.proofs.Nested.{one-only, in-nothing}
use Rattle.graphql_merging.specs.Chosen.{found_of, members_of_all, ConditionsAreKnown, chosen, chosen_of, chosen_of_all, IsAbove, IsTypeAbove}

module _ {S C : Type 0} (types : List (MetaType S C)) (drops : Directives S → Bool) (is_above : Bytes → Bool) where
  -- ---- as collected fields

  both : (q : Bool) (xs ys : List (Member S C)) (us vs : List (Found S)) → map found_of xs ≡ us → map found_of ys ≡ vs → map found_of (cond q ys (xs ++ ys)) ≡ cond q vs (us ++ vs)
  both true xs ys us vs e f = f
  both false xs ys us vs e f = map-append found_of xs ys ∙ (λ i. e i ++ f i)

  one : (q : Bool) (x : Member S C) (ys : List (Member S C)) (vs : List (Found S)) → map found_of ys ≡ vs → map found_of (cond q ys (x ∷ ys)) ≡ cond q vs (found_of x ∷ vs)
  one true x ys vs f = f
  one false x ys vs f = ap (λ zs. found_of x ∷ zs) f

  pub collected : (parent : MetaType S C) (t : Tree S) → ConditionsAreKnown types t → map found_of (chosen types drops is_above (Some parent) t) ≡ fields drops is_above t
  collected parent none h = refl
  collected parent (field head directives below rest) h = one (drops directives) _ _ _ (collected parent rest h)
  collected parent (inline None directives below rest) h = both (drops directives || not (applies is_above None)) _ _ _ _ (collected parent below h.0) (collected parent rest h.1)
  collected parent (inline (Some on) directives below rest) h =
      both (drops directives || not (applies is_above (Some on))) _ _ _ _ (known (type_named types on) h.0 (λ m. collected m below h.1)) (collected parent rest h.2)
    where
      known : (o : Option (MetaType S C)) → IsSome o → ((m : MetaType S C) → map found_of (chosen types drops is_above (Some m) below) ≡ fields drops is_above below)
          → map found_of (chosen types drops is_above o below) ≡ fields drops is_above below
      known (Some m) k f = f m
      known None k f = absurd (false≢true k)

  -- ---- as members

  Above : Scope S C → Type 0
  Above scope = IfSome scope (IsTypeAbove types is_above)

  above-inside : (scope : Scope S C) (on : Option Bytes) → applies is_above on ≡ true → Above scope → Above (inside types scope on)
  unfolding Above
  above-inside None on e h = tt
  above-inside (Some parent) None e h = h
  above-inside (Some parent) (Some on) e h = named (type_named types on) refl
    where
      named : (o : Option (MetaType S C)) → type_named types on ≡ o → Above o
      named None f = tt
      named (Some m) f =
          let own : own_name m ≡ on = (bytes_eq-Decides (own_name m) on).0 (found_is_in own_name types on m f).0 in
          (ap (type_named types) own ∙ f, ap is_above own ∙ e)

  -- each of the one list is of the other, and its parent is above the object type
  FromAbove : List (Member S C) → List (Member S C) → Type 0
  FromAbove xs ys = (m : Member S C) → Contains xs m → Contains ys m × IsTypeAbove types is_above m.parent

  from-both : (xs ys us vs : List (Member S C)) → FromAbove xs us → FromAbove ys vs → FromAbove (xs ++ ys) (us ++ vs)
  unfolding FromAbove
  from-both xs ys us vs f g m i = elim (Contains-append_cases xs ys m i) [
    | inl j ↦ (Contains-append_left us vs m (f m j).0, (f m j).1)
    | inr j ↦ (Contains-append_right us vs m (g m j).0, (g m j).1)
  ]

  from-right : (ys us vs : List (Member S C)) → FromAbove ys vs → FromAbove ys (us ++ vs)
  unfolding FromAbove
  from-right ys us vs g m i = (Contains-append_right us vs m (g m i).0, (g m i).1)

  from-member : (scope : Scope S C) (head : _) (below : Tree S) → Above scope → FromAbove (member scope head below) (member scope head below)
  unfolding Above FromAbove
  from-member None head below h m i = in-nothing m i
  from-member (Some parent) head below h m i = (i, subst (λ (n : Member S C). IsTypeAbove types is_above n.parent) (one-only _ m i) h)

  from-field : (q : Bool) (xs ys us vs : List (Member S C)) → FromAbove xs us → FromAbove ys vs → FromAbove (cond q ys (xs ++ ys)) (us ++ vs)
  from-field true xs ys us vs f g = from-right ys us vs g
  from-field false xs ys us vs f g = from-both xs ys us vs f g

  from-inline : (q r : Bool) (xs ys us vs : List (Member S C)) → (r ≡ true → FromAbove xs us) → FromAbove ys vs → FromAbove (cond (q || not r) ys (xs ++ ys)) (us ++ vs)
  from-inline true r xs ys us vs f g = from-right ys us vs g
  from-inline false false xs ys us vs f g = from-right ys us vs g
  from-inline false true xs ys us vs f g = from-both xs ys us vs (f refl) g

  from-tree : (scope : Scope S C) (t : Tree S) → Above scope → FromAbove (chosen types drops is_above scope t) (members types scope t)
  unfolding FromAbove
  from-tree scope none h = λ m i. in-nothing m i
  from-tree scope (field head directives below rest) h =
      from-field (drops directives) _ _ _ _ (from-member scope head below h) (from-tree scope rest h)
  from-tree scope (inline on directives below rest) h =
      from-inline (drops directives) (applies is_above on) _ _ _ _ (λ e. from-tree (inside types scope on) below (above-inside scope on e h)) (from-tree scope rest h)

  head-of : {X : Type 0} (P : X → Type 0) (x : X) (xs : List X) → All P (x ∷ xs) → P x
  head-of P x xs h = h 0 x (omega arith)

  tail-of : {X : Type 0} (P : X → Type 0) (x : X) (xs : List X) → All P (x ∷ xs) → All P xs
  tail-of P x xs h = λ k d within. h (suc k) d (omega (arith, within))

  -- what is chosen of sets above the object type is of their members, and stands under a type above it
  pub from-sets : (sets : List (Set S C)) → All (IsAbove types is_above) sets → (m : Member S C) → Contains (chosen_of_all types drops is_above sets) m
      → Contains (members_of_all types sets) m × IsTypeAbove types is_above m.parent
  unfolding Above FromAbove
  from-sets [] h = λ m i. in-nothing m i
  from-sets (set ∷ sets) h = from-both (chosen_of types drops is_above set) (chosen_of_all types drops is_above sets) (members_of types set) (members_of_all types sets)
      (from-tree set.scope set.tree (head-of (IsAbove types is_above) set sets h)) (from-sets sets (tail-of (IsAbove types is_above) set sets h))
