-- A group of one field.
use Rattle.std.proofs.Common.{◌≡◌, refl, ap, sym, subst, ◌∙◌, ℕ, Bool, true, false, List, [], ◌∷◌, Option, Some, None, if◌then◌else◌}
use Rattle.std.specs.List.{Contains}
use Rattle.std.proofs.lemmas.Slice.Eq.{bytes_eq-Decides}
use Rattle.graphql_values.specs.Laws.{SameAsItself}
use Rattle.graphql_text.specs.declared.position.SourcePosition.{SourcePosition}
use Rattle.graphql_names.specs.Names.{Bytes}
use Rattle.graphql_schema.specs.declared.meta.MetaType.{MetaType}
use Rattle.graphql_schema.specs.Types.{TypeOf}
use Rattle.graphql_schema.specs.Lookups.{own_name, is_object}
use Rattle.graphql_tree.specs.declared.document.Fragment.{Fragment}
use Rattle.graphql_merging.specs.Members.{Member, declared}
use Rattle.graphql_merging.specs.Merging.{SameField, SameShapes}
use Rattle.graphql_merging.specs.Pieces.{Pieces, PieceField}
use Rattle.graphql_merging.specs.Selected.{member_of}
use Rattle.graphql_merging.specs.Tables.{piece_field}
use Rattle.graphql_merging.specs.declared.table.WrittenField.{WrittenField}
use Rattle.graphql_merging.proofs.Nested.{one-only}
use Rattle.graphql_merging.proofs.Standing.{arguments-self}
use Rattle.graphql_bundles.specs.Bundles.{Bundle, GroupPart, BundleGroup, every, of_object, parts, admits, in_part, HasShape, OwnOf, IsGathered, IsGroupPassed}
use Rattle.graphql_bundles.specs.Going.{Stage, GroupLeadsTo}
use Rattle.graphql_bundles.specs.Steps.{Goes, HoldsSets, IsFoundOf}
use Rattle.graphql_bundles.specs.Groups.{group_of, names_in}
use Rattle.graphql_bundles.proofs.GoesLemmas.{goes-weaker, gathered-as}
use Rattle.graphql_bundles.proofs.ListLemmas.{here}

-- the names of the object types among the parents of one field
abbrev own_names : Bool → Bytes → List Bytes
own_names o n = if o then n ∷ [] else []

-- the parts of one field all have the flag and the field
part-has : (x o : Bool) (n : Bytes) (part : GroupPart) → Contains (parts x (own_names o n)) part → (part.around ≡ x) × (admits part.of o n ≡ true)
part-has true o n part i =
    let q = one-only (every true) part i in
    (sym (ap (λ (p : GroupPart). p.around) q), subst (λ (p : GroupPart). admits p.of o n ≡ true) q refl)
part-has false true n part i =
    let q = one-only (of_object n) part i in
    (sym (ap (λ (p : GroupPart). p.around) q), subst (λ (p : GroupPart). admits p.of true n ≡ true) q ((bytes_eq-Decides n n).1 refl))
part-has false false n part i =
    let q = one-only (every false) part i in
    (sym (ap (λ (p : GroupPart). p.around) q), subst (λ (p : GroupPart). admits p.of false n ≡ true) q refl)

-- and there is one
a-part : (x o : Bool) (n : Bytes) → (part : GroupPart) × Contains (parts x (own_names o n)) part
a-part true o n = (every true, here (every true) [])
a-part false true n = (of_object n, here (of_object n) [])
a-part false false n = (every false, here (every false) [])

module _ {S C : Type 0} (eq : S → S → Bool) (types : List (MetaType S C)) (fragments : List (Fragment S)) (f : WrittenField S C) where
  abbrev member : Member S C
  member = member_of fragments f.selected

  abbrev piece : PieceField S C
  piece = piece_field fragments f

  abbrev it : BundleGroup S C
  it = group_of fragments (f ∷ [])

  own-shape : (s : Option TypeOf) → declared member ≡ s → HasShape types s member
  own-shape None e = e
  own-shape (Some s) e = subst (λ o. SameShapes types o (Some s)) (sym e) (refl, λ _. refl)

  module _ (t : Pieces S C) (x : Bool) where
    has : (part : GroupPart) → Contains (parts x (names_in (f ∷ []))) part → (part.around ≡ x) × (in_part part member ≡ true)
    has part i = part-has x (is_object member.parent) (own_name member.parent) part i

    own-of : (part : GroupPart) → in_part part member ≡ true → (p : ℕ) → Contains (f.own ∷ []) p → OwnOf it part p
    own-of part is p i = (piece, here piece [], is, one-only f.own p i)

    own-has : (part : GroupPart) → (p : ℕ) → OwnOf it part p → Contains (f.own ∷ []) p
    own-has part p h = subst (Contains (f.own ∷ [])) (ap (λ (g : PieceField S C). g.own) (one-only piece h.0 h.1) ∙ h.3) (here f.own [])

    abbrev Found : List SourcePosition → Type 0
    Found = IsFoundOf eq types x it.fields

    abbrev May : Bundle → Type 0
    May = GroupLeadsTo t x it

    abbrev Begun : Stage → Type 0
    Begun stage = IsGathered t stage.bundles x (Contains (f.own ∷ []))

    abbrev Passed : Stage → Type 0
    Passed stage = IsGroupPassed t eq types stage.bundles stage.told x it

    may : (b : Bundle) → HoldsSets t x (f.own ∷ []) b → May b
    may b h =
        let part = a-part x (is_object member.parent) (own_name member.parent) in
        let is = has part.0 part.1 in
        (part.0, part.1, (h.0 ∙ sym is.0, λ g i. let s = h.1 g i in (s.0, own-of part.0 is.1 s.0 s.1, s.2)))

    joins : SameAsItself eq → (s : Stage) → Begun s → Passed s
    joins itself s begun = record {
      begun = (λ part i.
          let is = has part i in
          subst (λ y. IsGathered t s.bundles y (OwnOf it part)) (sym is.0) (gathered-as t s.bundles x (Contains (f.own ∷ [])) (OwnOf it part) (own-has part) begun));
      alike = (λ none _ _. record {
        shape = (declared member, λ g i. subst (λ (p : PieceField S C). HasShape types (declared member) p.member) (one-only piece g i) (own-shape (declared member) refl));
        field = (λ part i e. (
          member,
          λ g j _. subst (λ (p : PieceField S C). SameField eq types p.member member) (one-only piece g j) (refl, arguments-self eq itself member.head.arguments),
        ));
      });
    }

    -- its own set is begun
    pub lone-passed : SameAsItself eq → (old new : Stage) → Goes (λ e. ⊥) (HoldsSets t x (f.own ∷ [])) Begun old new → Goes Found May Passed old new
    lone-passed itself old new begun =
        goes-weaker (λ e. ⊥) Found (HoldsSets t x (f.own ∷ [])) May Begun Passed old new (λ e i. absurd i) may (joins itself) begun
