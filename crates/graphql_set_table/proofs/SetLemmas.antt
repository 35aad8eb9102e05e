-- The fields of a set, and the sets in it, by what stands directly in it.
use Rattle.std.proofs.Common.{◌≡◌, refl, ap, sym, subst, ◌∙◌, ◌⊎◌, inl, inr, ◌<◌, ◌≤◌, arith, append-nil, List, [], ◌∷◌, ◌++◌, map, Option, Some, None}
use Rattle.std.specs.List.{flat_map}
use Rattle.std.specs.Option.{option_map, option_to_list}
use Rattle.std.proofs.lemmas.List.{map-append}
use Rattle.std.proofs.lemmas.List.Concat.{flat_map_single}
use Rattle.graphql_values.specs.InputValues.{Placed}
use Rattle.graphql_tree.specs.declared.document.Fragment.{Fragment}
use Rattle.graphql_tree.specs.declared.selection.Field.{Field}
use Rattle.graphql_tree.specs.declared.selection.FragmentSpread.{FragmentSpread}
use Rattle.graphql_tree.specs.declared.selection.Selection.{Selection}
use Rattle.graphql_tree.specs.declared.selection.Selection.TheVariants as selection
use Rattle.graphql_tree.proofs.SelectionInduction.{selection_ind}
use Rattle.graphql_schema.specs.declared.meta.MetaType.{MetaType}
use Rattle.graphql_schema.specs.Declarations.{Declarations}
use Rattle.graphql_written_out.specs.Trees.{Tree, none, field, inline, height}
use Rattle.graphql_written_out.specs.Written.{listed, fragment_meant, written, written_selection, Settled}
use Rattle.graphql_written_out.proofs.Layers.{deep-Field, one-deep, height-one, height-of-Inline, height-of-Spread}
use Rattle.graphql_merging.specs.Members.{Member, Scope, members}
use Rattle.graphql_merging.specs.Sets.{Set, members_of, directs_in, directs_of, sets_in, sets_of}
use Rattle.graphql_merging.proofs.DirectFields.{In, from-In}
use Rattle.graphql_set_table.specs.SetsAt.{SetAt, FieldAt, fields_opened, fields_selected, fields_under, fields_at, fragment_set, own_set, inner_opened, inner_of, inner_under, inner_at}
use Rattle.graphql_set_table.proofs.Rows.{in-either, in-flat_map}
use Rattle.graphql_set_table.proofs.Parts.{written_set, member_of, read-written, read-found, read-field, read-inner}

module _ {S C : Type 0} (schema : Declarations S C) where
  -- ---- of an unknown type

  members-unknown : (t : Tree S) → members schema.types None t ≡ []
  members-unknown none = refl
  members-unknown (field head directives below rest) = members-unknown rest
  members-unknown (inline on directives below rest) = (λ i. members-unknown below i ++ members-unknown rest i)

  directs-unknown : (t : Tree S) → directs_in schema.types None t ≡ []
  directs-unknown none = refl
  directs-unknown (field head directives below rest) = directs-unknown rest
  directs-unknown (inline on directives below rest) = directs-unknown rest

  -- below an unknown type no set has fields
  sets-unknown : (t : Tree S) (set : Set S C) → In set (sets_in schema.types None t) → directs_of schema.types set ≡ []
  sets-unknown none set i = absurd i
  sets-unknown (field head directives below rest) set (inl e) = ap (directs_of schema.types) e ∙ directs-unknown below
  sets-unknown (field head directives below rest) set (inr i) =
      elim (in-either set (sets_in schema.types None below) (sets_in schema.types None rest) i) [ inl j ↦ sets-unknown below set j | inr j ↦ sets-unknown rest set j ]
  sets-unknown (inline on directives below rest) set (inl e) = ap (directs_of schema.types) e ∙ directs-unknown below
  sets-unknown (inline on directives below rest) set (inr i) =
      elim (in-either set (sets_in schema.types None below) (sets_in schema.types None rest) i) [ inl j ↦ sets-unknown below set j | inr j ↦ sets-unknown rest set j ]

  module _ (fragments : List (Fragment S)) (settled : Settled fragments) where
    -- the fields of a set, and those of its fragments
    abbrev pub members_at : SetAt S C → List (Member S C)
    members_at set = members_of schema.types (written_set fragments set)

    abbrev pub sets_within : SetAt S C → List (Set S C)
    sets_within set = sets_of schema.types (written_set fragments set)

    -- ---- members

    found-under : (scope : Scope S C) (xs : List (Selection S)) (m : Member S C) → In m (members schema.types scope (written fragments xs))
        → ((f : FieldAt S C) × In f (fields_under scope xs) × (m ≡ member_of fragments f)) ⊎ ((s : SetAt S C) × In s (inner_under schema fragments scope xs) × In m (members_at s))
    found-under None xs m i = absurd (subst (In m) (members-unknown (written fragments xs)) i)
    found-under (Some parent) xs m i =
        elim (read-found schema fragments settled parent (members schema.types (Some parent)) (λ f. member_of fragments f ∷ []) members_at refl (λ x d r. refl) (λ on d s r. refl) xs m i) [
          | inl h ↦ inl (h.0, h.1, elim h.2 [ inl e ↦ e | inr n ↦ absurd n ])
          | inr h ↦ inr h
        ]

    pub member-found : (set : SetAt S C) (m : Member S C) → In m (members_at set)
        → ((f : FieldAt S C) × In f (fields_at set) × (m ≡ member_of fragments f)) ⊎ ((s : SetAt S C) × In s (inner_at schema fragments set) × In m (members_at s))
    member-found set = found-under set.scope set.selections

    field-under : (scope : Scope S C) (xs : List (Selection S)) (f : FieldAt S C) → In f (fields_under scope xs) → In (member_of fragments f) (members schema.types scope (written fragments xs))
    field-under None xs f i = absurd i
    field-under (Some parent) xs f i =
        read-field schema fragments settled parent (members schema.types (Some parent)) (λ f. member_of fragments f ∷ []) members_at refl (λ x d r. refl) (λ on d s r. refl) xs (member_of fragments f) f i (inl refl)

    pub member-field : (set : SetAt S C) (f : FieldAt S C) → In f (fields_at set) → In (member_of fragments f) (members_at set)
    member-field set = field-under set.scope set.selections

    inner-under : (scope : Scope S C) (xs : List (Selection S)) (s : SetAt S C) (m : Member S C) → In s (inner_under schema fragments scope xs) → In m (members_at s) → In m (members schema.types scope (written fragments xs))
    inner-under None xs s m i j = absurd i
    inner-under (Some parent) xs s m i j =
        read-inner schema fragments settled parent (members schema.types (Some parent)) (λ f. member_of fragments f ∷ []) members_at refl (λ x d r. refl) (λ on d s r. refl) xs m s i j

    pub member-inner : (set s : SetAt S C) (m : Member S C) → In s (inner_at schema fragments set) → In m (members_at s) → In m (members_at set)
    member-inner set = inner-under set.scope set.selections

    -- ---- direct fields

    none-inner : (ss : List (SetAt S C)) → flat_map {A = Member S C} (λ s. []) ss ≡ []
    none-inner [] = refl
    none-inner (s ∷ ss) = none-inner ss

    singles : (parent : MetaType S C) (xs : List (Selection S))
        → flat_map (λ x. flat_map (λ f. member_of fragments f ∷ []) (fields_selected parent x) ++ flat_map (λ s. []) (inner_of schema fragments parent x)) xs
        ≡ map (member_of fragments) (flat_map (fields_selected parent) xs)
    singles parent [] = refl
    singles parent (x ∷ xs) =
        (λ i. (flat_map_single (member_of fragments) (fields_selected parent x) i ++ none-inner (inner_of schema fragments parent x) i) ++ singles parent xs i)
        ∙ ap (λ ms. ms ++ map (member_of fragments) (flat_map (fields_selected parent) xs)) (append-nil (map (member_of fragments) (fields_selected parent x)))
        ∙ sym (map-append (member_of fragments) (fields_selected parent x) (flat_map (fields_selected parent) xs))

    directs-under : (scope : Scope S C) (xs : List (Selection S)) → directs_in schema.types scope (written fragments xs) ≡ map (member_of fragments) (fields_under scope xs)
    directs-under None xs = directs-unknown (written fragments xs)
    directs-under (Some parent) xs =
        read-written schema fragments settled parent (directs_in schema.types (Some parent)) (λ f. member_of fragments f ∷ []) (λ s. []) refl (λ x d r. refl) (λ on d s r. refl) xs
        ∙ singles parent xs

    -- the fields that stand directly in a set
    pub directs-at : (set : SetAt S C) → directs_of schema.types (written_set fragments set) ≡ map (member_of fragments) (fields_at set)
    directs-at set = directs-under set.scope set.selections

    -- ---- sets

    sets-under : (scope : Scope S C) (xs : List (Selection S)) (set : Set S C) → In set (sets_in schema.types scope (written fragments xs))
        → (directs_of schema.types set ≡ []) ⊎ (((f : FieldAt S C) × In f (fields_under scope xs) × In set (sets_within (own_set schema f)))
        ⊎ ((s : SetAt S C) × In s (inner_under schema fragments scope xs) × In set (sets_within s)))
    sets-under None xs set i = inl (sets-unknown (written fragments xs) set i)
    sets-under (Some parent) xs set i =
        inr (read-found schema fragments settled parent (sets_in schema.types (Some parent)) (λ f. sets_within (own_set schema f)) sets_within refl (λ x d r. refl) (λ on d s r. refl) xs set i)

    -- a set in a set is the own set of a field, or that of a fragment, or in one of these
    pub set-found : (at : SetAt S C) (set : Set S C) → In set (sets_in schema.types at.scope (written fragments at.selections))
        → (directs_of schema.types set ≡ []) ⊎ (((f : FieldAt S C) × In f (fields_at at) × In set (sets_within (own_set schema f)))
        ⊎ ((s : SetAt S C) × In s (inner_at schema fragments at) × In set (sets_within s)))
    set-found at = sets-under at.scope at.selections

    -- ---- heights

    one-lower : (x : Selection S) (xs : List (Selection S)) → In x xs → height (written_selection fragments x) ≤ height (written fragments xs)
    one-lower x xs i =
        let at = from-In x xs i in
        subst (λ y. height (written_selection fragments y) ≤ height (written fragments xs)) at.2 (height-one fragments xs at.0 x at.1)

    field-height : (x : Placed (Field S)) → height (written fragments (listed x.item.selection_set)) < height (written_selection fragments (selection.Field x))
    field-height x = rw (one-deep, deep-Field fragments x none) (omega arith)

    module _ (parent : MetaType S C) where
      abbrev FieldsLower : Selection S → Type 0
      FieldsLower x = (f : FieldAt S C) → In f (fields_selected parent x) → height (written fragments (listed f.field.item.selection_set)) < height (written_selection fragments x)

      fields-lower : (x : Selection S) → FieldsLower x
      fields-lower = selection_ind FieldsLower
          (λ x h f i. elim (subst (In f) (ap (fields_opened parent) (selection.outs-Field x)) i) [
            | inl e ↦ subst (λ (g : FieldAt S C). height (written fragments (listed g.field.item.selection_set)) < height (written_selection fragments (selection.Field x))) (sym e) (field-height x)
            | inr n ↦ absurd n
          ])
          (λ x f i. absurd (subst (In f) (ap (fields_opened parent) (selection.outs-FragmentSpread x)) i))
          (λ x h f i. absurd (subst (In f) (ap (fields_opened parent) (selection.outs-InlineFragment x)) i))

      abbrev InnerLower : Selection S → Type 0
      InnerLower x = (s : SetAt S C) → In s (inner_of schema fragments parent x) → height (written fragments s.selections) < height (written_selection fragments x)

      meant-lower : (x : Placed (FragmentSpread S)) (s : SetAt S C) (o : Option (Fragment S)) → fragment_meant fragments x.item.name.item ≡ o → In s (option_to_list (option_map (fragment_set schema) o))
          → height (written fragments s.selections) < height (written_selection fragments (selection.FragmentSpread x))
      meant-lower x s None e i = absurd i
      meant-lower x s (Some f) e (inr n) = absurd n
      meant-lower x s (Some f) e (inl same) =
          subst (λ (z : SetAt S C). height (written fragments z.selections) < height (written_selection fragments (selection.FragmentSpread x))) (sym same) (height-of-Spread fragments settled x f e)

      inner-lower : (x : Selection S) → InnerLower x
      inner-lower = selection_ind InnerLower
          (λ x h s i. absurd (subst (In s) (ap (inner_opened schema fragments parent) (selection.outs-Field x)) i))
          (λ x s i. meant-lower x s (fragment_meant fragments x.item.name.item) refl (subst (In s) (ap (inner_opened schema fragments parent) (selection.outs-FragmentSpread x)) i))
          (λ x h s i. elim (subst (In s) (ap (inner_opened schema fragments parent) (selection.outs-InlineFragment x)) i) [
            | inl e ↦ subst (λ (z : SetAt S C). height (written fragments z.selections) < height (written_selection fragments (selection.InlineFragment x))) (sym e) (height-of-Inline fragments x)
            | inr n ↦ absurd n
          ])

    field-less : (scope : Scope S C) (xs : List (Selection S)) (f : FieldAt S C) → In f (fields_under scope xs) → height (written fragments (listed f.field.item.selection_set)) < height (written fragments xs)
    field-less None xs f i = absurd i
    field-less (Some parent) xs f i =
        let r = in-flat_map (fields_selected parent) f xs i in
        let low : height (written fragments (listed f.field.item.selection_set)) < height (written_selection fragments r.0) = fields-lower parent r.0 f r.2 in
        let high : height (written_selection fragments r.0) ≤ height (written fragments xs) = one-lower r.0 xs r.1 in
        omega (arith, low, high)

    -- the own set of a field is less high than the set in which it stands
    pub own-lower : (set : SetAt S C) (f : FieldAt S C) → In f (fields_at set) → height (written fragments (own_set schema f).selections) < height (written fragments set.selections)
    own-lower set = field-less set.scope set.selections

    inner-less : (scope : Scope S C) (xs : List (Selection S)) (s : SetAt S C) → In s (inner_under schema fragments scope xs) → height (written fragments s.selections) < height (written fragments xs)
    inner-less None xs s i = absurd i
    inner-less (Some parent) xs s i =
        let r = in-flat_map (inner_of schema fragments parent) s xs i in
        let low : height (written fragments s.selections) < height (written_selection fragments r.0) = inner-lower parent r.0 s r.2 in
        let high : height (written_selection fragments r.0) ≤ height (written fragments xs) = one-lower r.0 xs r.1 in
        omega (arith, low, high)

    -- and so is that of a fragment in it
    pub inner-set-lower : (set s : SetAt S C) → In s (inner_at schema fragments set) → height (written fragments s.selections) < height (written fragments set.selections)
    inner-set-lower set = inner-less set.scope set.selections
