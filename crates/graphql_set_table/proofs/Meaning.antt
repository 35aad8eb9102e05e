-- What a table of a document's selection sets means: its pieces are the sets, fragments written out.
use Rattle.std.proofs.Common.{◌≡◌, refl, ap, sym, subst, ◌∙◌, ◌⊎◌, inl, inr, ℕ, zero, suc, ◌<◌, Bool, arith, List, [], ◌∷◌, map, Option, Some, None, length, get_or, slice_get}
use Rattle.std.specs.List.{AllZip, Contains}
use Rattle.std.specs.Option.{option_map, option_map_or}
use Rattle.std.proofs.lemmas.Option.{slice_get_within, slice_get-get_or, slice_get-map, slice_get_cases, get_or_from_slice_get}
use Rattle.std.proofs.lemmas.List.{length-map}
use Rattle.graphql_tree.specs.declared.document.Definition.{Definition}
use Rattle.graphql_tree.specs.declared.document.Definition.TheVariants as definition
use Rattle.graphql_tree.specs.declared.document.Fragment.{Fragment}
use Rattle.graphql_schema.specs.Declarations.{Declarations}
use Rattle.graphql_written_out.specs.Trees.{height}
use Rattle.graphql_written_out.specs.Written.{written, Settled}
use Rattle.graphql_merging.specs.Members.{Member, members_below}
use Rattle.graphql_merging.specs.Sets as sets
use Rattle.graphql_merging.specs.Sets.{Set, members_of, directs_of, sets_in, sets_of, definition_sets, document_sets}
use Rattle.graphql_tree.specs.Definitions.{fragments_listed}
use Rattle.graphql_merging.specs.Pieces.{Pieces, PieceField, StandsIn, directly, in_fragment, IsPieceOf, HasOwnPieces}
use Rattle.graphql_merging.specs.Tables.{pieces_of, piece_field}
use Rattle.graphql_merging.specs.declared.table.SetTable.{SetTable}
use Rattle.graphql_merging.specs.declared.table.WrittenField.{WrittenField}
use Rattle.graphql_merging.specs.declared.table.WrittenSet.{WrittenSet}
use Rattle.graphql_merging.proofs.DirectFields.{In, to-In, from-In}
use Rattle.graphql_set_table.specs.SetsAt.{SetAt, FieldAt, fields_at, inner_at, own_set, definition_set}
use Rattle.graphql_set_table.specs.Numbered.{IsNumberOf, IsFieldOf, IsTable}
use Rattle.graphql_set_table.proofs.Rows.{in-flat_map, in-map, in-map-from, zip-left, zip-right, slice_get-take}
use Rattle.graphql_set_table.proofs.Parts.{written_set, member_of}
use Rattle.graphql_set_table.proofs.SetLemmas.{members_at, sets_within, member-found, member-field, member-inner, directs-at, set-found, own-lower, inner-set-lower}

-- lists of one length have places alike
other-at : {X Y : Type 0} (xs : List X) (ys : List Y) (k : ℕ) (x : X) → length xs ≡ length ys → slice_get xs k ≡ Some x → (y : Y) × (slice_get ys k ≡ Some y)
other-at [] ys k x e h = cc
other-at (z ∷ xs) [] k x e h = absurd (omega (arith, e))
other-at (z ∷ xs) (y ∷ ys) zero x e h = (y, refl)
other-at (z ∷ xs) (y ∷ ys) (suc k) x e h = other-at xs ys k x (omega (arith, e)) h

module _ {S C : Type 0} (schema : Declarations S C) (document : List (Definition S)) (all : List (SetAt S C)) (table : SetTable S C)
    (is : IsTable schema document all table.sets) (settled : Settled (fragments_listed document)) where
  abbrev fragments : List (Fragment S)
  fragments = fragments_listed document

  abbrev pieces : Pieces S C
  pieces = pieces_of fragments table

  -- ---- what the table holds at a number

  written-at : (k : ℕ) (set : SetAt S C) → slice_get all k ≡ Some set → (w : WrittenSet S C) × (slice_get table.sets k ≡ Some w)
  written-at k set e = other-at all table.sets k set (sym is.count) e

  set-at : (k : ℕ) (w : WrittenSet S C) → slice_get table.sets k ≡ Some w → (set : SetAt S C) × (slice_get all k ≡ Some set)
  set-at k w e = other-at table.sets all k w is.count e

  directs-are : (k : ℕ) (w : WrittenSet S C) → slice_get table.sets k ≡ Some w → pieces.direct k ≡ map (piece_field fragments) w.fields
  directs-are k w e = ap (λ o. map (piece_field fragments) (option_map_or (λ (set : WrittenSet S C). set.fields) o [])) e

  inner-are : (k : ℕ) (w : WrittenSet S C) → slice_get table.sets k ≡ Some w → pieces.inner k ≡ w.inner
  inner-are k w e = ap (λ o. option_map_or (λ (set : WrittenSet S C). set.inner) o []) e

  -- a field of a piece is written at its number
  record FieldThere (k : ℕ) (f : PieceField S C) : Type 0 where
    pub set : SetAt S C
    pub at : slice_get all k ≡ Some set
    pub field : FieldAt S C
    pub within : In field (fields_at set)
    pub member : f.member ≡ member_of fragments field
    pub own : slice_get all f.own ≡ Some (own_set schema field)

  meant : (w : WrittenField S C) (f : FieldAt S C) → IsFieldOf all schema w f → (piece_field fragments w).member ≡ member_of fragments f
  meant w f h = ap (member_of fragments) h.0

  field-there : (k : ℕ) (f : PieceField S C) → In f (pieces.direct k) → FieldThere k f
  field-there k f i = of (slice_get table.sets k) refl
    where
      of : (o : Option (WrittenSet S C)) → slice_get table.sets k ≡ o → FieldThere k f
      of None e = absurd (subst (In f) (ap (λ o. map (piece_field fragments) (option_map_or (λ (set : WrittenSet S C). set.fields) o [])) e) i)
      of (Some w) e =
          let at = set-at k w e in
          let here = is.each k w at.0 e at.1 in
          let from = in-map (piece_field fragments) f w.fields (subst (In f) (directs-are k w e) i) in
          let to = zip-left (IsFieldOf all schema) w.fields (fields_at at.0) here.fields from.0 from.1 in
          record {
            set = at.0;
            at = at.1;
            field = to.0;
            within = to.1;
            member = ap (λ (g : PieceField S C). g.member) from.2 ∙ meant from.0 to.0 to.2;
            own = ap (λ (g : PieceField S C). slice_get all g.own) from.2 ∙ to.2.1;
          }

  -- a fragment in a piece is written at its number
  record InnerThere (k q : ℕ) : Type 0 where
    pub set : SetAt S C
    pub at : slice_get all k ≡ Some set
    pub inner : SetAt S C
    pub within : In inner (inner_at schema fragments set)
    pub number : slice_get all q ≡ Some inner

  inner-there : (k q : ℕ) → In q (pieces.inner k) → InnerThere k q
  inner-there k q i = of (slice_get table.sets k) refl
    where
      of : (o : Option (WrittenSet S C)) → slice_get table.sets k ≡ o → InnerThere k q
      of None e = absurd (subst (In q) (ap (λ o. option_map_or (λ (set : WrittenSet S C). set.inner) o []) e) i)
      of (Some w) e =
          let at = set-at k w e in
          let here = is.each k w at.0 e at.1 in
          let to = zip-left (IsNumberOf all) w.inner (inner_at schema fragments at.0) here.inner q (subst (In q) (inner-are k w e) i) in
          record { set = at.0; at = at.1; inner = to.0; within = to.1; number = to.2 }

  -- a field that stands in a set is in its piece
  field-piece : (k : ℕ) (set : SetAt S C) → slice_get all k ≡ Some set → (f : FieldAt S C) → In f (fields_at set)
      → (g : PieceField S C) × In g (pieces.direct k) × (g.member ≡ member_of fragments f) × (slice_get all g.own ≡ Some (own_set schema f))
  field-piece k set at f i =
      let w = written-at k set at in
      let here = is.each k w.0 set w.1 at in
      let from = zip-right (IsFieldOf all schema) w.0.fields (fields_at set) here.fields f i in
      (piece_field fragments from.0, subst (In (piece_field fragments from.0)) (sym (directs-are k w.0 w.1)) (in-map-from (piece_field fragments) from.0 w.0.fields from.1), meant from.0 f from.2, from.2.1)

  inner-piece : (k : ℕ) (set : SetAt S C) → slice_get all k ≡ Some set → (s : SetAt S C) → In s (inner_at schema fragments set) → (q : ℕ) × In q (pieces.inner k) × (slice_get all q ≡ Some s)
  inner-piece k set at s i =
      let w = written-at k set at in
      let here = is.each k w.0 set w.1 at in
      let from = zip-right (IsNumberOf all) w.0.inner (inner_at schema fragments set) here.inner s i in
      (from.0, subst (In from.0) (sym (inner-are k w.0 w.1)) from.1, from.2)

  same-set : (o : Option (SetAt S C)) (s t : SetAt S C) → o ≡ Some s → o ≡ Some t → s ≡ t
  same-set o s t e f = cc

  -- ---- a set's piece

  has : (n k : ℕ) (set : SetAt S C) → slice_get all k ≡ Some set → height (written fragments set.selections) < n
      → (m : Member S C) → In m (members_at schema fragments settled set) → (f : PieceField S C) × StandsIn pieces k f × (f.member ≡ m)
  has zero k set at low m i = absurd (omega (arith, low))
  has (suc n) k set at low m i = elim (member-found schema fragments settled set m i) [
    | inl h ↦ (
        let g = field-piece k set at h.0 h.1 in
        (g.0, directly k g.0 (from-In g.0 (pieces.direct k) g.1), g.2 ∙ sym h.2)
        )
    | inr h ↦ (
        let q = inner-piece k set at h.0 h.1 in
        let less = inner-set-lower schema fragments settled set h.0 h.1 in
        let r = has n q.0 h.0 q.2 (omega (arith, less, low)) m h.2 in
        (r.0, in_fragment k q.0 r.0 (from-In q.0 (pieces.inner k) q.1) r.1, r.2)
        )
  ]

  only : (k : ℕ) (f : PieceField S C) → StandsIn pieces k f → (set : SetAt S C) → slice_get all k ≡ Some set → In f.member (members_at schema fragments settled set)
  only _ _ (directly k f i) set at =
      let there = field-there k f (to-In f (pieces.direct k) i) in
      let here : there.set ≡ set = same-set (slice_get all k) there.set set there.at at in
      subst (λ m. In m (members_at schema fragments settled set)) (sym there.member)
      (member-field schema fragments settled set there.field (subst (λ s. In there.field (fields_at s)) here there.within))
  only _ _ (in_fragment k q f i s) set at =
      let there = inner-there k q (to-In q (pieces.inner k) i) in
      let here : there.set ≡ set = same-set (slice_get all k) there.set set there.at at in
      member-inner schema fragments settled set there.inner f.member (subst (λ s. In there.inner (inner_at schema fragments s)) here there.within) (only q f s there.inner there.number)

  -- the piece of a number is its set, fragments written out
  pub piece-at : (k : ℕ) (set : SetAt S C) → slice_get all k ≡ Some set → IsPieceOf pieces k (members_at schema fragments settled set)
  piece-at k set at = record {
    has = λ m i. has (suc (height (written fragments set.selections))) k set at (omega arith) m (to-In m (members_at schema fragments settled set) i);
    only = λ f s. from-In f.member (members_at schema fragments settled set) (only k f s set at);
  }

  -- each field's own set is the piece of its number
  pub owns : (eq : S → S → Bool) → HasOwnPieces pieces eq schema.types
  owns eq p f i =
      let there = field-there p f (to-In f (pieces.direct p) i) in
      subst (λ m. IsPieceOf pieces f.own (members_below schema.types m)) (sym there.member) (piece-at f.own (own_set schema there.field) there.own)

  -- ---- the definitions' sets

  definition-is : (d : Definition S) → sets.set_of schema fragments d ≡ written_set fragments (definition_set schema d)
  definition-is (definition.Operation o) = refl
  definition-is (definition.Fragment f) = refl

  definition-at : (k : ℕ) (d : Definition S) → slice_get document k ≡ Some d → slice_get all k ≡ Some (definition_set schema d)
  definition-at k d e =
      sym (slice_get-take (length document) all k (slice_get_within document k d e))
      ∙ ap (λ xs. slice_get xs k) is.definitions
      ∙ slice_get-map (definition_set schema) document k
      ∙ ap (option_map (definition_set schema)) e

  -- the first pieces are the sets of the definitions
  pub root-piece : (k : ℕ) (d : Set S C) → k < length document → IsPieceOf pieces k (members_of schema.types (get_or (definition_sets schema document) k d))
  root-piece k d within = elim ((slice_get_cases document k).1) [
    | inl h ↦ (
        let there : get_or (definition_sets schema document) k d ≡ written_set fragments (definition_set schema h.0)
        = get_or_from_slice_get (definition_sets schema document) k (sets.set_of schema fragments h.0) d
        (slice_get-map (sets.set_of schema fragments) document k ∙ ap (option_map (sets.set_of schema fragments)) h.2) ∙ definition-is h.0 in
        subst (λ (s : Set S C). IsPieceOf pieces k (members_of schema.types s)) (sym there) (piece-at k (definition_set schema h.0) (definition-at k h.0 h.2))
        )
    | inr h ↦ absurd (omega (arith, within, h.0))
  ]

  -- each of these sets has one of the first numbers
  pub root-number : (set : Set S C) → Contains (definition_sets schema document) set → (k : ℕ) × (k < length document) × (get_or (definition_sets schema document) k set ≡ set)
  root-number set i = let lengths : length (definition_sets schema document) ≡ length document = length-map document (sets.set_of schema fragments) in (i.0, omega (arith, lengths, i.1), i.2)

  -- ---- each set of the document

  members-are : (ws : List (WrittenField S C)) (fs : List (FieldAt S C)) → AllZip (IsFieldOf all schema) ws fs
      → map (λ (f : PieceField S C). f.member) (map (piece_field fragments) ws) ≡ map (member_of fragments) fs
  members-are [] [] h = refl
  members-are [] (f ∷ fs) h = absurd h
  members-are (w ∷ ws) [] h = absurd h
  members-are (w ∷ ws) (f ∷ fs) h = (let head = meant w f h.0 in let tails = members-are ws fs h.1 in λ i. head i ∷ tails i)

  directs-there : (k : ℕ) (set : SetAt S C) → slice_get all k ≡ Some set → map (λ (f : PieceField S C). f.member) (pieces.direct k) ≡ directs_of schema.types (written_set fragments set)
  directs-there k set at =
      let w = written-at k set at in
      let here = is.each k w.0 set w.1 at in
      ap (map (λ (f : PieceField S C). f.member)) (directs-are k w.0 w.1) ∙ members-are w.0.fields (fields_at set) here.fields ∙ sym (directs-at schema fragments settled set)

  -- `P`: what is true of the numbers of the definitions, of those of the fragments in a piece, and of the own sets of its fields
  module _ (P : ℕ → Type 0) (inner : (p q : ℕ) → P p → Contains (pieces.inner p) q → P q) (own : (p : ℕ) (f : PieceField S C) → P p → Contains (pieces.direct p) f → P f.own)
      (roots : (k : ℕ) → k < length document → P k) where
    -- a piece has the fields that stand directly in the set; of a set that selects from an unknown type there are none
    abbrev pub Found : Set S C → Type 0
    Found set = ((p : ℕ) × P p × (map (λ (f : PieceField S C). f.member) (pieces.direct p) ≡ directs_of schema.types set)) ⊎ (directs_of schema.types set ≡ [])

    each : (n k : ℕ) (at : SetAt S C) → slice_get all k ≡ Some at → P k → height (written fragments at.selections) < n → (set : Set S C) → In set (sets_within schema fragments settled at) → Found set
    each zero k at e p low set i = absurd (omega (arith, low))
    each (suc n) k at e p low set (inl same) = inl (k, p, directs-there k at e ∙ ap (directs_of schema.types) (sym same))
    each (suc n) k at e p low set (inr i) = elim (set-found schema fragments settled at set i) [
      | inl nothing ↦ inr nothing
      | inr found ↦ elim found [
        | inl h ↦ (
            let f = field-piece k at e h.0 h.1 in
            let less = own-lower schema fragments settled at h.0 h.1 in
            each n f.0.own (own_set schema h.0) f.3 (own k f.0 p (from-In f.0 (pieces.direct k) f.1)) (omega (arith, less, low)) set h.2
            )
        | inr h ↦ (
            let q = inner-piece k at e h.0 h.1 in
            let less = inner-set-lower schema fragments settled at h.0 h.1 in
            each n q.0 h.0 q.2 (inner k q.0 p (from-In q.0 (pieces.inner k) q.1)) (omega (arith, less, low)) set h.2
            )
      ]
    ]

    -- each set of the document has such a piece
    pub each-set : (set : Set S C) → Contains (document_sets schema document) set → Found set
    each-set set i =
        let r = in-flat_map (sets_of schema.types) set (definition_sets schema document) (to-In set (document_sets schema document) i) in
        let d = in-map (sets.set_of schema fragments) r.0 document r.1 in
        let place = from-In d.0 document d.1 in
        let there : slice_get document place.0 ≡ Some d.0 = slice_get-get_or document place.0 d.0 place.1 ∙ ap (λ x. Some x) place.2 in
        each (suc (height (written fragments (definition_set schema d.0).selections))) place.0 (definition_set schema d.0) (definition-at place.0 d.0 there) (roots place.0 place.1) (omega arith) set
        (subst (λ (s : Set S C). In set (sets_of schema.types s)) (d.2 ∙ definition-is d.0) r.2)
