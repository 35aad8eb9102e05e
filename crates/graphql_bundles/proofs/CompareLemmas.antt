-- What is told of fields that are compared with one of their class.
use Rattle.std.proofs.Common.{◌≡◌, refl, ap, sym, subst, ◌∙◌, ℕ, ◌+◌, ◌<◌, take, length, get_or, Bool, true, false, not, ◌&&◌, List, [], ◌∷◌, ◌++◌, map, filter, Option, Some, None, append-nil, append_assoc, inl, inr}
use Rattle.std.specs.List.{Contains}
use Rattle.std.specs.Option.{is_some}
use Rattle.std.specs.Str.{bytes_eq}
use Rattle.std.proofs.lemmas.Bool.{false≢true}
use Rattle.std.proofs.lemmas.List.Elements.{Contains-append_cases}
use Rattle.graphql_text.specs.declared.position.SourcePosition.{SourcePosition}
use Rattle.graphql_names.specs.Names.{Bytes}
use Rattle.graphql_schema.specs.declared.meta.MetaType.{MetaType}
use Rattle.graphql_schema.specs.Types.{TypeOf}
use Rattle.graphql_schema.specs.Lookups.{own_name, is_object}
use Rattle.graphql_rule_errors.specs.Places.{Places}
use Rattle.graphql_tree.specs.declared.document.Fragment.{Fragment}
use Rattle.graphql_merging.specs.Members.{Member, declared}
use Rattle.graphql_merging.specs.Merging.{SameField, SameShapes, Agree, apart}
use Rattle.graphql_merging.specs.Pieces.{PieceField}
use Rattle.graphql_merging.specs.Selected.{member_of}
use Rattle.graphql_merging.specs.Tables.{piece_field}
use Rattle.graphql_merging.specs.Told.{Names, AddsErrors, Tells}
use Rattle.graphql_merging.specs.declared.table.WrittenField.{WrittenField}
use Rattle.graphql_merging.proofs.DirectFields.{In, to-In, from-In, tells-named, tells-sound}
use Rattle.graphql_merging.proofs.Nested.{in-nothing}
use Rattle.graphql_merging.proofs.Standing.{agreement-is-mutual, agree-under}
use Rattle.graphql_bundles.specs.Bundles.{GroupPart, of_object, parts, in_part}
use Rattle.graphql_bundles.specs.Steps.{Compares, AreShaped, ArePartNamed, IsFoundOf}
use Rattle.graphql_bundles.specs.Groups.{IsFoundAt, is_of, is_declared, names_in}
use Rattle.graphql_bundles.proofs.ListLemmas.{map_has, map_of, filter_has, filter_of, take-cases}
use Rattle.graphql_bundles.proofs.PartLemmas.{of-name}
use Rattle.graphql_bundles.proofs.PartCases.{part-cases}
use Rattle.graphql_bundles.proofs.NameLemmas.{name-there}

pub compares-none : (F : List SourcePosition → Type 0) (P : Type 0) (old : Places) → P → Compares F P old old
compares-none F P old p = record { errors = []; told = sym (append-nil old); found = (λ e i. in-nothing e i); done = (λ e. p) }

pub compares-weaker : (F G : List SourcePosition → Type 0) (P Q : Type 0) (old new : Places) → ((e : List SourcePosition) → F e → G e) → (P → Q)
    → Compares F P old new → Compares G Q old new
compares-weaker F G P Q old new f p h = record { errors = h.errors; told = h.told; found = (λ e i. f e (h.found e i)); done = (λ e. p (h.done e)) }

no-rest : (xs ys : Places) → xs ++ ys ≡ [] → (xs ≡ []) × (ys ≡ [])
no-rest [] ys e = (refl, e)
no-rest (x ∷ xs) ys e = cc

pub compares-both : (F : List SourcePosition → Type 0) (P Q : Type 0) (old mid new : Places) → Compares F P old mid → Compares F Q mid new
    → Compares F (P × Q) old new
compares-both F P Q old mid new f g = record {
  errors = f.errors ++ g.errors;
  told = g.told ∙ ap (λ es. es ++ g.errors) f.told ∙ append_assoc old f.errors g.errors;
  found = (λ e i. elim (Contains-append_cases f.errors g.errors e i) [ inl j ↦ f.found e j | inr j ↦ g.found e j ]);
  done = (λ e. let n = no-rest f.errors g.errors e in (f.done n.0, g.done n.1));
}

module _ {S C : Type 0} (eq : S → S → Bool) (types : List (MetaType S C)) (fragments : List (Fragment S)) where
  abbrev at : WrittenField S C → Member S C
  at f = member_of fragments f.selected

  abbrev pub Pair : Type 0
  Pair = Member S C × Member S C

  abbrev beside : WrittenField S C → WrittenField S C → Pair
  beside h f = (at h, at f)

  -- one field is compared with others
  module _ (x : Bool) (h : WrittenField S C) where
    abbrev pub Differs : List (WrittenField S C) → List SourcePosition → Type 0
    Differs gs e = (f : WrittenField S C) × Contains gs f × (Agree eq types x (at h) (at f) → ⊥) × Names e (at h) (at f)

    abbrev pub AllAgree : List (WrittenField S C) → Type 0
    AllAgree gs = (f : WrittenField S C) → Contains gs f → Agree eq types x (at h) (at f)

    found-with : (gs : List (WrittenField S C)) (e : List SourcePosition)
        → (a : Member S C) × (b : Member S C) × In {X = Pair} (a, b) (map {B = Pair} (beside h) gs) × (Agree eq types x a b → ⊥) × Names e a b → Differs gs e
    found-with gs e r =
        let m = map_of {B = Pair} (beside h) gs (r.0, r.1) (from-In {X = Pair} (r.0, r.1) (map {B = Pair} (beside h) gs) r.2) in (
          m.0,
          m.1,
          subst (λ (p : Pair). Agree eq types x p.0 p.1 → ⊥) (sym m.2) r.3,
          subst (λ (p : Pair). Names e p.0 p.1) (sym m.2) r.4,
        )

    agree-with : (gs : List (WrittenField S C)) (es : Places) → Tells (Agree eq types x) (map {B = Pair} (beside h) gs) es → es ≡ [] → AllAgree gs
    agree-with gs es tells none f i =
        elim (tells-named (Agree eq types x) (map {B = Pair} (beside h) gs) es tells (at h) (at f)
        (to-In {X = Pair} (at h, at f) (map {B = Pair} (beside h) gs) (map_has {B = Pair} (beside h) gs f i))) [
          | inl agree ↦ agree
          | inr named ↦ (let k = subst (λ ds. Contains ds named.1) none (named.0, named.2, named.3) in in-nothing named.1 k)
        ]

    pub compares-with : (gs : List (WrittenField S C)) (old new : Places) → AddsErrors (Agree eq types x) (map {B = Pair} (beside h) gs) old new
        → Compares (Differs gs) (AllAgree gs) old new
    compares-with gs old new adds = record {
      errors = adds.0;
      told = adds.1;
      found = (λ e i. found-with gs e (tells-sound (Agree eq types x) (map {B = Pair} (beside h) gs) adds.0 adds.2 e (to-In e adds.0 i)));
      done = (λ none. agree-with gs adds.0 adds.2 none);
    }

  abbrev fields : List (WrittenField S C) → List (PieceField S C)
  fields = map (piece_field fragments)

  -- fields of a group that differ from one of them
  of-group : (x y : Bool) (h : WrittenField S C) (gs group : List (WrittenField S C)) → (x ≡ true → y ≡ true) → Contains group h
      → ((f : WrittenField S C) → Contains gs f → Contains group f) → (e : List SourcePosition) → Differs y h gs e → IsFoundOf eq types x (fields group) e
  of-group x y h gs group le i sub e r = (
    piece_field fragments h,
    piece_field fragments r.0,
    map_has (piece_field fragments) group h i,
    map_has (piece_field fragments) group r.0 (sub r.0 r.1),
    λ agree. r.2 (agree-under eq types y x (at h) (at r.0) le agree),
    r.3,
  )

  known : (o : Option TypeOf) → is_some o ≡ true → (s : TypeOf) × (o ≡ Some s)
  known None e = absurd (false≢true e)
  known (Some s) e = (s, refl)

  unknown : (o : Option TypeOf) → is_some o ≡ false → o ≡ None
  unknown None e = refl
  unknown (Some s) e = absurd (false≢true (sym e))

  -- shapes: none is declared
  pub shapes-none : (group : List (WrittenField S C)) (old : Places) → IsFoundAt is_declared group None
      → Compares (IsFoundOf eq types true (fields group)) (AreShaped types (fields group)) old old
  shapes-none group old none = compares-none (IsFoundOf eq types true (fields group)) (AreShaped types (fields group)) old (
    None,
    λ f i. let m = map_of (piece_field fragments) group f i in
        subst (λ (g : PieceField S C). declared g.member ≡ None) m.2 (unknown (declared (at m.0)) (none m.0 m.1)),
  )

  -- all are compared with the first that is
  pub shapes-some : (group : List (WrittenField S C)) (h : WrittenField S C) (old new : Places) → Contains group h → is_declared h ≡ true
      → AddsErrors (Agree eq types true) (map {B = Pair} (beside h) group) old new
      → Compares (IsFoundOf eq types true (fields group)) (AreShaped types (fields group)) old new
  shapes-some group h old new here is adds =
      compares-weaker (Differs true h group) (IsFoundOf eq types true (fields group)) (AllAgree true h group) (AreShaped types (fields group)) old new
      (of-group true true h group group (λ e. e) here (λ f i. i)) shaped (compares-with true h group old new adds)
    where
      shaped : AllAgree true h group → AreShaped types (fields group)
      shaped agree =
          let s = known (declared (at h)) is in (
            Some s.0,
            λ f i. let m = map_of (piece_field fragments) group f i in
                subst (λ (g : PieceField S C). SameShapes types (declared g.member) (Some s.0)) m.2
                (subst (SameShapes types (declared (at m.0))) s.1 (agreement-is-mutual S C eq types true (at h) (at m.0) (agree m.0 m.1)).1),
          )

  same-of : (h f : Member S C) → apart f h ≡ false → Agree eq types false h f → SameField eq types f h
  same-of h f e agree = (agreement-is-mutual S C eq types false h f agree).0 e

  -- names and arguments: no field is in the part
  pub part-none : (group : List (WrittenField S C)) (name : Bytes) (old : Places) → filter (is_of (Some name)) group ≡ []
      → Compares (IsFoundOf eq types false (fields group)) (ArePartNamed eq types (fields group) (of_object name)) old old
  part-none group name old none = compares-none (IsFoundOf eq types false (fields group)) (ArePartNamed eq types (fields group) (of_object name)) old
      (λ f i. (
        f.member,
        λ g j u. let m = map_of (piece_field fragments) group g j in
            let k = filter_has (is_of (Some name)) group m.0 m.1 (ap (λ (p : PieceField S C). in_part (of_object name) p.member) m.2 ∙ u) in
            in-nothing m.0 (subst (λ fs. Contains fs m.0) none k),
      ))

  -- the fields of the part are compared with one of it
  pub part-some : (group : List (WrittenField S C)) (name : Bytes) (h : WrittenField S C) (part : List (WrittenField S C)) (old new : Places)
      → part ≡ filter (is_of (Some name)) group → Contains part h → AddsErrors (Agree eq types false) (map {B = Pair} (beside h) part) old new
      → Compares (IsFoundOf eq types false (fields group)) (ArePartNamed eq types (fields group) (of_object name)) old new
  part-some group name h part old new is i adds =
      compares-weaker (Differs false h part) (IsFoundOf eq types false (fields group)) (AllAgree false h part)
      (ArePartNamed eq types (fields group) (of_object name)) old new
      (of-group false false h part group (λ e. e) (of h i).0 (λ f j. (of f j).0)) named (compares-with false h part old new adds)
    where
      of : (f : WrittenField S C) → Contains part f → Contains group f × (is_of (Some name) f ≡ true)
      of f j = filter_of (is_of (Some name)) group f (subst (λ fs. Contains fs f) is j)

      named : AllAgree false h part → ArePartNamed eq types (fields group) (of_object name)
      named agree _ _ = (
        at h,
        λ g j u. let m = map_of (piece_field fragments) group g j in
            let v : is_of (Some name) m.0 ≡ true = ap (λ (p : PieceField S C). in_part (of_object name) p.member) m.2 ∙ u in
            let k = subst (λ fs. Contains fs m.0) (sym is) (filter_has (is_of (Some name)) group m.0 m.1 v) in
            let parents = of-name name (is_object (at m.0).parent) (own_name (at m.0).parent) (is_object (at h).parent) (own_name (at h).parent) v (of h i).1 in
            subst (λ (p : PieceField S C). SameField eq types p.member (at h)) m.2 (same-of (at h) (at m.0) parents (agree m.0 k)),
      )

  abbrev pub EachPart : List (WrittenField S C) → List Bytes → Type 0
  EachPart group names = (part : GroupPart) → Contains (parts false names) part → part.around ≡ false → ArePartNamed eq types (fields group) part

  -- all are compared with one whose parent is no object type
  pub names-some : (group : List (WrittenField S C)) (names : List Bytes) (h : WrittenField S C) (old new : Places)
      → Contains group h → not (is_object h.selected.parent.now) ≡ true → AddsErrors (Agree eq types false) (map {B = Pair} (beside h) group) old new
      → Compares (IsFoundOf eq types false (fields group)) (EachPart group names) old new
  names-some group names h old new here is adds =
      compares-weaker (Differs false h group) (IsFoundOf eq types false (fields group)) (AllAgree false h group) (EachPart group names) old new
      (of-group false false h group group (λ e. e) here (λ f i. i)) named (compares-with false h group old new adds)
    where
      never : (p o : Bool) (same : Bool) → not o ≡ true → ((p && o) && not same) ≡ false
      never true true same e = absurd (false≢true e)
      never true false same e = refl
      never false o same e = refl

      named : AllAgree false h group → EachPart group names
      named agree part _ _ _ _ = (
        at h,
        λ g j u. let m = map_of (piece_field fragments) group g j in
            let parents = never (is_object (at m.0).parent) (is_object (at h).parent) (bytes_eq (own_name (at m.0).parent) (own_name (at h).parent)) is in
            subst (λ (p : PieceField S C). SameField eq types p.member (at h)) m.2 (same-of (at h) (at m.0) parents (agree m.0 m.1)),
      )

  -- the fields of each object type are
  pub names-none : (group : List (WrittenField S C)) (names : List Bytes) (old new : Places) → names ≡ names_in group
      → IsFoundAt (λ f. not (is_object f.selected.parent.now)) group None
      → Compares (IsFoundOf eq types false (fields group)) ((name : Bytes) → Contains names name → ArePartNamed eq types (fields group) (of_object name)) old new
      → Compares (IsFoundOf eq types false (fields group)) (EachPart group names) old new
  names-none group names old new are none h =
      compares-weaker (IsFoundOf eq types false (fields group)) (IsFoundOf eq types false (fields group))
      ((name : Bytes) → Contains names name → ArePartNamed eq types (fields group) (of_object name)) (EachPart group names) old new (λ e i. i) each h
    where
      object : (o : Bool) → not o ≡ false → o ≡ true
      object true e = refl
      object false e = absurd (false≢true (sym e))

      each : ((name : Bytes) → Contains names name → ArePartNamed eq types (fields group) (of_object name)) → EachPart group names
      each all part i e f j =
          let m = map_of (piece_field fragments) group f j in
          let there = subst (λ ns. Contains ns (own_name (at m.0).parent)) (sym are) (name-there group m.0 m.1 (object (is_object (at m.0).parent) (none m.0 m.1))) in
          let c = part-cases names part (own_name (at m.0).parent) there i e in
          subst (ArePartNamed eq types (fields group)) (sym c.2) (all c.0 c.1) f j

  -- the parts of some object types
  abbrev pub SomeParts : List (WrittenField S C) → List Bytes → Type 0
  SomeParts group names = (name : Bytes) → Contains names name → ArePartNamed eq types (fields group) (of_object name)

  pub parts-first : (group : List (WrittenField S C)) (old : Places) → Compares (IsFoundOf eq types false (fields group)) (SomeParts group []) old old
  parts-first group old = compares-none (IsFoundOf eq types false (fields group)) (SomeParts group []) old (λ name i. in-nothing name i)

  pub parts-more : (group : List (WrittenField S C)) (names : List Bytes) (i : ℕ) (name same : Bytes) (old mid new : Places) → i < length names → name ≡ get_or names i name
      → same ≡ name → Compares (IsFoundOf eq types false (fields group)) (SomeParts group (take i names)) old mid
      → Compares (IsFoundOf eq types false (fields group)) (ArePartNamed eq types (fields group) (of_object same)) mid new
      → Compares (IsFoundOf eq types false (fields group)) (SomeParts group (take (i + 1) names)) old new
  parts-more group names i name same old mid new within is e f h =
      compares-weaker (IsFoundOf eq types false (fields group)) (IsFoundOf eq types false (fields group))
      (SomeParts group (take i names) × ArePartNamed eq types (fields group) (of_object same)) (SomeParts group (take (i + 1) names)) old new (λ d k. k) joins
      (compares-both (IsFoundOf eq types false (fields group)) (SomeParts group (take i names)) (ArePartNamed eq types (fields group) (of_object same)) old mid new f h)
    where
      joins : SomeParts group (take i names) × ArePartNamed eq types (fields group) (of_object same) → SomeParts group (take (i + 1) names)
      joins both n j = elim (take-cases names i name within is n j) [
        | inl k ↦ both.0 n k
        | inr q ↦ subst (λ m. ArePartNamed eq types (fields group) (of_object m)) (e ∙ q) both.1
      ]
