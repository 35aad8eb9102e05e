-- The parts that stem from a request, kind by kind.
use Rattle.std.proofs.Common.{◌≡◌, ◌⊎◌, refl, sym, ap, subst, Bool, false, List, map, inl, inr}
use Rattle.std.proofs.lemmas.Bool.{false≢true}
use Rattle.graphql_scalars.specs.ScalarAnswers.{ScalarAnswer}
use Rattle.graphql_values.specs.InputValues.{Placed}
use Rattle.graphql_tree.specs.Unlocated.{unlocated_name}
use Rattle.graphql_tree.specs.declared.document.Definition.{Definition}
use Rattle.graphql_tree.specs.declared.document.Operation.{Operation}
use Rattle.graphql_schema.specs.declared.directive_location.DirectiveLocation.TheVariants as location
use Rattle.graphql_schema.specs.Declarations.{Declarations}
use Rattle.graphql_names.specs.Names.{Bytes}
use Rattle.graphql_occurrences.specs.Parts.{Part, VariablePart, FieldPart, InlinePart, SpreadPart, DirectivePart, GivenPart, Use, VariableDefined, Condition, AField, ASpread, AnInline, ADirective, Given, ObjectOf, VariableUsed}
use Rattle.graphql_occurrences.specs.Unlocated.{unlocated_part, unlocated_variable_part}
use Rattle.graphql_plain_validity.specs.PartLaws.{PlainKindsStem}
use Rattle.graphql_plain_validity.specs.PartKinds.{IsStandIns, IsGivenOf, IsInlineOf, IsReachedAs, unplaced_directive, unplaced_field, unplaced_given, unplaced_inline, unplaced_use}
use Rattle.graphql_plain_validity.specs.StemmingParts.{IsMade, Reaches, Stems, goes_away, skip_at}
use Rattle.graphql_plain_validity.proofs.PlainDocumentParts.{plain-parts-stem}

module _ {S C : Type 0} where
  -- the part is of the kind, and the same without its places
  abbrev Like : {X Y : Type 0} → (X → Part S C) → (X → Y) → Part S C → X → Type 0
  Like {X} kind see x a = (b : X) × (x ≡ kind b) × (see a ≡ see b)

  abbrev field_or : FieldPart S C → Part S C → FieldPart S C
  field_or f (AField g) = g
  field_or f _ = f

  like-field : (x : Part S C) (f : FieldPart S C) → unlocated_part (AField f) ≡ unlocated_part x
      → Like AField unplaced_field x f
  like-field (AField g) f e = (g, refl, ap (field_or f) e)
  like-field _ f e = absurd (cc)

  abbrev name_or : Placed Bytes → Part S C → Placed Bytes
  name_or n (Condition m) = m
  name_or n _ = n

  like-condition : (x : Part S C) (n : Placed Bytes)
      → unlocated_part (Condition n) ≡ unlocated_part x → Like Condition unlocated_name x n
  like-condition (Condition m) n e = (m, refl, ap (name_or n) e)
  like-condition _ n e = absurd (cc)

  like-spread : (x : Part S C) (s : SpreadPart S C) → unlocated_part (ASpread s) ≡ unlocated_part x
      → (t : SpreadPart S C) × (x ≡ ASpread t)
  like-spread (ASpread t) s e = (t, refl)
  like-spread _ s e = absurd (cc)

  abbrev inline_or : InlinePart S C → Part S C → InlinePart S C
  inline_or i (AnInline j) = j
  inline_or i _ = i

  like-inline : (x : Part S C) (i : InlinePart S C) → unlocated_part (AnInline i) ≡ unlocated_part x
      → Like AnInline unplaced_inline x i
  like-inline (AnInline j) i e = (j, refl, ap (inline_or i) e)
  like-inline _ i e = absurd (cc)

  abbrev directive_or : DirectivePart S → Part S C → DirectivePart S
  directive_or d (ADirective e) = e
  directive_or d _ = d

  like-directive : (x : Part S C) (d : DirectivePart S)
      → unlocated_part (ADirective d) ≡ unlocated_part x → Like ADirective unplaced_directive x d
  like-directive (ADirective f) d e = (f, refl, ap (directive_or d) e)
  like-directive _ d e = absurd (cc)

  abbrev given_or : GivenPart S → Part S C → GivenPart S
  given_or g (Given h) = h
  given_or g _ = g

  like-given : (x : Part S C) (g : GivenPart S) → unlocated_part (Given g) ≡ unlocated_part x
      → Like Given unplaced_given x g
  like-given (Given h) g e = (h, refl, ap (given_or g) e)
  like-given _ g e = absurd (cc)

  abbrev names_or : List (Placed Bytes) → Part S C → List (Placed Bytes)
  names_or ns (ObjectOf ms) = ms
  names_or ns _ = ns

  like-object : (x : Part S C) (ns : List (Placed Bytes))
      → unlocated_part (ObjectOf ns) ≡ unlocated_part x → Like ObjectOf (map unlocated_name) x ns
  like-object (ObjectOf ms) ns e = (ms, refl, ap (names_or ns) e)
  like-object _ ns e = absurd (cc)

  abbrev use_or : Use → Part S C → Use
  use_or u (VariableUsed v) = v
  use_or u _ = u

  pub like-use : (x : Part S C) (u : Use) → unlocated_part (VariableUsed u) ≡ unlocated_part x
      → Like VariableUsed unplaced_use x u
  like-use (VariableUsed v) u e = (v, refl, ap (use_or u) e)
  like-use _ u e = absurd (cc)

  abbrev variable_or : VariablePart S → Part S C → VariablePart S
  variable_or v (VariableDefined w) = w
  variable_or v _ = v

  like-variable : (x : Part S C) (v : VariablePart S)
      → unlocated_part (VariableDefined v) ≡ unlocated_part x
      → Like VariableDefined unlocated_variable_part x v
  like-variable (VariableDefined w) v e = (w, refl, ap (variable_or v) e)
  like-variable _ v e = absurd (cc)

module _ {S C : Type 0} (schema : Declarations S C) (document : List (Definition S))
    (o : Placed (Operation S)) (of_bool : Bool → S) where
  abbrev R : Part S C → Type 0
  R = Reaches schema document o

  abbrev Source : Part S C → Type 0
  Source x = (R x × (goes_away x ≡ false)) ⊎ IsMade schema document o of_bool x

  abbrev As : {X Y : Type 0} → (X → Part S C) → (X → Y) → X → Type 0
  As kind see a = IsReachedAs schema document o kind see a

  -- of a kind of which none is made
  module _ {X Y : Type 0} (kind : X → Part S C) (see : X → Y)
      (made-none : (b : X) → IsMade schema document o of_bool (kind b) → ⊥) where
    reached : (a : X) (z : Stems schema document o of_bool (kind a)) → Like kind see z.part a
        → As kind see a
    reached a z like =
        elim
        (subst Source like.1 z.source) [
          | inl r ↦ (like.0, r.0, like.2)
          | inr m ↦
              absurd (made-none like.0 m)
        ]

  pub field-stems : (f : FieldPart S C) → Stems schema document o of_bool (AField f)
      → As AField unplaced_field f
  field-stems f z = reached AField unplaced_field (λ b m. m) f z (like-field z.part f z.same)

  pub condition-stems : (n : Placed Bytes) → Stems schema document o of_bool (Condition n)
      → As Condition unlocated_name n
  condition-stems n z =
      reached Condition unlocated_name (λ b m. m) n z (like-condition z.part n z.same)

  pub object-stems : (ns : List (Placed Bytes)) → Stems schema document o of_bool (ObjectOf ns)
      → As ObjectOf (map unlocated_name) ns
  object-stems ns z =
      reached ObjectOf (map unlocated_name) (λ b m. m) ns z (like-object z.part ns z.same)

  pub use-stems : (u : Use) → Stems schema document o of_bool (VariableUsed u)
      → As VariableUsed unplaced_use u
  use-stems u z = reached VariableUsed unplaced_use (λ b m. m) u z (like-use z.part u z.same)

  pub variable-stems : (v : VariablePart S) → Stems schema document o of_bool (VariableDefined v)
      → As VariableDefined unlocated_variable_part v
  variable-stems v z =
      reached VariableDefined unlocated_variable_part (λ b m. m) v z (like-variable z.part v z.same)

  -- no spread is left
  pub no-spread-stems : (s : SpreadPart S C) → Stems schema document o of_bool (ASpread s) → ⊥
  no-spread-stems s z =
      let like = like-spread z.part s z.same in
      elim (subst Source like.1 z.source) [ inl r ↦ false≢true (sym r.1) | inr m ↦ m ]

  pub inline-stems : (i : InlinePart S C) → Stems schema document o of_bool (AnInline i)
      → IsInlineOf schema document o i
  inline-stems i z =
      let like = like-inline z.part i z.same in
      elim
      (subst Source like.1 z.source) [
        | inl r ↦ inl (like.0, r.0, like.2)
        | inr m ↦
            inr (like.0, m, like.2)
      ]

  pub directive-stems : (d : DirectivePart S) → Stems schema document o of_bool (ADirective d)
      → IsStandIns schema document o d
  directive-stems d z =
      let like = like-directive z.part d z.same in
      let same = λ (e : DirectivePart S) (is : like.0 ≡ e).
      subst (λ x. unplaced_directive d ≡ unplaced_directive x) is like.2 in
      elim (subst Source like.1 z.source) [
        | inl r ↦ absurd (false≢true (sym r.1))
        | inr (inl m) ↦ inl (same (skip_at schema location.Field) m)
        | inr (inr m) ↦ inr (same (skip_at schema location.InlineFragment) m)
      ]

  pub given-stems : (g : GivenPart S) → Stems schema document o of_bool (Given g)
      → IsGivenOf schema document o of_bool g
  given-stems g z =
      let like = like-given z.part g z.same in
      elim
      (subst Source like.1 z.source) [
        | inl r ↦ inl (like.0, r.0, like.2)
        | inr m ↦
            inr (subst (λ x. unplaced_given g ≡ unplaced_given x) m like.2)
      ]

pub plain-kinds-stem : (S C : Type 0) (answer : S → ScalarAnswer) (of_bool : Bool → S)
    → PlainKindsStem S C answer of_bool
plain-kinds-stem S C answer of_bool schema document again is =
    let o = is.operation in
    let stems = plain-parts-stem S C answer of_bool schema document again is in
    record {
      variables = λ v i. variable-stems schema document o of_bool v (stems (VariableDefined v) i);
      conditions = λ n i. condition-stems schema document o of_bool n (stems (Condition n) i);
      fields = λ f i. field-stems schema document o of_bool f (stems (AField f) i);
      no_spreads = λ s i. no-spread-stems schema document o of_bool s (stems (ASpread s) i);
      inlines = λ n i. inline-stems schema document o of_bool n (stems (AnInline n) i);
      directives = λ d i. directive-stems schema document o of_bool d (stems (ADirective d) i);
      givens = λ g i. given-stems schema document o of_bool g (stems (Given g) i);
      objects = λ ns i. object-stems schema document o of_bool ns (stems (ObjectOf ns) i);
      uses = λ u i. use-stems schema document o of_bool u (stems (VariableUsed u) i);
    }
