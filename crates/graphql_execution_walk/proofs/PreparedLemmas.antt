-- What is known of fields.
use Rattle.std.proofs.Common.{◌≡◌, refl, sym, ◌∙◌, ap, subst, ◌⊎◌, inl, inr, ℕ, zero, suc, ◌+◌, List, [], ◌∷◌, ◌++◌, length, Option, Some, None, slice_get, option_copied, option_map, true, false}
use Rattle.std.specs.Option.{option_map_or}
use Rattle.std.specs.Borrow.{Bor}
use Rattle.std.specs.Prelude.{IfSome}
use Rattle.std.proofs.lemmas.List.{length-append}
use Rattle.graphql_names.specs.Names.{Bytes}
use Rattle.graphql_schema.specs.Types.{TypeOf}
use Rattle.graphql_collect.specs.Grouped.{Group}
use Rattle.graphql_collected.specs.declared.collected_field.CollectedField.{CollectedField}
use Rattle.graphql_collected.specs.declared.request.Request.{Request}
use Rattle.graphql_occurrences.specs.DeclaredLent.{literal_of}
use Rattle.graphql_written_out.specs.Trees.{Head}
use Rattle.graphql_written_out.specs.Written.{head_of}
use Rattle.graphql_execution_walk.specs.Engines.{arguments_given}
use Rattle.graphql_execution_walk.specs.FieldDeclarations.{declared_type, is_leaf_named}
use Rattle.graphql_execution_walk.specs.Prepared.{ArePrepared, IsPrepared, Prepares, asked_in, prepared_at}
use Rattle.graphql_execution_walk.specs.declared.prepared.Prepared.{Prepared}

-- one item more
pushed-at : {A : Type 0} (xs : List A) (x y : A) (i : ℕ) → slice_get (xs ++ x ∷ []) i ≡ Some y → (slice_get xs i ≡ Some y) ⊎ ((i ≡ length xs) × (y ≡ x))
pushed-at [] x y zero p = (let q : Some x ≡ Some y = p in inr (refl, cc))
pushed-at [] x y (suc i) p = (let q : None ≡ Some y = p in cc)
pushed-at (z ∷ zs) x y zero p = inl p
pushed-at (z ∷ zs) x y (suc i) p = later (pushed-at zs x y i p)
  where
    later : (slice_get zs i ≡ Some y) ⊎ ((i ≡ length zs) × (y ≡ x)) → (slice_get (z ∷ zs) (suc i) ≡ Some y) ⊎ ((suc i ≡ length (z ∷ zs)) × (y ≡ x))
    later (inl q) = inl q
    later (inr q) = inr (ap suc q.0, q.1)

pub length-more : {A : Type 0} (xs : List A) (x : A) (n : ℕ) → length xs ≡ n → length (xs ++ x ∷ []) ≡ n + 1
length-more xs x n is = length-append xs (x ∷ []) ∙ ap (λ m. m + 1) is

module _ {S C : Type 0} (request : Request S C) (object : Bytes) where
  pub none-known : (gs : List (Group S)) → ArePrepared (asked_in request) object gs []
  none-known gs i g p at there = (let q : None ≡ Some p = there in cc)

  known-at : (gs : List (Group S)) (ps : List Prepared) (h : Group S) (q : Prepared) → slice_get gs (length ps) ≡ Some h → IsPrepared (asked_in request) object h q → ArePrepared (asked_in request) object gs ps
      → (i : ℕ) (g : Group S) (p : Prepared) → slice_get gs i ≡ Some g → (slice_get ps i ≡ Some p) ⊎ ((i ≡ length ps) × (p ≡ q)) → IsPrepared (asked_in request) object g p
  known-at gs ps h q next is before i g p at (inl there) = before i g p at there
  known-at gs ps h q next is before i g p at (inr last) =
      let same : g ≡ h = (let r : Some g ≡ Some h = sym at ∙ ap (slice_get gs) last.0 ∙ next in cc) in
      subst (λ x. IsPrepared (asked_in request) object x p) (sym same) (subst (IsPrepared (asked_in request) object h) (sym last.1) is)

  -- of one group more
  pub more-known : (gs : List (Group S)) (ps : List Prepared) (h : Group S) (q : Prepared) → slice_get gs (length ps) ≡ Some h → IsPrepared (asked_in request) object h q → ArePrepared (asked_in request) object gs ps
      → ArePrepared (asked_in request) object gs (ps ++ q ∷ [])
  more-known gs ps h q next is before i g p at there = known-at gs ps h q next is before i g p at (pushed-at ps q p i there)

  -- what is known of a group is known of its first field
  pub first-known : (g : Group S) (x : CollectedField S) → Some x ≡ slice_get g.1 0 → (known : Option (Bor Prepared)) → IfSome known (λ p. IsPrepared (asked_in request) object g p.now)
      → IfSome known (λ p. Prepares (asked_in request) object (head_of x.field.now) p.now)
  first-known g x first None is = tt
  first-known g x first (Some p) is = is x first

  pub declared-known : (g : Group S) (x : CollectedField S) → Some x ≡ slice_get g.1 0 → (known : Option (Bor Prepared)) → IfSome known (λ p. IsPrepared (asked_in request) object g p.now)
      → IfSome known (λ p. declared_type request.schema.now.types object (head_of x.field.now).name ≡ Some (literal_of p.now.declared))
  declared-known g x first None is = tt
  declared-known g x first (Some p) is = (is x first).type

  -- what is known at the place of a group is known of it
  pub known-here : (gs : List (Group S)) (ps : Option (List Prepared)) (i : ℕ) (g : Group S) → IfSome ps (ArePrepared (asked_in request) object gs) → slice_get gs i ≡ Some g
      → (found : Option (Bor Prepared)) → option_copied found ≡ prepared_at ps i → IfSome found (λ p. IsPrepared (asked_in request) object g p.now)
  known-here gs ps i g are at None is = tt
  known-here gs None i g are at (Some p) is = (let q : Some p.now ≡ None = is in cc)
  known-here gs (Some all) i g are at (Some p) is = are i g p.now at (sym is)

  -- whether its type is a leaf
  pub leaf-known : (x : CollectedField S) (type : TypeOf) → declared_type request.schema.now.types object (head_of x.field.now).name ≡ Some type
      → (known : Option (Bor Prepared)) → IfSome known (λ p. Prepares (asked_in request) object (head_of x.field.now) p.now)
      → IfSome (option_map (λ (p : Bor Prepared). p.now.is_leaf) known) (λ told. told ≡ is_leaf_named request.schema.now.types type.name)
  leaf-known x type declared None is = tt
  leaf-known x type declared (Some p) is =
      let same : literal_of p.now.declared ≡ type = (let r : Some (literal_of p.now.declared) ≡ Some type = sym is.type ∙ declared in cc) in
      is.leaf ∙ ap (λ (t : TypeOf). is_leaf_named request.schema.now.types t.name) same

  -- whether none of its arguments has a value
  pub bare-known : (head : Head S) (known : Option (Bor Prepared)) → IfSome known (λ p. Prepares (asked_in request) object head p.now) → option_map_or (λ (p : Bor Prepared). p.now.is_bare) known false ≡ true
      → arguments_given request object head ≡ []
  bare-known head None is told = (let q : false ≡ true = told in cc)
  bare-known head (Some p) is told = is.bare told
