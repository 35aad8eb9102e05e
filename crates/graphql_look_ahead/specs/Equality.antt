-- Whether input values are equal: item by item and field by field in order, names and places
-- included.
use Rattle.std.specs.Prelude.{Bool, true, false, ◌&&◌, ◌==◌}
use Rattle.std.specs.Cmp.Lexicographic.{pointwise}
use Rattle.std.specs.Str.{bytes_eq}
use Rattle.graphql_text.specs.declared.position.SourcePosition.{SourcePosition}
use Rattle.graphql_text.specs.declared.position.Span.{Span}
use Rattle.graphql_values.specs.InputValues.{Placed, Pair}
use Rattle.graphql_values.specs.declared.input_value.InputValue.{InputValue, fold-InputValue}
use Rattle.graphql_values.specs.declared.input_value.InputValue.{out-InputValue}
use Rattle.graphql_values.specs.declared.input_value.InputValue.TheOpen.{InputValue-F}

abbrev pub same_position : SourcePosition → SourcePosition → Bool
same_position p q = (p.index == q.index) && ((p.line == q.line) && (p.column == q.column))

abbrev pub same_span : Span → Span → Bool
same_span s t = same_position s.start t.start && same_position s.end t.end

module _ {A B : Type 0} (same : A → B → Bool) where
  -- at the same place
  abbrev pub same_item : Placed A → Placed B → Bool
  same_item x y = same_span x.span y.span && same x.item y.item

  -- of the same name, at the same places
  abbrev pub same_field : Pair A → Pair B → Bool
  same_field p q = (bytes_eq p.0.item q.0.item && same_span p.0.span q.0.span) && same_item p.1 q.1

  -- one layer of a value against one of another: two of one form, equal in what they hold
  abbrev pub same_form : {S : Type 0} → (S → S → Bool) → InputValue-F S A → InputValue-F S B → Bool
  same_form scalars InputValue-F.Null InputValue-F.Null = true
  same_form scalars (InputValue-F.Scalar s) (InputValue-F.Scalar t) = scalars s t
  same_form scalars (InputValue-F.Enum m) (InputValue-F.Enum n) = bytes_eq m n
  same_form scalars (InputValue-F.Variable m) (InputValue-F.Variable n) = bytes_eq m n
  same_form scalars (InputValue-F.List xs) (InputValue-F.List ys) = pointwise same_item xs ys
  same_form scalars (InputValue-F.Object ps) (InputValue-F.Object qs) = pointwise same_field ps qs
  same_form scalars _ _ = false

module _ {S : Type 0} (scalars : S → S → Bool) where
  abbrev pub equal_layer : InputValue-F S (InputValue S → Bool) → InputValue S → Bool
  equal_layer layer other = same_form (λ equals v. equals v) scalars layer (out-InputValue S other)

  -- two values are equal, by an equality of scalars
  abbrev pub equal : InputValue S → InputValue S → Bool
  equal = fold-InputValue S (InputValue S → Bool) equal_layer
