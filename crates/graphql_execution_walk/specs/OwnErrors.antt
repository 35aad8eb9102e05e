-- Why a place has no value of itself, whatever fails below it (GraphQL October 2021, 6.4.3 Value
-- Completion, 6.4.4 Handling Field Errors).
use Rattle.std.specs.Prelude.{Bool, true, false, List, [], ◌∷◌, Option, Some, None, Result, Ok, Err}
use Rattle.graphql_names.specs.Names.{Bytes}
use Rattle.graphql_names.specs.declared.type_modifier.TypeModifier.{TypeModifier}
use Rattle.graphql_names.specs.declared.type_modifier.TypeModifier.TheVariants as modifier
use Rattle.graphql_field_results.specs.declared.field_error.FieldError.{FieldError}
use Rattle.graphql_field_results.specs.declared.resolved.Resolved.{Resolved, out-Resolved}
use Rattle.graphql_field_results.specs.declared.resolved.Resolved.TheOpen.{Resolved-F}
use Rattle.graphql_semantics.specs.Completion.{misfit_error, own_null}

-- of a type's name, whether it is a leaf and which nodes can stand there
module _ {S N : Type 0} (name : Bytes) (is_leaf : Bool) (is_possible : N → Bool) where
  abbrev pub misfit_unless : Bool → Option (FieldError S)
  misfit_unless true = None
  misfit_unless false = Some (misfit_error name [])

  abbrev pub own_at_name : Resolved-F S N (Resolved S N) → Option (FieldError S)
  own_at_name Resolved-F.Null = None
  own_at_name (Resolved-F.Scalar scalar) = misfit_unless is_leaf
  own_at_name (Resolved-F.List items) = misfit_unless false
  own_at_name (Resolved-F.Node node) = misfit_unless (is_possible node)

  -- what is within a list is not the list's own
  abbrev pub own_at_list : List TypeModifier → Resolved-F S N (Resolved S N) → Option (FieldError S)
  own_at_list wraps Resolved-F.Null = None
  own_at_list wraps (Resolved-F.Scalar scalar) = Some (misfit_error name wraps)
  own_at_list wraps (Resolved-F.List items) = None
  own_at_list wraps (Resolved-F.Node node) = Some (misfit_error name wraps)

  abbrev pub own_at_required : Option (FieldError S) → Resolved-F S N (Resolved S N)
      → Option (FieldError S)
  own_at_required own Resolved-F.Null = Some own_null
  own_at_required own (Resolved-F.Scalar scalar) = own
  own_at_required own (Resolved-F.List items) = own
  own_at_required own (Resolved-F.Node node) = own

  -- of an answer at a type, by its wraps, the outermost first
  abbrev pub own_error : List TypeModifier → Resolved S N → Option (FieldError S)
  own_error [] r = own_at_name (out-Resolved S N r)
  own_error (modifier.NonNull ∷ wraps) r = own_at_required (own_error wraps r) (out-Resolved S N r)
  own_error (modifier.List size ∷ wraps) r =
      own_at_list (modifier.List size ∷ wraps) (out-Resolved S N r)

  -- a resolver's error is the place's own
  abbrev pub own_error_of : List TypeModifier → Result (Resolved S N) (FieldError S)
      → Option (FieldError S)
  own_error_of wraps (Ok r) = own_error wraps r
  own_error_of wraps (Err e) = Some e
