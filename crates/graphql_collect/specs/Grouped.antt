-- Fields of a document in groups, whatever its fragments.
use Rattle.std.specs.Prelude.{◌≡◌, List, [], ◌∷◌, ◌++◌, map, if◌then◌else◌}
use Rattle.std.specs.List.{list_any}
use Rattle.std.specs.Str.{bytes_eq}
use Rattle.graphql_tree.specs.declared.document.Fragment.{Fragment}
use Rattle.graphql_collected.specs.declared.collected_field.CollectedField.{CollectedField}
use Rattle.graphql_names.specs.Names.{Bytes}
use Rattle.graphql_written_out.specs.Written.{response_key}
use Rattle.graphql_written_out.specs.Fields.{Found}
use Rattle.graphql_collected.specs.Occurrences.{found_field}
use Rattle.graphql_written_out.specs.Groups.{groups}

-- fields of a document, lent
abbrev pub Lent : Type 0 → Type 0
Lent S = List (CollectedField S)

-- a key, and its fields
abbrev pub Group : Type 0 → Type 0
Group S = Bytes × Lent S

module _ {S : Type 0} where
  -- the fields of a group, their sets written out
  abbrev pub all_found : List (Fragment S) → Lent S → List (Found S)
  all_found fragments = map (λ x. found_field fragments x.field.now)

  -- a group, the sets of its fields written out
  abbrev pub group_found : List (Fragment S) → Group S → Bytes × List (Found S)
  group_found fragments g = (g.0, all_found fragments g.1)

  -- the response key of a field
  abbrev pub key_at : CollectedField S → Bytes
  key_at x = response_key x.field.now.item.alias x.field.now.item.name

  -- the groups, with an empty one for the field's key if it has none
  abbrev pub begun : CollectedField S → List (Group S) → List (Group S)
  begun x gs =
      if list_any (bytes_eq (key_at x)) (map (λ g. g.0) gs) then gs else gs ++ (key_at x, []) ∷ []

  -- a group takes the field of its key
  abbrev pub takes : CollectedField S → Group S → Group S
  takes x g = if bytes_eq (key_at x) g.0 then (g.0, g.1 ++ x ∷ []) else g

  -- the groups with the field
  abbrev pub put : CollectedField S → List (Group S) → List (Group S)
  put x gs = map (takes x) (begun x gs)

  abbrev pub IsGrouped : Lent S → List (Group S) → Type 0
  IsGrouped xs gs = (fragments : List (Fragment S))
      → map (group_found fragments) gs ≡ groups (all_found fragments xs)
