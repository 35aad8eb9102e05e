-- The selection set of a plain document, written out (GraphQL October 2021, 2.7 Field Alias).
use Rattle.std.specs.Prelude.{◌≡◌, false}
use Rattle.graphql_text.specs.Position.{origin}
use Rattle.graphql_written_out.specs.Trees.{Tree, none, field, inline}

module _ {S : Type 0} where
  -- the same set, each field at no place
  abbrev pub unplaced_fields : Tree S → Tree S
  unplaced_fields none = none
  unplaced_fields (field head directives below rest) =
      field (record head { place = origin }) directives (unplaced_fields below)
      (unplaced_fields rest)
  unplaced_fields (inline on directives below rest) =
      inline on directives (unplaced_fields below) (unplaced_fields rest)

  -- the key of each field without an alias is its name
  abbrev pub IsKeyed : Tree S → Type 0
  IsKeyed none = Unit {0}
  IsKeyed (field head directives below rest) =
      (head.is_aliased ≡ false → head.key ≡ head.name) × IsKeyed below × IsKeyed rest
  IsKeyed (inline on directives below rest) = IsKeyed below × IsKeyed rest
