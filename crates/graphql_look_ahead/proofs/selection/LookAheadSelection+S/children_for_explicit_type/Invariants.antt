use Rattle.std.proofs.Common.{◌≡◌, take}
use Rattle.std.specs.List.{filter}
use Rattle.graphql_look_ahead.specs.Applies.{applies_to}
use Rattle.graphql_look_ahead.specs.Told.{only, document_field}
use Rattle.graphql_look_ahead.proofs.selection.LookAheadSelection+S.children_for_explicit_type.Given as goal

abbrev pub invariant-loop-child : goal.invariant-loop-child
invariant-loop-child g l = l.children ≡ filter (λ child. applies_to l.type_name (only (document_field child))) (take l.child-index l.child-items)
