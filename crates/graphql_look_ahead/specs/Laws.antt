-- Laws of the children of lists of selections (GraphQL October 2021, 2.4 Selection Sets, 5.5.2.2
-- Fragment Spreads Must Not Form Cycles).
use Rattle.std.specs.Prelude.{◌≡◌, Bool, List, Option}
use Rattle.graphql_names.specs.Names.{Bytes}
use Rattle.graphql_tree.specs.declared.document.Fragment.{Fragment}
use Rattle.graphql_tree.specs.declared.selection.Selection.{Selection}
use Rattle.graphql_written_out.specs.Trees.{Directives}
use Rattle.graphql_written_out.specs.Written.{Settled}
use Rattle.graphql_look_ahead.specs.Children.{Ahead, Children, HasChildren}

-- where fragments are without a cycle, each list has children
abbrev pub ChildrenExist : Type 0 → Type 0
ChildrenExist S = (drops : Directives S → Bool) (fragments : List (Fragment S)) → Settled fragments
    → (only : Option Bytes) (set : List (Selection S)) → HasChildren drops fragments only set

-- no list has others besides
abbrev pub ChildrenAreUnique : Type 0 → Type 0
ChildrenAreUnique S = (drops : Directives S → Bool) (fragments : List (Fragment S))
    (only : Option Bytes) (set : List (Selection S)) (cs ds : List (Ahead S))
    → Children drops fragments only set cs → Children drops fragments only set ds → cs ≡ ds
