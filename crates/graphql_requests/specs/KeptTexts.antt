-- Texts that are kept as valid (GraphQL October 2021, 5 Validation).
use Rattle.std.specs.Prelude.{◌≡◌, Bool, true, false}
use Rattle.std.specs.HashSet.{contains_text}
use Rattle.std.specs.Option.{option_map_or}
use Rattle.std.specs.Str.{chars}
use Rattle.graphql_names.specs.Names.{Bytes}
use Rattle.graphql_schema.specs.declared.root_node.RootNode.{RootNode}
use Rattle.graphql_schema.specs.Declarations.{declarations_of}
use Rattle.graphql_requests.specs.Refusals.{IsValidText}
use Rattle.graphql_schema.specs.Scalars.{Scalars}
use Rattle.graphql_requests.specs.declared.valid_texts.ValidTexts.{ValidTexts}

-- whether a text of these bytes is kept
abbrev pub keeps : ValidTexts → Bytes → Bool
keeps valid text = option_map_or (λ texts. contains_text texts text) valid.texts false

-- by what scalars mean: of each text that is kept every document is valid for the root node
abbrev pub AreValid : {S C : Type 0} → Scalars S C → RootNode S C → ValidTexts → Type 0
AreValid s root valid =
    (text : Bytes) → keeps valid text ≡ true
    → IsValidText s (declarations_of root.schema) root.introspection_disabled (chars text)
