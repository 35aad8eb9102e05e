-- Names that are mentioned more than once (GraphQL October 2021, 5.2.1.1 Operation Name Uniqueness,
-- 5.4.2 Argument Uniqueness, 5.5.1.1 Fragment Name Uniqueness, 5.6.3 Input Object Field Uniqueness,
-- 5.8.1 Variable Uniqueness).
use Rattle.std.specs.Prelude.{List, [], ◌∷◌, ◌++◌, Option}
use Rattle.std.specs.Option.{option_map, option_to_list}
use Rattle.graphql_names.specs.Names.{Bytes, named}
use Rattle.graphql_text.specs.declared.position.SourcePosition.{SourcePosition}
use Rattle.graphql_text.specs.declared.position.Span.{Span}
use Rattle.graphql_text.specs.declared.spanning.Spanning.{Spanning}
use Rattle.graphql_rule_errors.specs.Places.{Places}
use Rattle.graphql_rule_errors.specs.declared.mentions.LentMention.{LentMention}

-- a name where it is written
pub record Mention : Type 0 where
  pub name : Bytes
  pub place : SourcePosition

-- where a name is mentioned
abbrev pub mention : Spanning Bytes Span → Mention
mention name = record { name = name.item; place = name.span.start }

abbrev pub mention_lent : LentMention → Mention
mention_lent m = record { name = m.name.now; place = m.place }

-- a mention behind the first of its name, where there is one before it
abbrev pub behind_first : Option Mention → Mention → Places
behind_first first x = option_to_list (option_map (λ f. f.place ∷ x.place ∷ []) first)

abbrev pub repeats_behind : List Mention → List Mention → Places
repeats_behind before [] = []
repeats_behind before (x ∷ xs) =
    behind_first (named (λ y. y.name) before x.name) x ++ repeats_behind (before ++ x ∷ []) xs

-- each later mention of a name, with the first of that name
abbrev pub repeats : List Mention → Places
repeats = repeats_behind []
