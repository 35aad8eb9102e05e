-- Names that stand more than once among fragments (GraphQL October 2021, 5.5.1.1 Fragment Name
-- Uniqueness).
use Rattle.std.specs.Prelude.{List, map}
use Rattle.graphql_rules_document.specs.Scopes.{FragmentScope}
use Rattle.graphql_rule_errors.specs.Places.{Places}
use Rattle.graphql_rule_errors.specs.Repeats.{Mention, repeats}

abbrev pub fragment_mention : FragmentScope → Mention
fragment_mention f = record { name = f.name; place = f.place }

-- each name that a second fragment has
abbrev pub unique_fragment_names_faults : List FragmentScope → Places
unique_fragment_names_faults fragments = repeats (map fragment_mention fragments)
