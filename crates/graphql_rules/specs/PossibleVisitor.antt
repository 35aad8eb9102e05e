-- What a visitor of the rule on possible spreads does at an event.
use Rattle.std.specs.Prelude.{◌≡◌}
use Rattle.graphql_rules.specs.PossibleByNames.{told_by_names}
use Rattle.graphql_rules.specs.declared.possible_fragment_spreads.PossibleFragmentSpreads.{PossibleFragmentSpreads}
use Rattle.graphql_schema.specs.Declarations.{declarations_of}
use Rattle.graphql_visitors.specs.Runs.{VisitorStep}

-- it keeps its schema, and tells what the rule says by the names of that schema's types
abbrev pub by_names : {S C : Type 0} → VisitorStep (PossibleFragmentSpreads S C) S C
by_names subject v e w told = (w.overlaps.schema ≡ v.overlaps.schema)
    × (told ≡ told_by_names (declarations_of v.overlaps.schema.now) subject e)
