-- What the scopes that are lent stand for.
use Rattle.std.specs.Prelude.{map}
use Rattle.std.specs.Option.{option_map}
use Rattle.graphql_occurrences.specs.Lent.{lent_input}
use Rattle.graphql_occurrences.specs.Occurrences.{variable_part}
use Rattle.graphql_occurrences.specs.Parts as part
use Rattle.graphql_rules_document.specs.Scopes as spec
use Rattle.graphql_rules_document.specs.declared.scopes.FragmentScope.{FragmentScope}
use Rattle.graphql_rules_document.specs.declared.scopes.OperationScope.{OperationScope}
use Rattle.graphql_rules_document.specs.declared.scopes.Scopes.{Scopes}
use Rattle.graphql_rules_document.specs.declared.scopes.Spread.{Spread}
use Rattle.graphql_rules_document.specs.declared.scopes.Use.{Use}

-- the use of a variable that a lent one stands for
abbrev pub use_of : Use → part.Use
use_of u = record { name = u.name.now; place = u.place; at = option_map lent_input u.at }

-- the spread that a lent one stands for
abbrev pub spread_of : Spread → spec.Spread
spread_of s = record { name = s.name.now; place = s.place }

-- the scope of a fragment that a lent one stands for
abbrev pub fragment_of : FragmentScope → spec.FragmentScope
fragment_of f = record {
  name = f.name.now;
  place = f.place;
  uses = map use_of f.uses;
  spreads = map spread_of f.spreads;
}

module _ {S : Type 0} where
  -- the scope of an operation that a lent one stands for
  abbrev pub operation_of : OperationScope S → spec.OperationScope S
  operation_of o = record {
    name = option_map (λ n. n.now) o.name;
    place = o.place;
    defined = map variable_part o.defined.now;
    uses = map use_of o.uses;
    spreads = map spread_of o.spreads;
  }

  -- the scopes that lent ones stand for
  abbrev pub scopes_told : Scopes S → spec.Scopes S
  scopes_told s =
      record { operations = map operation_of s.operations; fragments = map fragment_of s.fragments }
