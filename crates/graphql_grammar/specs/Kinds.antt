-- The kinds of token that the grammar tells apart, and sets of them (GraphQL October 2021, appendix
-- B).
use Rattle.std.specs.Prelude.{ℕ, Bool, true, false, if◌then◌else◌, List, [], ◌∷◌, codes, ◌||◌, ◌&&◌}
use Rattle.std.specs.Prelude.{not}
use Rattle.std.specs.Str.{bytes_eq}
use Rattle.graphql_text.specs.declared.token.Token.{Token}
use Rattle.graphql_text.specs.declared.token.Token.TheVariants as t
use Rattle.graphql_grammar.specs.declared.kind.Kind.{Kind}
use Rattle.graphql_grammar.specs.declared.kind.Kind.TheVariants as k
use denote.Enum.Bare.{sameb}
use Rattle.graphql_grammar.specs.contracts.kind.Kind.{the_type}

-- which of the grammar's words a name is
abbrev pub word_kind : List ℕ → Kind
word_kind name = if bytes_eq name (codes "on") then k.On
    else if bytes_eq name (codes "query") then k.Query
    else if bytes_eq name (codes "mutation") then k.Mutation
    else if bytes_eq name (codes "subscription") then k.Subscription
    else if bytes_eq name (codes "fragment") then k.Fragment
    else if bytes_eq name (codes "true") then k.True
    else if bytes_eq name (codes "false") then k.False
    else if bytes_eq name (codes "null") then k.Null
    else k.Name

-- the kind of a token
abbrev pub kind : Token → Kind
kind (t.Name name) = word_kind name
kind (t.Scalar s) = k.Scalar
kind t.ExclamationMark = k.ExclamationMark
kind t.Dollar = k.Dollar
kind t.ParenOpen = k.ParenOpen
kind t.ParenClose = k.ParenClose
kind t.BracketOpen = k.BracketOpen
kind t.BracketClose = k.BracketClose
kind t.CurlyOpen = k.CurlyOpen
kind t.CurlyClose = k.CurlyClose
kind t.Ellipsis = k.Ellipsis
kind t.Colon = k.Colon
kind t.Equals = k.Equals
kind t.At = k.At
kind t.Pipe = k.Pipe
kind t.EndOfFile = k.EndOfFile

-- ---- sets of kinds

-- a set of kinds
abbrev pub Kinds : Type 0
Kinds = Kind → Bool

abbrev pub same_kind : Kind → Kind → Bool
same_kind = sameb the_type

-- the empty set of kinds
abbrev pub no_kind : Kinds
no_kind = λ v. false

-- this kind alone
abbrev pub only : Kind → Kinds
only w = λ v. same_kind v w

-- the kinds of one set and of the other
abbrev pub either : Kinds → Kinds → Kinds
either s u = λ v. s v || u v

-- any name
abbrev pub names : Kinds
names k.Name = true
names k.On = true
names k.Query = true
names k.Mutation = true
names k.Subscription = true
names k.Fragment = true
names k.True = true
names k.False = true
names k.Null = true
names _ = false

-- the name of a fragment: any name but `on` (2.8 Fragments, FragmentName)
abbrev pub fragment_names : Kinds
fragment_names k.On = false
fragment_names w = names w

-- the name of an enum's value: any name but `true`, `false` and `null` (2.9.6 Enum Value)
abbrev pub enum_names : Kinds
enum_names k.True = false
enum_names k.False = false
enum_names k.Null = false
enum_names w = names w

abbrev pub all_kinds : List Kind
all_kinds = k.Name ∷ k.On ∷ k.Query ∷ k.Mutation ∷ k.Subscription ∷ k.Fragment ∷ k.True ∷ k.False
    ∷ k.Null ∷ k.Scalar ∷ k.ExclamationMark ∷ k.Dollar ∷ k.ParenOpen ∷ k.ParenClose
    ∷ k.BracketOpen ∷ k.BracketClose ∷ k.CurlyOpen ∷ k.CurlyClose ∷ k.Ellipsis ∷ k.Colon ∷ k.Equals
    ∷ k.At ∷ k.Pipe ∷ k.EndOfFile ∷ []

abbrev pub all_of : Kinds → List Kind → Bool
all_of s [] = true
all_of s (v ∷ vs) = s v && all_of s vs

-- it holds of each kind
abbrev pub every : Kinds → Bool
every s = all_of s all_kinds

-- no kind is in both
abbrev pub apart : Kinds → Kinds → Bool
apart s u = every (λ v. not (s v && u v))

-- each kind of the first is in the second
abbrev pub are_among : Kinds → Kinds → Bool
are_among s u = every (λ v. not (s v) || u v)
