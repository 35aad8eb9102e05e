-- Texts without a token are read as they say; the tokens of the two lines spell their document, and no tokens none.
use Rattle.std.proofs.Common.{◌≡◌, refl, ℕ, inl, inr, Bool, false, List, [], ◌∷◌, ◌++◌, None, Result, codes}
use Rattle.graphql_text.specs.declared.parse_error.ParseError.{ParseError}
use Rattle.graphql_text.specs.declared.position.SourcePosition.{SourcePosition}
use Rattle.graphql_text.specs.declared.token.ScalarToken.{ScalarToken}
use Rattle.graphql_text.specs.declared.token.Token.TheVariants.{EndOfFile}
use Rattle.graphql_text.specs.Position.{origin}
use Rattle.graphql_text.specs.Reading.{between}
use Rattle.graphql_text.specs.Tokens.{Tokens, cut, token, ahead, name_from}
use Rattle.graphql_grammar.specs.Input.{Located}
use Rattle.graphql_grammar.specs.Ahead.{mk}
use Rattle.graphql_grammar.specs.Faults.{FirstFaultyToken, unexpected_token}
use Rattle.graphql_grammar.specs.Relations.{absent, none_more}
use Rattle.graphql_tree.specs.declared.document.Definition.{Definition}
use Rattle.graphql_value_syntax.specs.Directives.{DirectivesOf, Named}
use Rattle.graphql_language.specs.Documents.{DefinitionOf, DocumentOf}
use Rattle.graphql_language.specs.ReadDocuments.{query_of}
use Rattle.graphql_language.specs.Selections.{NamesOf, SelectionOf, SetOf, no_set, of_field, of_parts, of_set, one_selection}
use Rattle.graphql_language.specs.Texts.{Documents}
use Rattle.graphql_law_rows.specs.SampleTexts.{blank, fault, field_a, nothing, tree}
use Rattle.graphql_law_rows.specs.SampleTokens.{at, before_end, closed, token_at, name_token, opened, span}
use Rattle.graphql_law_rows.proofs.SampleTokens.{stands}
use lib.Utf8.{encode}

-- ---- tokens

-- the end alone
abbrev pub only_end : SourcePosition → List Located
only_end place = token_at EndOfFile place place ∷ []

pub nothing_is_read : Tokens nothing (only_end (at 0 0 0))
unfolding cut token ahead name_from between encode
nothing_is_read = record {
  front = [];
  last = token_at EndOfFile (at 0 0 0) (at 0 0 0);
  is = refl;
  before = stands (at 0 0 0) [];
  after = stands (at 0 0 0) [];
  runs = refl;
  ends = refl;
  end = refl;
}

pub blank_is_read : Tokens blank (only_end (at 1 0 1))
unfolding cut token ahead name_from between encode
blank_is_read = record {
  front = [];
  last = token_at EndOfFile (at 1 0 1) (at 1 0 1);
  is = refl;
  before = stands (at 0 0 0) (32 ∷ []);
  after = stands (at 1 0 1) [];
  runs = refl;
  ends = refl;
  end = refl;
}

-- ---- trees

-- `a`, without an alias
a_is_named : Named (name_token ∷ []) (record { item = codes "a"; span = name_token.span })
a_is_named = record {
  head = name_token;
  tail = [];
  is = refl;
  spells = record { at = name_token; alone = refl; of_kind = refl; means = refl };
  stands = refl;
}

names : NamesOf (name_token ∷ []) (None, record { item = codes "a"; span = name_token.span })
names = record {
  front = name_token ∷ [];
  back = [];
  is = refl;
  part = record { item = codes "a"; span = name_token.span };
  begins = a_is_named;
  ends = inr (record { empty = refl; is = refl });
}

module _ {S : Type 0} (reads : ScalarToken → Result S ParseError) (of_bool : Bool → S) where
  no_directives : DirectivesOf S reads of_bool false [] None
  no_directives = record { part = []; spells = none_more; is = refl }

  a_is_selected : SelectionOf S reads of_bool (name_token ∷ []) field_a
  a_is_selected =
      of_field (name_token ∷ []) _ (record { head = name_token; tail = []; is = refl; stands = refl })
      (of_parts (name_token ∷ []) [] [] [] _ names absent no_directives no_set)

  its_set : SetOf S reads of_bool before_end (field_a ∷ [])
  its_set = of_set opened closed (name_token ∷ []) (field_a ∷ []) refl (one_selection (name_token ∷ []) field_a a_is_selected) refl

  pub tokens_spell : DocumentOf S reads of_bool before_end tree
  tokens_spell = record {
    front = before_end;
    back = [];
    is = refl;
    part = _;
    begins = inr (record {
      part = record { item = query_of (field_a ∷ []); span = span (at 0 0 0) (at 4 1 2) };
      spells = record {
        head = opened;
        tail = name_token ∷ closed ∷ [];
        is = refl;
        spells = inl (record { part = field_a ∷ []; spells = its_set; is = refl });
        stands = refl;
      };
      is = refl;
    });
    ends = none_more;
  }

  -- without a token there is no definition
  no_definition : (ts : List Located) (x : Definition S) → ts ≡ [] → DefinitionOf S reads of_bool ts x → ⊥
  no_definition ts x none (inl fragment) = absurd (let e = fragment.spells.is in cc)
  no_definition ts x none (inr operation) = absurd (let e = operation.spells.is in cc)

  front_is_empty : (ts us : List Located) → [] ≡ ts ++ us → ts ≡ []
  front_is_empty [] us e = refl
  front_is_empty (t ∷ ts) us e = absurd (cc)

  no_document : (x : List (Definition S)) → DocumentOf S reads of_bool [] x → ⊥
  no_document x d = no_definition d.front d.part (front_is_empty d.front d.back d.is) d.begins

  -- so where none is left the text ends too early
  pub ends_too_early : FirstFaultyToken reads (Documents S reads of_bool) (mk [] (span (at 0 0 0) (at 0 0 0)) origin) fault
  ends_too_early = record {
    before = [];
    rest = [];
    front = refl;
    possible = record { more = before_end; tree = tree; spells = tokens_spell };
    impossible = λ a more e begins. absurd (cc);
    too_short = λ e x d. no_document x d;
    fault = unexpected_token refl (λ a more e scalar takes. absurd (cc));
  }
