-- The document of one line, `{a(b:null)}`: its plain text is a document, its own.
use Rattle.std.proofs.Common.{◌≡◌, refl, sym, subst, ap, lit<, ℕ, Bool, false, inr, List, [], ◌∷◌, ◌++◌, Option, Some, None, Result, inl, codes}
use Rattle.std.specs.Str.{chars, IsUtf8}
use lib.Utf8.{encode}
use Rattle.graphql_names.specs.Names.{Bytes}
use Rattle.graphql_text.specs.declared.token.Token.TheVariants as t
use Rattle.graphql_text.specs.declared.token.ScalarToken.{ScalarToken}
use Rattle.graphql_text.specs.declared.parse_error.ParseError.{ParseError}
use Rattle.graphql_text.specs.Reading.{Place, between}
use Rattle.graphql_text.specs.Tokens.{Tokens, cut, token, ahead, name_from}
use Rattle.graphql_lexer.proofs.SoundTexts.{tokens_divide}
use Rattle.graphql_scalars.specs.ScalarAnswers.{ScalarAnswer}
use Rattle.graphql_values.specs.declared.input_value.InputValue.{InputValue}
use Rattle.graphql_values.specs.declared.input_value.InputValue.TheVariants as value
use Rattle.graphql_grammar.specs.Input.{At, Located}
use Rattle.graphql_grammar.specs.Relations.{present, none_more}
use Rattle.graphql_grammar.proofs.Cursors.{word_is_name}
use Rattle.graphql_tree.specs.Arguments.{Argument}
use Rattle.graphql_tree.specs.declared.directive.Arguments.{Arguments}
use Rattle.graphql_tree.specs.declared.document.Definition.{Definition}
use Rattle.graphql_tree.specs.declared.document.Definition.TheVariants as definition
use Rattle.graphql_tree.specs.declared.document.Operation.{Operation}
use Rattle.graphql_tree.specs.declared.document.OperationType.TheVariants as operation
use Rattle.graphql_tree.specs.declared.selection.Field.{Field}
use Rattle.graphql_tree.specs.declared.selection.Selection.TheVariants as selection
use Rattle.graphql_value_syntax.specs.Directives.{Named, ArgumentOf, ArgumentsOf, DirectivesOf}
use Rattle.graphql_value_syntax.specs.Values.{of_null}
use Rattle.graphql_language.specs.ReadDocuments.{query_of}
use Rattle.graphql_language.specs.Selections.{NamesOf, SelectionOf, SetOf, no_set, of_field, of_parts, of_set, one_selection}
use Rattle.graphql_language.specs.Documents.{DocumentOf}
use Rattle.graphql_language.specs.Texts.{IsCut, IsDocument}
use Rattle.graphql_written_out.specs.Trees.{Tree, none, field, is_empty, IsFilled}
use Rattle.graphql_written_out.specs.Written.{head_of, spread_as, fragment_meant, listed, write, written}
use Rattle.graphql_written_out.proofs.WrittenEquations.{write_field}
use Rattle.graphql_plain_tree.specs.PlainDocuments.{document_of}
use Rattle.graphql_plain_tree.specs.PlainOperations.{PlainOperation, operation_with, plain_by, plain_operation}
use Rattle.graphql_plain_text.specs.Laws.{IsTextOf}
use Rattle.graphql_plain_text.specs.PlainTexts.{plain_text}
use Rattle.graphql_plain_text.proofs.PlainDocuments.{plain-document}
use Rattle.graphql_plain_text.proofs.Rows.{at, from_to, put}

-- ---- the text and its tokens

abbrev pub source : Bytes
source = codes "{a(b:null)}"

abbrev pub inside : List Located
inside = put 3 4 (t.Name (codes "b")) ∷ put 4 5 t.Colon ∷ put 5 9 (t.Name (codes "null")) ∷ []

abbrev pub in_list : List Located
in_list = put 2 3 t.ParenOpen ∷ (inside ++ put 9 10 t.ParenClose ∷ [])

abbrev pub in_field : List Located
in_field = put 1 2 (t.Name (codes "a")) ∷ in_list

abbrev pub tokens : List Located
tokens = put 0 1 t.CurlyOpen ∷ (in_field ++ put 10 11 t.CurlyClose ∷ [])

abbrev from : ℕ → List ℕ → Place
from n rest = record { at = at n; rest = rest }

they_are_read : Tokens source (tokens ++ put 11 11 t.EndOfFile ∷ [])
unfolding cut token ahead name_from between encode
they_are_read = record {
  front = tokens;
  last = put 11 11 t.EndOfFile;
  is = refl;
  before = from 11 [];
  after = from 11 [];
  runs = (
    from 1 (codes "a(b:null)}"),
    refl,
    refl,
    (
      from 2 (codes "(b:null)}"),
      refl,
      refl,
      (
        from 3 (codes "b:null)}"),
        refl,
        refl,
        (
          from 4 (codes ":null)}"),
          refl,
          refl,
          (
            from 5 (codes "null)}"),
            refl,
            refl,
            (
              from 9 (codes ")}"),
              refl,
              refl,
              (
                from 10 (codes "}"),
                refl,
                refl,
                (from 11 [], refl, refl, refl),
              ),
            ),
          ),
        ),
      ),
    ),
  );
  ends = refl;
  end = refl;
}

source_is : chars source ≡ source
unfolding chars
source_is = refl

it_is_utf8 : IsUtf8 source
unfolding encode
it_is_utf8 = (source, (refl, refl))

it_is_cut : IsCut (chars source) tokens (from_to 11 11)
it_is_cut =
    subst (λ text. IsCut text tokens (from_to 11 11)) (sym source_is)
    (tokens_divide source _ they_are_read)

-- ---- the document that they spell

named : (m n : ℕ) (name : Bytes) → Named (put m n (t.Name name) ∷ [])
    (record { item = name; span = from_to m n })
named m n name = record {
  head = put m n (t.Name name);
  tail = [];
  is = refl;
  spells =
      record {
        at = put m n (t.Name name);
        alone = refl;
        of_kind = word_is_name name;
        means = refl;
      };
  stands = refl;
}

module _ {S : Type 0} (reads : ScalarToken → Result S ParseError) (of_bool : Bool → S) where
  abbrev argument : Argument S
  argument = (
    record { item = codes "b"; span = from_to 3 4 },
    record { item = value.Null; span = from_to 5 9 },
  )

  abbrev arguments : At (Arguments S)
  arguments = record { item = record { items = argument ∷ [] }; span = from_to 2 10 }

  abbrev the_field : Field S
  the_field = record {
    alias = None;
    name = record { item = codes "a"; span = from_to 1 2 };
    arguments = Some arguments;
    directives = None;
    selection_set = None;
  }

  abbrev a_field : At (Field S)
  a_field = record { item = the_field; span = from_to 1 10 }

  abbrev pub query : At (Operation S)
  query = record { item = query_of (selection.Field a_field ∷ []); span = from_to 0 11 }

  abbrev pub document : List (Definition S)
  document = definition.Operation query ∷ []

  argument_is : ArgumentOf S reads of_bool false inside argument
  argument_is = record {
    front = put 3 4 (t.Name (codes "b")) ∷ [];
    back = put 4 5 t.Colon ∷ put 5 9 (t.Name (codes "null")) ∷ [];
    is = refl;
    part = argument.0;
    begins = named 3 4 (codes "b");
    ends = record {
      front = put 4 5 t.Colon ∷ [];
      back = put 5 9 (t.Name (codes "null")) ∷ [];
      is = refl;
      part = tt;
      begins = record { at = put 4 5 t.Colon; alone = refl; of_kind = refl; means = refl };
      ends =
          record {
            part = argument.1;
            spells = of_null (put 5 9 (t.Name (codes "null"))) refl;
            is
                = refl;
          };
    };
  }

  arguments_are : ArgumentsOf S reads of_bool false in_list arguments
  arguments_are = record {
    head = put 2 3 t.ParenOpen;
    tail = inside ++ put 9 10 t.ParenClose ∷ [];
    is = refl;
    spells = record {
      part = argument ∷ [];
      spells = record {
        first = put 2 3 t.ParenOpen;
        inside = inside;
        last = put 9 10 t.ParenClose;
        is = refl;
        opens = refl;
        closes = refl;
        spells = record {
          front = inside;
          back = [];
          is = refl;
          part = argument;
          begins = argument_is;
          ends = none_more;
        };
      };
      is = refl;
    };
    stands = refl;
  }

  names_are : NamesOf (put 1 2 (t.Name (codes "a")) ∷ [])
      (None, record { item = codes "a"; span = from_to 1 2 })
  names_are = record {
    front = put 1 2 (t.Name (codes "a")) ∷ [];
    back = [];
    is = refl;
    part = record { item = codes "a"; span = from_to 1 2 };
    begins = named 1 2 (codes "a");
    ends = inr (record { empty = refl; is = refl });
  }

  no_directives : DirectivesOf S reads of_bool false [] None
  no_directives = record { part = []; spells = none_more; is = refl }

  field_is : SelectionOf S reads of_bool in_field (selection.Field a_field)
  field_is =
      of_field in_field a_field
      (record { head = put 1 2 (t.Name (codes "a")); tail = in_list; is = refl; stands = refl })
      (of_parts (put 1 2 (t.Name (codes "a")) ∷ []) in_list [] [] the_field names_are
      (present in_list arguments arguments_are) no_directives no_set)

  set_is : SetOf S reads of_bool tokens (selection.Field a_field ∷ [])
  set_is =
      of_set (put 0 1 t.CurlyOpen) (put 10 11 t.CurlyClose) in_field (selection.Field a_field ∷ [])
      refl
      (one_selection in_field (selection.Field a_field) field_is) refl

  document_is : DocumentOf S reads of_bool tokens document
  document_is = record {
    front = tokens;
    back = [];
    is = refl;
    part = definition.Operation query;
    begins = inr (record {
      part = query;
      spells = record {
        head = put 0 1 t.CurlyOpen;
        tail = in_field ++ put 10 11 t.CurlyClose ∷ [];
        is = refl;
        spells = inl (record { part = selection.Field a_field ∷ []; spells = set_is; is = refl });
        stands = refl;
      };
      is = refl;
    });
    ends = none_more;
  }

  it_is_document : IsDocument S reads of_bool (chars source) document
  it_is_document =
      record { tokens = tokens; finish = from_to 11 11; cut = it_is_cut; spells = document_is }

  -- ---- its plain operation, and the plain text

  abbrev tree : Tree S
  tree = field (head_of a_field) [] none none

  it_is_written : written [] (selection.Field a_field ∷ []) ≡ tree
  unfolding written
  it_is_written =
      write_field (λ x rest. spread_as (write 0 []) (listed x.directives) rest
      (fragment_meant [] x.name.item)) a_field none

  module _ (answer : S → ScalarAnswer) (given : Bytes → Option (InputValue S)) where
    abbrev pub plain_query : PlainOperation S
    plain_query =
        record { operation_type = operation.Query; name = None; variables = []; set = tree }

    it_is_plain : plain_operation answer of_bool given [] query.item ≡ plain_query
    it_is_plain =
        λ i. operation_with operation.Query None [] (plain_by answer of_bool given
        (it_is_written i))

    pub plain_text_is : plain_text tokens (plain_operation answer of_bool given [] query.item)
        ≡ codes "query { a ( b : null ) }"
    plain_text_is = ap (plain_text tokens) it_is_plain

    -- cut and parsed anew it is the plain query's document, and no other
    pub text_is_document : IsTextOf S reads of_bool (codes "query { a ( b : null ) }")
        (document_of plain_query)
    text_is_document =
        let law =
        plain-document reads of_bool answer source tokens (from_to 11 11) document query given
        it_is_utf8 it_is_cut it_is_document (0, lit< tt, refl)
        (subst (λ (x : Tree S). is_empty x ≡ false) (sym it_is_written) refl)
        (subst (λ (x : Tree S). IsFilled x) (sym it_is_written) (refl, tt, tt)) in
        subst (λ (p : PlainOperation S). IsTextOf S reads of_bool (plain_text tokens p)
        (document_of p)) it_is_plain law
