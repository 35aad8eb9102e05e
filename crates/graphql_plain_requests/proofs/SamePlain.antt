-- Plain operations that are the same but for places have the same tokens, where their scalars
-- keep
-- their
-- own, and the same size.
use Rattle.std.proofs.Common.{◌≡◌, sym, ◌∙◌, ap, Bool, false, List, Option, Result}
use Rattle.graphql_names.specs.Names.{Bytes}
use Rattle.graphql_text.specs.declared.token.ScalarToken.{ScalarToken}
use Rattle.graphql_text.specs.declared.parse_error.ParseError.{ParseError}
use Rattle.graphql_scalars.specs.ScalarAnswers.{ScalarAnswer}
use Rattle.graphql_values.specs.InputValues.{Placed}
use Rattle.graphql_values.specs.declared.input_value.InputValue.{InputValue}
use Rattle.graphql_grammar.specs.Alike.{tokens_of}
use Rattle.graphql_grammar.specs.Input.{Located}
use Rattle.graphql_tree.specs.Definitions.{fragments_listed}
use Rattle.graphql_tree.specs.declared.document.Definition.{Definition}
use Rattle.graphql_tree.specs.declared.document.Operation.{Operation}
use Rattle.graphql_written_out.specs.Trees.{is_empty, IsFilled}
use Rattle.graphql_plain_tree.specs.Plain.{size}
use Rattle.graphql_plain_tree.specs.PlainOperations.{PlainOperation, plain_operation}
use Rattle.graphql_plain_text.specs.SpanTokens.{tokens_within}
use Rattle.graphql_plain_text.specs.Spelt.{AreSpelt}
use Rattle.graphql_plain_text.specs.TreeTokens.{operation_tokens}
use Rattle.graphql_plain_text.proofs.RisingTokens.{Climb}
use Rattle.graphql_moved.specs.Kept.{Kept, bare}
use Rattle.graphql_moved.specs.Moved.{here}
use Rattle.graphql_moved.specs.MovedTrees.{moved_plain}
use Rattle.graphql_plain_requests.proofs.KeptPlain.{KeptOperation, bare-plain, kept_plain, kept_set, tokens-kept}
use Rattle.graphql_plain_requests.proofs.KeptTokens.{own-blind, own_tokens}
use Rattle.graphql_moved.proofs.MovedPlain.{size-moved}
use Rattle.graphql_moved.proofs.Unlocated.{nowhere, same}

module _ {S : Type 0} (reads : ScalarToken → Result S ParseError) (of_bool : Bool → S)
    (answer : S → ScalarAnswer)
    (ts us : List Located) (document again : List (Definition S)) (o x : Placed (Operation S))
    (k : KeptOperation reads of_bool answer ts document o)
    (l : KeptOperation reads of_bool answer us again x)
    (values others : Bytes → Option (InputValue S)) where
  abbrev p : PlainOperation (Kept S)
  p = kept_plain reads of_bool answer ts document o k values

  abbrev q : PlainOperation (Kept S)
  q = kept_plain reads of_bool answer us again x l others

  abbrev plain_one : PlainOperation S
  plain_one = plain_operation answer of_bool values (fragments_listed document) o.item

  abbrev plain_other : PlainOperation S
  plain_other = plain_operation answer of_bool others (fragments_listed again) x.item

  pub same-plain : Climb 0 ts → Climb 0 us → AreSpelt (tokens_of ts) → AreSpelt (tokens_of us)
      → is_empty (kept_set reads of_bool answer ts document o k values) ≡ false
      → is_empty (kept_set reads of_bool answer us again x l others) ≡ false
      → IsFilled (kept_set reads of_bool answer ts document o k values)
      → IsFilled (kept_set reads of_bool answer us again x l others)
      → moved_plain same nowhere q ≡ moved_plain same nowhere p
      → (operation_tokens (tokens_within us) plain_other
      ≡ operation_tokens (tokens_within ts) plain_one)
      × (size plain_other.set ≡ size plain_one.set)
  same-plain rises rises_again spelt spelt_again some some_again filled filled_again alike = (
    tokens-kept reads of_bool answer us again x l others rises_again spelt_again some_again
        filled_again
        ∙ sym (own-blind q) ∙ ap own_tokens alike ∙ own-blind p
        ∙ sym (tokens-kept reads of_bool answer ts document o k values rises spelt some filled),
    ap (λ (z : PlainOperation S). size z.set)
        (bare-plain reads of_bool answer us again x l others)
        ∙ size-moved bare here q.set
        ∙ sym (size-moved same nowhere q.set)
        ∙ ap (λ (z : PlainOperation (Kept S)). size z.set) alike
        ∙ size-moved same nowhere p.set
        ∙ sym (ap (λ (z : PlainOperation S). size z.set)
        (bare-plain reads of_bool answer ts document o k values) ∙ size-moved bare here p.set),
  )
