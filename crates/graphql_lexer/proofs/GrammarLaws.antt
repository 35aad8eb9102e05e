-- The reading of a text and the grammar are one; so the grammar gives one list of tokens, or one first fault.
use Rattle.std.proofs.Common.{◌⊎◌, inl, inr, List}
use Rattle.graphql_text.specs.Reading.{Refusal}
use Rattle.graphql_text.specs.Tokens.{Located, Tokens, FirstFault}
use Rattle.graphql_text.specs.Grammar.{IsDivided, IsBroken}
use Rattle.graphql_lexer.specs.Laws.{ReadingIsDivision, ReadingIsBreak, OneList, NotBoth, OneFault, EitherWay}
use Rattle.graphql_lexer.proofs.SoundTexts.{tokens_divide, fault_breaks}
use Rattle.graphql_lexer.proofs.CompleteTokens.{divided_tokens}
use Rattle.graphql_lexer.proofs.CompleteFaults.{broken_fault}
use Rattle.graphql_lexer.proofs.OneReading as reading

pub reading_is_division : ReadingIsDivision
reading_is_division text ts = (tokens_divide text ts, divided_tokens text ts)

pub reading_is_break : ReadingIsBreak
reading_is_break text e = (fault_breaks text e, broken_fault text e)

pub one_list : OneList
one_list text ts us a b = reading.one_list text ts us (divided_tokens text ts a) (divided_tokens text us b)

pub not_both : NotBoth
not_both text ts e a b = reading.not_both text ts e (divided_tokens text ts a) (broken_fault text e b)

pub one_fault : OneFault
one_fault text e f a b = reading.one_fault text e f (broken_fault text e a) (broken_fault text f b)

pub either_way : EitherWay
either_way text = on (reading.either_way text)
  where
    on : ((ts : List Located) × Tokens text ts) ⊎ ((e : Refusal) × FirstFault text e) → ((ts : List Located) × IsDivided text ts) ⊎ ((e : Refusal) × IsBroken text e)
    on (inl (ts, t)) = inl (ts, tokens_divide text ts t)
    on (inr (e, f)) = inr (e, fault_breaks text e f)
