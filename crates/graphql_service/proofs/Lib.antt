mod AlikeYields
mod PlainRuns
mod SameTokens
mod SameMeaning
mod AnsweredToo
mod JoinedData
mod DistinctAnswers
pub mod WrittenAnswers
mod ReadAnswers
mod ServedContexts
pub mod AnsweredApart
mod PlainAnswering
mod ServedPlain
mod MadeServices
