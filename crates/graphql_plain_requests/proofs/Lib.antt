pub mod AcceptedValues
mod UnusedValues
mod AcceptedTexts
mod OnePlain
pub mod PlainDocuments
mod Refused
pub mod KeptTokens
pub mod KeptPlain
pub mod SamePlain
pub mod PlainTextStays
pub mod Erased
pub mod LocalRules
pub mod Scopes
pub mod ScopeRules
pub mod ValidAlike
pub mod Choices
pub mod AskedAlike
pub mod PlainAlike
pub mod Alike
pub mod TruthsAlike
pub mod RequestsStay
pub mod LiteralsAlike
pub mod MergingAlike
