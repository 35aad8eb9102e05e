mod AllowedAlike
mod AnsweredAround
mod DifferUnder
mod JoinOfThree
mod SameTexts
mod StoredAsked
