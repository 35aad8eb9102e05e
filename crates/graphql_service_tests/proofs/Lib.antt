mod AskedAgain
mod InParts
mod NullsKeptOut
mod OneAnswer
mod Spelled
