mod OneAnswer
mod Running
mod SameAsking
mod FittingAnswers
