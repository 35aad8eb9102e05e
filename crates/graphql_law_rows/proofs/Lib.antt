pub mod SampleTokens
pub mod SampleScalars
pub mod SampleValues
pub mod SampleLiterals
pub mod SampleTexts
pub mod Parsed
pub mod Told
pub mod KeptRules
