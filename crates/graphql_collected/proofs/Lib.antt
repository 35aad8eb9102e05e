pub mod NamesBehind
