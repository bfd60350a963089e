pub mod Computing
pub mod ScriptWords
pub mod RunAppends
pub mod RunsGoOn
pub mod examples
