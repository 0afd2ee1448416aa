pub mod EvaluateDatagrams
pub mod EvaluateLines
