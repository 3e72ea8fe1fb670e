pub mod LastMember
pub mod CodeStep
pub mod LoopRuns
pub mod PutAmong
pub mod LoopTurns
pub mod RowAfterStep
pub mod Chains
