pub mod Standing
pub mod Following
pub mod CallsAccounted
pub mod OneTable
pub mod ReportLines
pub mod BookAccounted
pub mod Examples
