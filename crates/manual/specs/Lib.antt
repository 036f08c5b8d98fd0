pub mod Matpower
pub mod Slack
pub mod Flows
pub mod Balance
pub mod Objective
pub mod Clarabel
pub mod Documents
