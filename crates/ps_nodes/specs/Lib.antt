pub mod Forms
pub mod Fit
pub mod Seen
pub mod FlowLaws
pub mod Told
