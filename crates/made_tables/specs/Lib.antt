pub mod Uncalling
pub mod Made
pub mod Joinable
