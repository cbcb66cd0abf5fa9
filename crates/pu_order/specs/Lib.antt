-- The definitions that this crate's contracts cite.
pub mod Bits
pub mod BytesHash
pub mod Hashing
pub mod Partitioning
pub mod TotalHash
pub use Rattle.pu_partition.specs.Partitions
