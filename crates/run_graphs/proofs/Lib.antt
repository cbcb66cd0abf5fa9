pub mod Becoming
