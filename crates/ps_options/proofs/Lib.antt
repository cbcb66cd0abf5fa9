pub mod SameOptions
