pub mod MapsTested
