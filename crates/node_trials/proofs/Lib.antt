mod Inputs
mod MapsTested
