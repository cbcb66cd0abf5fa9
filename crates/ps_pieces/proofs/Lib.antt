mod ShortColumns
mod Faults
mod Numbers
pub mod Fitting
mod Results
mod Answering
mod Cutting
