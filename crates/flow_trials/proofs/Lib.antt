mod Numbers
mod Rules
mod Fitting
