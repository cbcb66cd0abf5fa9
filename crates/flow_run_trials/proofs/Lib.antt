mod Looking
mod Plans
mod Tried
