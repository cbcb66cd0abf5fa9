mod Walks
mod Steps
mod Answered
mod HeadLemmas
mod HeadsSeen
mod Ceilings
