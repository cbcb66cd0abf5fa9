mod SameNames
mod SmallPlans
