mod Updated
mod MapTurn
mod JoinTurn
mod KeyCopies
mod Found
