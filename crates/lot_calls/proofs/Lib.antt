mod Tallies
mod Answering
mod Changing
mod Carrying
mod Outcomes
