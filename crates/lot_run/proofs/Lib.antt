mod Judging
mod Steps
mod Sums
mod Runs
