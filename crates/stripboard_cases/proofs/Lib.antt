mod CaseLines
mod Fronts
mod Found
mod Counts
mod Hands
mod Turns
