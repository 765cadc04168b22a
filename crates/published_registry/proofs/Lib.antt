mod Adding
mod Fronts
mod Later
mod Moves
mod Steps
