mod Lists
mod Moves
mod Steps
