mod Acts
mod Keys
mod Sound
