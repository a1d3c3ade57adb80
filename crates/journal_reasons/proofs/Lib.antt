mod Allowed
mod Inputs
mod Judgements
mod Lines
mod Replays
