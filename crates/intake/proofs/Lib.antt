mod Standing
mod Steps
