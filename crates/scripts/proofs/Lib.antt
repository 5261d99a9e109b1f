mod Turning
mod Running
