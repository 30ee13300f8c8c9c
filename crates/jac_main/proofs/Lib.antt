mod Promised
mod Refused
