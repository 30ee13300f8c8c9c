pub mod Dump
pub mod Upgrade
pub mod Explain
