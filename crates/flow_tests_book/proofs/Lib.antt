mod Nodes
mod Lines
