mod Kept
mod Holders
mod Missing
