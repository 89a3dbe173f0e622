mod BlocksOfBytes
mod SettledBlocks
mod WritesKeepMeaning
