mod AddrWords
mod Bars
mod Commands
mod Heard
mod Scripts
mod Sets
mod WordList
