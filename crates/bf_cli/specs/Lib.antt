-- What the program answers to words and an input: the words, what a command makes of an input, what ranks run, and the answers.
pub mod Commands
pub mod Inputs
pub mod Driven
pub mod Ends
pub mod Answers
pub mod Told
