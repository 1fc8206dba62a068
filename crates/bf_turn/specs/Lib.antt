-- Logs and what is seen of them, what a seat knows, and the order in which the table keeps all of it.
pub mod Logs
pub mod Seats
pub mod Views
pub mod Order
pub mod Diaries
