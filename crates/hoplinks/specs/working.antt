-- Where two branches meet, and which ancestors are marked there. Read in this order.
pub mod Meeting
pub mod Marking
