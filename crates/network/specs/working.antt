-- What a network that passed holds, and its roads by junction. Read in this order.
pub mod Fits
pub mod Roads
pub mod RoadsRead
