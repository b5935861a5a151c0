-- What the functions on lists ask and tell. Read in this order.
pub mod Lists
pub mod Sums
