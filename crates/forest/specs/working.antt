-- What parents that passed hold, and what the functions that read them ask and tell. Read in this order.
pub mod Fits
pub mod ParentsRead
