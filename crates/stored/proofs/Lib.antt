-- Why the lists are read right. Read in this order.
pub mod Tabulate
pub mod Places
pub mod Refusals
pub mod InList
pub mod Lists
pub mod Faults
pub mod Entries
pub mod Scan
pub mod ShortLists
pub mod Passed
