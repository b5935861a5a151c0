-- The network file, byte by byte: what each place means, and which number a file is refused by. Read in this order.
pub mod Versions
pub mod NetworkFile
pub mod NetworkNumber
pub mod NetworkRefusal
pub mod working
