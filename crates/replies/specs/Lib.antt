-- What the program `answer` prints (SCOPE 6). Read in this order.
pub mod Lines
pub mod Reply
pub mod Printed
pub mod HandedOn
pub mod working
