-- Which number a label file is refused by, and the part of it that is shown. Read in this order.
pub mod LabelForm
pub mod Shown
pub mod working
