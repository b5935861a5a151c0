-- The label file's numbers, and the parents: depths and ancestors. Read in this order.
pub mod LabelVersions
pub mod LabelFile
pub mod Forest
pub mod working
