-- Why the parents are read right. Read in this order.
pub mod LabelVersionTable
pub mod Chains
pub mod Forest
pub mod Pigeonhole
pub mod ParentLoops
pub mod OneChain
