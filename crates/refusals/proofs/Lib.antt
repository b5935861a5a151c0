-- Laws of the first fault, of a loop that looks for it, and of lent slices.
pub mod Order
pub mod FaultLoop
pub mod Lent
