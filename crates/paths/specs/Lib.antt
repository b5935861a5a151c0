-- What a path, a beaten pair, a trade-off list and a best answer are. Read the files in this order.
pub mod Figures
pub mod Weights
pub mod Network
pub mod TradeOff
pub mod Answer
pub mod Route
pub mod Forest
pub mod LocalTest
pub mod Cut
pub mod Examples
