-- Why branches meet where they are said to, and why the marks are the hoplinks. Read in this order.
pub mod Branches
pub mod Marks
