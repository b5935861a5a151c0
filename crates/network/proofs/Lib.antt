-- Laws of the network file, for those who read it further.
pub mod VersionTable
pub mod NetworkTests
pub mod Accepted
pub mod Arcs
pub mod RoadsAt
pub mod GroupedRoads
