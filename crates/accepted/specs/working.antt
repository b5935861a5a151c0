-- What the functions of the check, of a batch, of a route and of a list leave.
pub mod Accepting
pub mod Triples
pub mod RoutePut
pub mod ListPut
pub mod FromCheck
