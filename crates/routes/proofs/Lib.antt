-- Why a route is the first. Read in this order.
pub mod RouteSteps
pub mod RouteWay
