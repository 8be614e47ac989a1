-- Laws of `src/depends.rt`.
pub mod PlaneDependence
pub mod TurnedPlaces
