-- Laws about the places of events; other crates cite them.
pub mod Places
pub mod NextPlaces
