-- What is promised of the call for the closest order with terms.
pub mod Dated
