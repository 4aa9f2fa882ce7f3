-- Numbers told, admitted logs of the calls of document 02, lists of a running judge's calls, the order of refusals.
pub mod Told
pub mod Called
pub mod Turns
