-- Laws about the definitions of `profile`, by subject; other crates cite them.
-- reachable logs and prefixes
pub mod Prefixes
pub mod Scan
pub mod Counting
pub mod Levels
-- the first place that passes; lists that a loop fills from their start; sets and unions in loops
pub mod FirstPlaces
pub mod Fronts
pub mod SetLoops
pub mod Unions
-- automata and the earliest order
pub mod Automata
pub mod Profiles
pub mod LetterOrder
pub mod Earliest
pub mod Judgement
-- two logs, two relations
pub mod Comparison
pub mod Looks
pub mod Sameness
-- the table
pub mod Packing
pub mod Tables
pub mod Merge
pub mod RecordOrder
-- refusals, and what the demands ask
pub mod Refusals
pub mod Longest
pub mod OldRecords
pub mod Agreement
pub mod Calls
pub mod Demands
