-- Laws of forward sets with hidden letters behind them; the functions' proofs cite them.
pub mod Hulls
