pub mod Fasta
pub mod Shares
pub mod Promised
