pub mod Support
