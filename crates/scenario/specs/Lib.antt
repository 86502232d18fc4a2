pub mod Scenario
