pub mod Authenticated
