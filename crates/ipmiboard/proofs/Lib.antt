pub mod Messaging
