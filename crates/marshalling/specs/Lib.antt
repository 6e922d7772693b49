pub mod Marshalling
