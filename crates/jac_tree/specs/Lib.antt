pub mod Faults
pub mod Grammar
pub mod Mirror
pub mod Plain
pub mod Printed
pub mod Reading
