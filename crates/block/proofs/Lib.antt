mod Printed
pub mod Worked
