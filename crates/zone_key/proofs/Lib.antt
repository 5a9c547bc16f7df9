pub mod CrcLemmas
pub mod WordLemmas
pub mod OrderLemmas
pub mod ValueLemmas
pub mod ExprLemmas
pub mod Printed
pub mod Spelled
