pub mod Leads
pub mod Stops
pub mod Works
pub mod Remainders
pub mod Traces
