pub mod HeldLeads
pub mod Blocks
pub mod Nodes
pub mod FirstBits
pub mod Trees
