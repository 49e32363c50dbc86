pub mod Listings
pub mod HeldLeads
pub mod Blocks
pub mod Searches
pub mod Replacements
pub mod Trees
pub mod Differences
