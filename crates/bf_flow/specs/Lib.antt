-- Flows among ranks that balance their loads by diffusion.
pub mod Flows
