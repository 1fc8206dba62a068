-- Lists of links by rising id, proxies, and where they are made.
pub mod Joined
pub mod Proxies
pub mod Homes
