-- Words of the contracts: counts of faults, sources, sinks, pages, sheets, and the two forms in memory.
pub mod Faults
pub mod Source
pub mod Sink
pub mod MemSource
pub mod MemSink
pub mod Page
pub mod Sheet
