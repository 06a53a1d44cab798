pub mod Change
pub mod Fault
pub mod File
pub mod Guarded
pub mod KernelLocks
pub mod Overlay
