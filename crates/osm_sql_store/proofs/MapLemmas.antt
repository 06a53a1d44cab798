-- The map that a store holds, before and after its calls.
pub mod AfterCalls
pub mod HeldTables
