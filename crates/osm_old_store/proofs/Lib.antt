pub mod SchemaLemmas
pub mod PutLemmas
pub mod LoadLemmas
pub mod MapLemmas
pub mod AuditLemmas
