pub mod TraceOf
