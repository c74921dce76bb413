-- What a reader must believe of the bus: events, operations and their runs, the traffic, and where a refused byte cuts it.
pub mod Events
pub mod Operations
pub mod Traffic
