pub mod Laws
pub mod LawsTables
