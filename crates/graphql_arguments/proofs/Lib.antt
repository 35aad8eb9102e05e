mod Filtering
pub mod FirstValues
mod Making
pub mod SameOrders
mod WholeValues
