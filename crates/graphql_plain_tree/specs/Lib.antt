pub mod Plain
pub mod PlainRelation
pub mod PlainShape
pub mod StandIns
pub mod PlainOperations
pub mod PlainDocuments
pub mod DocumentTrees
pub mod Laws
