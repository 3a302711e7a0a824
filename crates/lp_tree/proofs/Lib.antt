pub mod Keywords
pub mod Lines
pub mod Examples
pub mod ExprNodes
pub mod StmtNodes
