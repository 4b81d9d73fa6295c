pub mod Parts
pub mod WriteRules
pub mod ExprRules
pub mod QueryRules
pub mod Grammar
pub mod Laws
