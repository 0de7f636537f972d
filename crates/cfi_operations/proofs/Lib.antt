-- Laws of products.
pub mod Signs
