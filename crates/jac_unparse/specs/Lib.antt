pub mod TreeOf
